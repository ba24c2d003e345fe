use Rattle.std.proofs.Common.{◌∙◌, sym, ap, refl}
use Rattle.syntax_tree.specs.Numbers.{numbered}
use Rattle.syntax_tree.specs.Derivations.{main_function}
use Rattle.luau_parser.proofs.OneTree.{same_block}
use Rattle.luau_parser.proofs.laws.one_tree.Goals as goal

pub returns : goal.returns
returns c = λ ts tree other a b.
    let r = same_block a.derived.derived b.derived.derived refl in
    a.numbers ∙ ap (λ x. numbered (main_function x)) r.1 ∙ sym b.numbers
