use Rattle.std.proofs.Common.{sym, subst, ◌∙◌}
use Rattle.lib_arguments.specs.Checks.{Fails}
use Rattle.lib_string.proofs.CodeRows.{no_byte}
use Rattle.lib_string.proofs.characters.bytes_of.Goals as goal

pub returns-in-None : goal.returns-in-None
returns-in-None c = λ texts go.
    subst (λ row. Fails texts row c.out_of_range.result) (sym (c.loop-i.invariant go ∙ no_byte c.args.numbers.now c.loop-i.i c.index-numbers-i.result c.loop-i.bytes.items go c.loop-i-test.true c.index-numbers-i.is c.in-None.ensures))
    (c.out_of_range.ensures texts)
