-- The tree that is read, with its bindings.
use Rattle.std.proofs.Common.{◌≡◌, ◌∙◌, ℕ, List, [], ap, rules}
use Rattle.syntax_tree.specs.declared.bindings.Bindings.{Bindings}
use Rattle.syntax_tree.specs.declared.token.Token.{Token}
use Rattle.syntax_tree.specs.declared.tree.ExprKind.TheFolds as folds
use Rattle.syntax_tree.specs.declared.tree.ExprKind.TheViews as views
use Rattle.syntax_tree.specs.declared.tree.FuncBody.{out-FuncBody}
use Rattle.syntax_tree.specs.declared.tree.Stat.{Stat}
use Rattle.syntax_tree.specs.declared.tree.Tree.{Tree}
use Rattle.syntax_tree.specs.Bound.{bound}
use Rattle.syntax_tree.specs.Derivations.{main_function}
use Rattle.syntax_tree.specs.Numbers.{numbered}
use Rattle.syntax_tree.specs.Parsed.{IsParsed}
use Rattle.built_emitter.specs.Standing.{IsBound}
use Rattle.luau_cli.specs.declared.script.Script.{Script}
use Rattle.luau_cli.specs.Readings.{IsRead, IsSound}

-- numbers change no parameters
no_parameters : (block : List Stat) → (out-FuncBody (numbered (main_function block)).main).params ≡ []
no_parameters block = search (rules, folds.the_lemmas, views.the_lemmas)

parsed_bound : (tokens : List Token) (tree : Tree) (b : Bindings) → IsParsed tokens tree → b ≡ bound tree → IsBound tree b
parsed_bound tokens tree b p is = record {
  main = main_function p.0.block;
  numbers = p.0.numbers;
  is = is;
  none = ap (λ (t : Tree). (out-FuncBody t.main).params) p.0.numbers ∙ no_parameters p.0.block;
}

-- an accepted script can be worked on
pub sound : (bytes : List ℕ) (s : Script) → IsRead bytes s → IsSound s
sound bytes s r =
    let p = r.accepted.parsed in
    record {
      numbered = record { main = main_function p.0.block; is = p.0.numbers };
      standing = parsed_bound r.accepted.tokens s.tree s.bindings p r.bindings;
      bindings = r.bindings;
      unbroken = r.accepted.unbroken;
    }
