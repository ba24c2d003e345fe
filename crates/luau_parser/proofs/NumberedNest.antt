-- Numbering a tree does not change how deep it nests.
use Rattle.std.proofs.Common.{◌≡◌, ℕ, refl}
use Rattle.syntax_tree.specs.declared.tree.FuncBody.{FuncBody}
use Rattle.syntax_tree.specs.Nest.{steps, nest, nest_func}
use Rattle.syntax_tree.specs.Numbers.{numbered, numbered_func}
use Rattle.luau_parser.proofs.NumberedFolds.{numbered_gives}
use Rattle.luau_parser.proofs.NumberedLevels.{IgnoresNumbers}

nest_ignores : IgnoresNumbers steps
nest_ignores = record { expr = λ e n. refl; func = λ f n. refl; stat = λ t n. refl }

pub nest_numbered_func : (f : FuncBody) (n : ℕ) → nest_func (numbered_func f n).0 ≡ nest_func f
nest_numbered_func = numbered_gives steps nest_ignores

pub nest_numbered : (f : FuncBody) → nest (numbered f) ≡ nest_func f
nest_numbered f = nest_numbered_func f 0
