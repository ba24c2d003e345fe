use Rattle.std.proofs.Common.{◌≡◌, ℕ, ℤ, pos, ◌+ℤ◌, ◌-ℤ◌, ap, arith}
use Rattle.std.proofs.lemmas.Int.{ints}
use Rattle.value_model.specs.StringRows.{natural}
use Rattle.table_lists.proofs.element.count_between.Goals as goal

natural_is : (n : ℕ) (z : ℤ) → pos n ≡ z → n ≡ natural z
natural_is n z e = ap natural e

pub returns-else-count-lt0-clause-count : goal.returns-else-count-lt0-clause-count
returns-else-count-lt0-clause-count c = natural_is _ ((c.args.last -ℤ c.args.first) +ℤ pos 1) (omega (arith, ints))
