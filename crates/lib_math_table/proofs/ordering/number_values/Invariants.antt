use Rattle.std.proofs.Common.{◌≡◌, map, take}
use Rattle.value_model.specs.declared.value.Value.TheVariants.{Num}
use Rattle.lib_math_table.proofs.ordering.number_values.Given as goal

abbrev pub invariant-loop-n : goal.invariant-loop-n
invariant-loop-n l = l.values.items ≡ map (λ z. Num z) (take l.n-index l.fn.numbers)
