use Rattle.std.proofs.Common.{◌≡◌, map, take}
use Rattle.value_model.specs.declared.value.Value.TheVariants.{Num}
use Rattle.lib_math_table.proofs.ordering.numbers.Given as goal

abbrev pub invariant-loop-v : goal.invariant-loop-v
invariant-loop-v l = map (λ z. Num z) l.numbers.items ≡ take l.v-index l.fn.values
