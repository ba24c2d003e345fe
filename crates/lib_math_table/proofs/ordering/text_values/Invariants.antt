use Rattle.std.proofs.Common.{◌≡◌, map, take}
use Rattle.value_model.specs.declared.value.Value.TheVariants.{Str}
use Rattle.lib_math_table.proofs.ordering.text_values.Given as goal

abbrev pub invariant-loop-text : goal.invariant-loop-text
invariant-loop-text l = l.values.items ≡ map (λ text. Str text.1) (take l.text-index l.fn.texts)
