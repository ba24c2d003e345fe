use Rattle.std.proofs.Common.{◌≡◌, map, take, slice_get, Some}
use Rattle.std.specs.List.{AllByRecursion}
use Rattle.value_model.specs.declared.value.Value.TheVariants.{Str}
use Rattle.lib_math_table.proofs.ordering.texts.Given as goal

abbrev pub invariant-loop-v : goal.invariant-loop-v
invariant-loop-v l = record {
  values : map (λ text. Str text.1) l.texts.items ≡ take l.v-index l.fn.values;
  bytes : AllByRecursion (λ text. slice_get l.fn.names text.1.0 ≡ Some text.0.now) l.texts.items;
}
