use Rattle.std.proofs.Common.{◌∙◌, [], map, ap}
use Rattle.value_model.specs.declared.value.Value.TheVariants.{Num}
use Rattle.lib_math_table.proofs.Ordered.{numbers_sorted, moved_values}
use Rattle.lib_math_table.proofs.ordering.sorted_numbers.Goals as goal

pub returns-in-Ok-number_values-clause-sorts : goal.returns-in-Ok-number_values-clause-sorts
returns-in-Ok-number_values-clause-sorts c = λ texts.
    numbers_sorted texts c.args.values.now c.in-Ok-number_values.sorted.items c.in-Ok.numbers.items c.sort_unstable.new.self.items
    (c.in-Ok.ensures texts) c.sort_unstable.ensures.permutation c.sort_unstable.ensures.sorted
    (c.in-Ok-number_values.ensures ∙ ap (map (λ z. Num z)) c.as_slice.ensures.value)

pub returns-in-Ok-number_values-clause-moves : goal.returns-in-Ok-number_values-clause-moves
returns-in-Ok-number_values-clause-moves c =
    moved_values (λ z. Num z) c.args.values.now c.in-Ok-number_values.sorted.items c.in-Ok.numbers.items c.sort_unstable.new.self.items
    (c.in-Ok.ensures []) c.sort_unstable.ensures.permutation
    (c.in-Ok-number_values.ensures ∙ ap (map (λ z. Num z)) c.as_slice.ensures.value)
