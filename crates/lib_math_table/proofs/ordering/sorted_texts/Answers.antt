use Rattle.std.proofs.Common.{◌∙◌, map, ap}
use Rattle.std.specs.Cmp.Lexicographic.{slice_cmp}
use Rattle.std.specs.Ordering.{nat_cmp, is_lt, ordering_then}
use Rattle.value_model.specs.declared.value.Value.TheVariants.{Str}
use Rattle.lib_math_table.proofs.Ordered.{texts_sorted, moved_values, front_less}
use Rattle.lib_math_table.proofs.Sorting.{rises, rises_map}
use Rattle.lib_math_table.proofs.ordering.sorted_texts.Goals as goal

pub returns-in-Ok-text_values-clause-sorts : goal.returns-in-Ok-text_values-clause-sorts
returns-in-Ok-text_values-clause-sorts c =
    let ys = c.sort_unstable.new.self.items in
    let up = rises (λ x y. is_lt (ordering_then (slice_cmp nat_cmp x.0.now y.0.now) (nat_cmp x.1.0 y.1.0))) ys c.sort_unstable.ensures.sorted in
    texts_sorted c.args.names.now (λ text. text.0.now)
    (λ text. text.1) c.args.values.now c.in-Ok-text_values.sorted.items c.in-Ok.texts.items ys c.in-Ok.ensures.values c.in-Ok.ensures.bytes c.sort_unstable.ensures.permutation
    (rises_map (λ x y. is_lt (ordering_then (slice_cmp nat_cmp x.0.now y.0.now) (nat_cmp x.1.0 y.1.0))) (λ a b. is_lt (slice_cmp nat_cmp a b))
    (λ text. text.0.now)
    (λ x y. front_less (slice_cmp nat_cmp x.0.now y.0.now) (nat_cmp x.1.0 y.1.0)) ys up)
    (c.in-Ok-text_values.ensures ∙ ap (map (λ text. Str text.1)) c.as_slice.ensures.value)

pub returns-in-Ok-text_values-clause-moves : goal.returns-in-Ok-text_values-clause-moves
returns-in-Ok-text_values-clause-moves c =
    moved_values (λ text. Str text.1) c.args.values.now c.in-Ok-text_values.sorted.items c.in-Ok.texts.items c.sort_unstable.new.self.items c.in-Ok.ensures.values c.sort_unstable.ensures.permutation
    (c.in-Ok-text_values.ensures ∙ ap (map (λ text. Str text.1)) c.as_slice.ensures.value)
