use Rattle.std.proofs.Common.{refl, sym, ◌∙◌, ap, subst}
use Rattle.byte_text.proofs.Numbering.{AreDistinct-fixed}
use Rattle.value_model.specs.declared.ids.Owner.TheVariants.{Frozen}
use Rattle.value_arena.specs.Arenas.{new_table, next_table}
use Rattle.luau_tables.specs.Own.{AreTexts}
use Rattle.meta_ops_tests.proofs.Readied.{fixed_are_texts, new_ready}
use Rattle.meta_ops_tests.proofs.world.World.new.Goals as goal

pub returns : goal.returns
returns g c =
    new_ready _ (c.in_ok-string_meta.ensures.made ∙ ap (λ a. new_table a Frozen) c.new-arena.ensures) (c.in_ok-string_meta.ensures.id ∙ ap (λ a. next_table a Frozen) c.new-arena.ensures) c.in_ok-string_meta.ensures.there refl
    (c.meta_names-meta.ensures (subst AreTexts (sym c.new-names.ensures) (fixed_are_texts AreDistinct-fixed)))
