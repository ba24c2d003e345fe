use Rattle.indexmap.proofs.MapLemmas.{Found-position}
use Rattle.value_model.specs.declared.value.Value.TheVariants.{Nil}
use Rattle.value_arena.specs.Tables as spec
use Rattle.value_arena.proofs.Places.{found_value}
use Rattle.value_arena.proofs.entries.value.Goals as goal

pub returns-in-Some : goal.returns-in-Some
unfolding spec.value_in
returns-in-Some c =
    let key = c.args.key.now in
    let es = c.args.entries.now.entries in
    let i = c.in-Some.field-0-0 in
    found_value spec.same spec.is_nil Nil key es i (key, c.in-Some.value) (Found-position (spec.same key) es i c.in-Some.ensures.place).first c.in-Some.ensures.value
