use Rattle.std.proofs.Common.{◌≡◌, ◌∙◌, length, arith, sym, ap}
use Rattle.indexmap.specs.IndexMap.{set_value_at}
use Rattle.value_model.specs.declared.value.Value.TheVariants.{Nil}
use Rattle.value_arena.specs.Tables.{Entries, TableView}
use Rattle.table_lists.proofs.Wholes.{front_none, front_more, front_length, front_all}
use Rattle.table_lists.proofs.copy.clear.Goals as goal

abbrev with_entries : TableView → Entries → TableView
with_entries t es = record t { entries = es }

pub loop-place-init : goal.loop-place-init
loop-place-init c = ap (with_entries c.args.table.now) (sym (front_none c.args.table.now.entries))

pub write-requires : goal.write-requires
write-requires c =
    let es = c.args.table.now.entries in
    let now : length c.loop-place.table.entries ≡ length es = ap (λ (t : TableView). length t.entries) c.loop-place.invariant ∙ front_length c.loop-place.place es in
    omega (arith, c.loop-place-test.true, c.len-place-end.ensures.len)

pub loop-place-preserved : goal.loop-place-preserved
loop-place-preserved c =
    c.write.ensures
    ∙ ap (λ (t : TableView). with_entries t (set_value_at t.entries c.loop-place.place Nil)) c.loop-place.invariant
    ∙ ap (with_entries c.args.table.now) (front_more c.loop-place.place c.args.table.now.entries)

pub returns : goal.returns
returns c =
    c.loop-place.invariant
    ∙ ap (with_entries c.args.table.now) (front_all c.loop-place.place c.args.table.now.entries (omega (arith, c.loop-place-test.false, c.len-place-end.ensures.len)))
