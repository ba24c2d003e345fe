use Rattle.std.proofs.Common.{◌≡◌, ◌∙◌, false, pos, Ok, length, ap, sym, subst, arith}
use Rattle.std.proofs.lemmas.Int.{ints}
use Rattle.std.proofs.lemmas.List.Sorted.{length_permutation}
use Rattle.std.specs.List.{AllByRecursion}
use Rattle.value_model.specs.Parts.{table_ref}
use Rattle.value_model.specs.StringRows.{count_between}
use Rattle.value_model.specs.declared.error.RunErr.TheVariants.{ReadonlyTable}
use Rattle.value_arena.specs.Arenas.{table_at}
use Rattle.value_arena.specs.Tables.{TableView}
use Rattle.luau_tables.specs.Rules as rule
use Rattle.luau_tables.specs.Worlds.{MayUseIn, store_in}
use Rattle.lib_arguments.specs.declared.ending.Ending.TheVariants.{RunError}
use Rattle.lib_arguments.proofs.RowsRun.{found, found_fails, ends, used_at, have_texts}
use Rattle.table_lists.specs.Lists.{items, put_all, Began}
use Rattle.table_lists.proofs.Rows.{length_items}
use Rattle.lib_math_table.proofs.Changes.{with_changed, frozen_fails}
use Rattle.lib_math_table.proofs.Inserting.{began_keeps}
use Rattle.lib_math_table.proofs.Moved.{values_keep}
use Rattle.lib_math_table.proofs.Ordered.{elements_at, elements_used, sort_fails, sort_runs, sorted_used}
use Rattle.lib_math_table.proofs.ordering.sort.Goals as goal

pub returns-in-Err-clause-runs : goal.returns-in-Err-clause-runs
returns-in-Err-clause-runs c rs = ends _ _ c.in-Err.e _ (c.in-Err.ensures.checks c.args.world.now.names _)

pub table-table-requires : goal.table-table-requires
table-table-requires c = (used_at c.args.world.now _ 0 _ c.requires.args c.in-Ok.ensures.there).0.1

pub returns-then-is_frozen-clause-runs : goal.returns-then-is_frozen-clause-runs
returns-then-is_frozen-clause-runs c rs =
    let w = c.args.world.now in
    let e = RunError ReadonlyTable in
    let may = used_at w _ 0 _ c.requires.args c.in-Ok.ensures.there in
    ends w _ e _ (found_fails _ w.names e (c.in-Ok.ensures.checks w.names)
    (frozen_fails w c.requires.world c.in-Ok.t may _ (ap (λ (t : TableView). t.is_frozen) (sym c.table-table.ensures) ∙ sym c.is_frozen.ensures
    ∙ c.if-is_frozen.true)))

pub sorted-requires : goal.sorted-requires
sorted-requires c =
    let w = c.args.world.now in
    let t = c.in-Ok.t in
    let may = used_at w _ 0 _ c.requires.args c.in-Ok.ensures.there in
    let vs = c.as_slice.result.now in
    let is : vs ≡ items (table_at w.arena t) (pos 1) (rule.border (table_at w.arena t)) =
    elements_at vs c.table-table.result.now (table_at w.arena t) c.one-2.result c.end_of.result c.count_between-count.result
    (c.as_slice.ensures.value ∙ c.in-Ok-items.ensures) c.table-table.ensures c.one-2.ensures c.end_of.ensures
    (c.count_between-count.ensures.count ∙ ap (λ k. count_between k c.end_of.result) (c.one.ensures ∙ sym c.one-2.ensures)) in
    have_texts w vs (elements_used w c.requires.world t may vs is)

pub returns-in-Err-sorted-clause-runs : goal.returns-in-Err-sorted-clause-runs
returns-in-Err-sorted-clause-runs c rs =
    let w = c.args.world.now in
    let t = c.in-Ok.t in
    let may = used_at w _ 0 _ c.requires.args c.in-Ok.ensures.there in
    let vs = c.as_slice.result.now in
    let is : vs ≡ items (table_at w.arena t) (pos 1) (rule.border (table_at w.arena t)) =
    elements_at vs c.table-table.result.now (table_at w.arena t) c.one-2.result c.end_of.result c.count_between-count.result
    (c.as_slice.ensures.value ∙ c.in-Ok-items.ensures) c.table-table.ensures c.one-2.ensures c.end_of.ensures
    (c.count_between-count.ensures.count ∙ ap (λ k. count_between k c.end_of.result) (c.one.ensures ∙ sym c.one-2.ensures)) in
    let thawed : (table_at w.arena t).is_frozen ≡ false = ap (λ (t : TableView). t.is_frozen) (sym c.table-table.ensures) ∙ sym c.is_frozen.ensures
    ∙ c.if-is_frozen.false in
    let e = c.in-Err-sorted.e in
    ends w _ e _ (found_fails _ w.names e (c.in-Ok.ensures.checks w.names) (sort_fails w c.requires.world t may vs e thawed is
    (c.in-Err-sorted.ensures.sorts (store_in w) (table_ref t))))

pub table_mut-requires : goal.table_mut-requires
table_mut-requires c = (used_at c.args.world.now _ 0 _ c.requires.args c.in-Ok.ensures.there).0.1

pub put_all-requires : goal.put_all-requires
put_all-requires c =
    let vs = c.as_slice.result.now in
    let moved = ap length c.as_slice-2.ensures.value ∙ length_permutation vs c.in-Ok-sorted.sorted.items c.in-Ok-sorted.ensures.moves in
    let count = ap length (c.as_slice.ensures.value ∙ c.in-Ok-items.ensures)
    ∙ length_items c.table-table.result.now c.one-2.result c.count_between-count.result in
    omega (arith, ints, moved, count, c.count_between-count.ensures.within, c.one.ensures, c.one-3.ensures)

pub returns-in-Ok-put_all-clause-runs : goal.returns-in-Ok-put_all-clause-runs
returns-in-Ok-put_all-clause-runs c rs =
    let w = c.args.world.now in
    let t = c.in-Ok.t in
    let may = used_at w _ 0 _ c.requires.args c.in-Ok.ensures.there in
    let vs = c.as_slice.result.now in
    let is : vs ≡ items (table_at w.arena t) (pos 1) (rule.border (table_at w.arena t)) =
    elements_at vs c.table-table.result.now (table_at w.arena t) c.one-2.result c.end_of.result c.count_between-count.result
    (c.as_slice.ensures.value ∙ c.in-Ok-items.ensures) c.table-table.ensures c.one-2.ensures c.end_of.ensures
    (c.count_between-count.ensures.count ∙ ap (λ k. count_between k c.end_of.result) (c.one.ensures ∙ sym c.one-2.ensures)) in
    let thawed : (table_at w.arena t).is_frozen ≡ false = ap (λ (t : TableView). t.is_frozen) (sym c.table-table.ensures) ∙ sym c.is_frozen.ensures
    ∙ c.if-is_frozen.false in
    let ws = c.in-Ok-sorted.sorted.items in
    let used = sorted_used w vs ws c.in-Ok-sorted.ensures.moves (elements_used w c.requires.world t may vs is) in
    let now : c.put_all.new.table ≡ put_all (table_at w.arena t) (pos 1) ws =
    c.in-Ok-put_all.ensures.ok
    ∙ ap (λ t. put_all t c.one-3.result c.as_slice-2.result.now) c.table_mut.ensures.value
    ∙ ap (λ k. put_all (table_at w.arena t) k c.as_slice-2.result.now) c.one-3.ensures
    ∙ ap (put_all (table_at w.arena t) (pos 1)) c.as_slice-2.ensures.value in
    found _ w (with_changed w t c.put_all.new.table) rs rs (Ok tt) (c.in-Ok.ensures.checks w.names)
    (sort_runs w c.requires.world t may c.put_all.new.table vs ws rs tt thawed is c.in-Ok-sorted.ensures.sorts used now)

pub returns-in-Ok-put_all-clause-keeps : goal.returns-in-Ok-put_all-clause-keeps
returns-in-Ok-put_all-clause-keeps c =
    let w = c.args.world.now in
    let t = c.in-Ok.t in
    let may = used_at w _ 0 _ c.requires.args c.in-Ok.ensures.there in
    let vs = c.as_slice.result.now in
    let is : vs ≡ items (table_at w.arena t) (pos 1) (rule.border (table_at w.arena t)) =
    elements_at vs c.table-table.result.now (table_at w.arena t) c.one-2.result c.end_of.result c.count_between-count.result
    (c.as_slice.ensures.value ∙ c.in-Ok-items.ensures) c.table-table.ensures c.one-2.ensures c.end_of.ensures
    (c.count_between-count.ensures.count ∙ ap (λ k. count_between k c.end_of.result) (c.one.ensures ∙ sym c.one-2.ensures)) in
    let thawed : (table_at w.arena t).is_frozen ≡ false = ap (λ (t : TableView). t.is_frozen) (sym c.table-table.ensures) ∙ sym c.is_frozen.ensures
    ∙ c.if-is_frozen.false in
    let ws = c.in-Ok-sorted.sorted.items in
    let used = sorted_used w vs ws c.in-Ok-sorted.ensures.moves (elements_used w c.requires.world t may vs is) in
    let now : c.put_all.new.table ≡ put_all (table_at w.arena t) (pos 1) ws =
    c.in-Ok-put_all.ensures.ok
    ∙ ap (λ t. put_all t c.one-3.result c.as_slice-2.result.now) c.table_mut.ensures.value
    ∙ ap (λ k. put_all (table_at w.arena t) k c.as_slice-2.result.now) c.one-3.ensures
    ∙ ap (put_all (table_at w.arena t) (pos 1)) c.as_slice-2.ensures.value in
    values_keep w c.requires.world t may (pos 1) ws c.put_all.new.table thawed used now

pub returns-clause-keeps : goal.returns-clause-keeps
returns-clause-keeps c =
    let w = c.args.world.now in
    let t = c.in-Ok.t in
    let may = used_at w _ 0 _ c.requires.args c.in-Ok.ensures.there in
    let vs = c.as_slice.result.now in
    let is : vs ≡ items (table_at w.arena t) (pos 1) (rule.border (table_at w.arena t)) =
    elements_at vs c.table-table.result.now (table_at w.arena t) c.one-2.result c.end_of.result c.count_between-count.result
    (c.as_slice.ensures.value ∙ c.in-Ok-items.ensures) c.table-table.ensures c.one-2.ensures c.end_of.ensures
    (c.count_between-count.ensures.count ∙ ap (λ k. count_between k c.end_of.result) (c.one.ensures ∙ sym c.one-2.ensures)) in
    let thawed : (table_at w.arena t).is_frozen ≡ false = ap (λ (t : TableView). t.is_frozen) (sym c.table-table.ensures) ∙ sym c.is_frozen.ensures
    ∙ c.if-is_frozen.false in
    let ws = c.in-Ok-sorted.sorted.items in
    let used = sorted_used w vs ws c.in-Ok-sorted.ensures.moves (elements_used w c.requires.world t may vs is) in
    began_keeps w c.requires.world t may c.put_all.new.table c.one-3.result c.as_slice-2.result.now thawed
    (subst (AllByRecursion (MayUseIn w)) (sym c.as_slice-2.ensures.value) used)
    (subst (λ t. Began t c.put_all.new.table c.one-3.result c.as_slice-2.result.now) c.table_mut.ensures.value c.in-Err-put_all.ensures.err)
