use Rattle.std.proofs.Common.{◌≡◌, ◌∙◌, Err, false, pos, ◌+ℤ◌, ◌&&◌, ap, sym, subst}
use Rattle.std.specs.Prelude.{int_le}
use Rattle.value_arena.specs.Arenas.{table_at}
use Rattle.value_arena.specs.Tables.{TableView}
use Rattle.value_model.specs.StringRows.{count_between}
use Rattle.value_model.specs.declared.error.RunErr.TheVariants.{ReadonlyTable}
use Rattle.luau_tables.specs.Rules as rule
use Rattle.lib_arguments.specs.declared.ending.Ending.TheVariants.{RunError, Stop}
use Rattle.lib_arguments.proofs.RowsRun.{ends, none_given}
use Rattle.table_lists.specs.Lists.{items, inserted, Began}
use Rattle.lib_math_table.proofs.Changes.{with_changed}
use Rattle.lib_math_table.proofs.Inserting.{insert_out, insert_frozen, insert_stops, insert_is, insert_keeps, began_keeps, items_used, sum_is, sum_fits}
use Rattle.lib_math_table.proofs.edits.insert_at.Goals as goal

pub returns-then-not-is_place-clause-runs : goal.returns-then-not-is_place-clause-runs
returns-then-not-is_place-clause-runs c rs =
    let w = c.args.world.now in
    let end : c.end_of-end.result ≡ pos (rule.border (table_at w.arena c.args.t)) = c.end_of-end.ensures ∙ ap (λ (t : TableView). pos (rule.border t)) c.table.ensures in
    ends w rs c.out_of_range.result _
    (insert_out w c.requires.world c.args.t c.requires.table _ c.args.k c.out_of_range.result (sym c.if-not-is_place.true ∙ c.is_place.ensures ∙ ap (λ e. int_le (pos 1) c.args.k && int_le c.args.k (e +ℤ pos 1)) end) (c.out_of_range.ensures w.names))

pub returns-then-is_frozen-clause-runs : goal.returns-then-is_frozen-clause-runs
returns-then-is_frozen-clause-runs c rs =
    let w = c.args.world.now in
    let end : c.end_of-end.result ≡ pos (rule.border (table_at w.arena c.args.t)) = c.end_of-end.ensures ∙ ap (λ (t : TableView). pos (rule.border t)) c.table.ensures in
    let place = c.if-not-is_place.ensures ∙ ap (λ e. int_le (pos 1) c.args.k && int_le c.args.k (e +ℤ pos 1)) end in
    ends w rs (RunError ReadonlyTable) _
    (insert_frozen w c.requires.world c.args.t c.requires.table _ c.args.k place (ap (λ (t : TableView). t.is_frozen) (sym c.table-2.ensures) ∙ sym c.is_frozen.ensures ∙ c.if-is_frozen.true))

pub returns-in-Err-clause-runs : goal.returns-in-Err-clause-runs
returns-in-Err-clause-runs c rs =
    let w = c.args.world.now in
    let thawed : (table_at w.arena c.args.t).is_frozen ≡ false = ap (λ (t : TableView). t.is_frozen) (sym c.table-2.ensures) ∙ sym c.is_frozen.ensures ∙ c.if-is_frozen.false in
    let end : c.end_of-end.result ≡ pos (rule.border (table_at w.arena c.args.t)) = c.end_of-end.ensures ∙ ap (λ (t : TableView). pos (rule.border t)) c.table.ensures in
    let place = c.if-not-is_place.ensures ∙ ap (λ e. int_le (pos 1) c.args.k && int_le c.args.k (e +ℤ pos 1)) end in
    ends w rs (Stop c.in-Err.stop) _
    (insert_stops w c.requires.world c.args.t c.requires.table _ c.args.k c.in-Err.stop place thawed (sum_is (Err c.in-Err.stop) _ _ _ (pos 1) c.in-Err.ensures end c.one.ensures))

pub returns-in-Ok-clause-runs : goal.returns-in-Ok-clause-runs
returns-in-Ok-clause-runs c rs =
    let w = c.args.world.now in
    let thawed : (table_at w.arena c.args.t).is_frozen ≡ false = ap (λ (t : TableView). t.is_frozen) (sym c.table-2.ensures) ∙ sym c.is_frozen.ensures ∙ c.if-is_frozen.false in
    let end : c.end_of-end.result ≡ pos (rule.border (table_at w.arena c.args.t)) = c.end_of-end.ensures ∙ ap (λ (t : TableView). pos (rule.border t)) c.table.ensures in
    let place = c.if-not-is_place.ensures ∙ ap (λ e. int_le (pos 1) c.args.k && int_le c.args.k (e +ℤ pos 1)) end in
    let fits = sum_fits c.add.result (pos (rule.border (table_at w.arena c.args.t)) +ℤ pos 1) (sum_is c.add.result _ _ _ (pos 1) c.add.ensures end c.one.ensures) c.in_default.not-Err in
    let count = c.count_between-count.ensures.count ∙ ap (count_between c.args.k) end in
    none_given w (with_changed w c.args.t c.insert.new.table) rs tt _
    (insert_is w c.requires.world c.args.t c.requires.table c.insert.new.table c.args.v c.args.k _ place thawed fits count (c.in-Ok.ensures.ok ∙ ap (λ t. inserted t c.args.k c.count_between-count.result c.args.v) c.table_mut.ensures.value))

pub returns-in-Ok-clause-keeps : goal.returns-in-Ok-clause-keeps
returns-in-Ok-clause-keeps c =
    let w = c.args.world.now in
    let thawed : (table_at w.arena c.args.t).is_frozen ≡ false = ap (λ (t : TableView). t.is_frozen) (sym c.table-2.ensures) ∙ sym c.is_frozen.ensures ∙ c.if-is_frozen.false in
    insert_keeps w c.requires.world c.args.t c.requires.table c.insert.new.table c.args.v c.args.k c.count_between-count.result c.requires.value thawed (c.in-Ok.ensures.ok ∙ ap (λ t. inserted t c.args.k c.count_between-count.result c.args.v) c.table_mut.ensures.value)

pub returns-in-Err-insert-clause-keeps : goal.returns-in-Err-insert-clause-keeps
returns-in-Err-insert-clause-keeps c =
    let w = c.args.world.now in
    let thawed : (table_at w.arena c.args.t).is_frozen ≡ false = ap (λ (t : TableView). t.is_frozen) (sym c.table-2.ensures) ∙ sym c.is_frozen.ensures ∙ c.if-is_frozen.false in
    began_keeps w c.requires.world c.args.t c.requires.table c.insert.new.table (c.args.k +ℤ pos 1) _ thawed (items_used w c.requires.world c.args.t c.requires.table c.args.k c.count_between-count.result)
    (subst (λ t. Began t c.insert.new.table (c.args.k +ℤ pos 1) (items t c.args.k c.count_between-count.result)) c.table_mut.ensures.value c.in-Err-insert.ensures.err)
