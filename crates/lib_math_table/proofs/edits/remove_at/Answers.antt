use Rattle.std.proofs.Common.{◌≡◌, ◌∙◌, false, pos, ◌+ℤ◌, ◌&&◌, ap, sym, subst}
use Rattle.std.specs.Prelude.{int_le}
use Rattle.value_arena.specs.Arenas.{table_at}
use Rattle.value_arena.specs.Tables.{TableView}
use Rattle.value_model.specs.declared.error.RunErr.TheVariants.{ReadonlyTable}
use Rattle.value_model.specs.declared.value.Value.TheVariants.{Num}
use Rattle.luau_tables.specs.Rules as rule
use Rattle.lib_arguments.specs.declared.ending.Ending.TheVariants.{RunError}
use Rattle.lib_arguments.proofs.RowsRun.{ends}
use Rattle.table_lists.specs.Lists.{items, removed, Began}
use Rattle.lib_math_table.proofs.Changes.{frozen_fails}
use Rattle.lib_math_table.proofs.Inserting.{began_keeps, items_used}
use Rattle.lib_math_table.proofs.Removing.{none_runs, remove_runs, remove_keeps}
use Rattle.lib_math_table.proofs.edits.remove_at.Goals as goal

pub returns-then-is_frozen-clause-runs : goal.returns-then-is_frozen-clause-runs
returns-then-is_frozen-clause-runs c =
    let w = c.args.world.now in
    ends w _ (RunError ReadonlyTable) _
    (frozen_fails w c.requires.world c.args.t c.requires.table _ (ap (λ (t : TableView). t.is_frozen) (sym c.table.ensures) ∙ sym c.is_frozen.ensures ∙ c.if-is_frozen.true))

pub returns-then-not-is_element-clause-runs : goal.returns-then-not-is_element-clause-runs
returns-then-not-is_element-clause-runs c =
    let w = c.args.world.now in
    let thawed : (table_at w.arena c.args.t).is_frozen ≡ false = ap (λ (t : TableView). t.is_frozen) (sym c.table.ensures) ∙ sym c.is_frozen.ensures ∙ c.if-is_frozen.false in
    none_runs w c.requires.world c.args.t c.requires.table c.args.k _ _ c.give.result thawed (sym c.if-not-is_element.true ∙ c.is_element.ensures ∙ ap (λ e. int_le (pos 1) c.args.k && int_le c.args.k e) c.requires.border) c.give.ensures

pub returns-in-Ok-clause-runs : goal.returns-in-Ok-clause-runs
returns-in-Ok-clause-runs c =
    let w = c.args.world.now in
    let thawed : (table_at w.arena c.args.t).is_frozen ≡ false = ap (λ (t : TableView). t.is_frozen) (sym c.table.ensures) ∙ sym c.is_frozen.ensures ∙ c.if-is_frozen.false in
    remove_runs w c.requires.world c.args.t c.requires.table c.remove.new.table c.value-v.result c.args.k c.args.end c.count_behind-count.result _ _ c.give-in-Ok.result thawed c.requires.border c.if-not-is_element.ensures c.count_behind-count.ensures
    (c.value-v.ensures ∙ ap (λ t. rule.get t (Num c.args.k)) c.table-2.ensures)
    (c.in-Ok.ensures.ok ∙ ap (λ t. removed t c.args.k c.count_behind-count.result) c.table_mut.ensures.value) c.give-in-Ok.ensures

pub returns-in-Ok-clause-keeps : goal.returns-in-Ok-clause-keeps
returns-in-Ok-clause-keeps c =
    let w = c.args.world.now in
    let thawed : (table_at w.arena c.args.t).is_frozen ≡ false = ap (λ (t : TableView). t.is_frozen) (sym c.table.ensures) ∙ sym c.is_frozen.ensures ∙ c.if-is_frozen.false in
    remove_keeps w c.requires.world c.args.t c.requires.table c.remove.new.table c.args.k c.count_behind-count.result thawed (c.in-Ok.ensures.ok ∙ ap (λ t. removed t c.args.k c.count_behind-count.result) c.table_mut.ensures.value)

pub returns-in-Err-clause-keeps : goal.returns-in-Err-clause-keeps
returns-in-Err-clause-keeps c =
    let w = c.args.world.now in
    let thawed : (table_at w.arena c.args.t).is_frozen ≡ false = ap (λ (t : TableView). t.is_frozen) (sym c.table.ensures) ∙ sym c.is_frozen.ensures ∙ c.if-is_frozen.false in
    began_keeps w c.requires.world c.args.t c.requires.table c.remove.new.table c.args.k _ thawed (items_used w c.requires.world c.args.t c.requires.table (c.args.k +ℤ pos 1) c.count_behind-count.result)
    (subst (λ t. Began t c.remove.new.table c.args.k (items t (c.args.k +ℤ pos 1) c.count_behind-count.result)) c.table_mut.ensures.value c.in-Err.ensures.err)
