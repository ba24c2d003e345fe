use Rattle.std.proofs.Common.{◌≡◌, ◌∙◌, ap, sym, false, Ok}
use Rattle.value_arena.specs.Arenas.{table_at}
use Rattle.value_arena.specs.Tables.{TableView}
use Rattle.value_model.specs.declared.error.RunErr.TheVariants.{ReadonlyTable}
use Rattle.lib_arguments.specs.declared.ending.Ending.TheVariants.{RunError}
use Rattle.table_lists.specs.Lists.{cleared}
use Rattle.lib_arguments.proofs.RowsRun.{found, found_fails, ends, used_at}
use Rattle.lib_math_table.proofs.Changes.{with_changed, clear_runs, clear_keeps, frozen_fails}
use Rattle.lib_math_table.proofs.tables.clear.Goals as goal

pub returns-in-Err-clause-runs : goal.returns-in-Err-clause-runs
returns-in-Err-clause-runs c rs = ends _ _ c.in-Err.e _ (c.in-Err.ensures.checks c.args.world.now.names _)

pub table-requires : goal.table-requires
table-requires c = (used_at c.args.world.now _ 0 _ c.requires.args c.in-Ok.ensures.there).0.1

pub table_mut-requires : goal.table_mut-requires
table_mut-requires c = (used_at c.args.world.now _ 0 _ c.requires.args c.in-Ok.ensures.there).0.1

pub returns-then-is_frozen-clause-runs : goal.returns-then-is_frozen-clause-runs
returns-then-is_frozen-clause-runs c rs =
    let w = c.args.world.now in
    let e = RunError ReadonlyTable in
    let may = used_at w _ 0 _ c.requires.args c.in-Ok.ensures.there in
    ends w _ e _ (found_fails _ w.names e (c.in-Ok.ensures.checks w.names)
    (frozen_fails w c.requires.world c.in-Ok.t may _ (ap (λ (t : TableView). t.is_frozen) (sym c.table.ensures) ∙ sym c.is_frozen.ensures ∙ c.if-is_frozen.true)))

pub returns-clause-runs : goal.returns-clause-runs
returns-clause-runs c rs =
    let w = c.args.world.now in
    let may = used_at w _ 0 _ c.requires.args c.in-Ok.ensures.there in
    let thawed : (table_at w.arena c.in-Ok.t).is_frozen ≡ false = ap (λ (t : TableView). t.is_frozen) (sym c.table.ensures) ∙ sym c.is_frozen.ensures ∙ c.if-is_frozen.false in
    let is : c.clear.new.table ≡ cleared (table_at w.arena c.in-Ok.t) = c.clear.ensures ∙ ap cleared c.table_mut.ensures.value in
    found _ w (with_changed w c.in-Ok.t c.clear.new.table) rs rs (Ok tt) (c.in-Ok.ensures.checks w.names) (clear_runs w c.requires.world c.in-Ok.t may c.clear.new.table rs is thawed)

pub returns-clause-keeps : goal.returns-clause-keeps
returns-clause-keeps c =
    let w = c.args.world.now in
    let may = used_at w _ 0 _ c.requires.args c.in-Ok.ensures.there in
    let thawed : (table_at w.arena c.in-Ok.t).is_frozen ≡ false = ap (λ (t : TableView). t.is_frozen) (sym c.table.ensures) ∙ sym c.is_frozen.ensures ∙ c.if-is_frozen.false in
    clear_keeps w c.requires.world c.in-Ok.t may c.clear.new.table (c.clear.ensures ∙ ap cleared c.table_mut.ensures.value) thawed
