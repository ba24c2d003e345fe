use Rattle.std.proofs.Common.{◌≡◌, ◌∙◌, pos, ap}
use Rattle.value_arena.specs.Arenas.{table_at}
use Rattle.value_arena.specs.Tables.{TableView}
use Rattle.luau_tables.specs.Rules as rule
use Rattle.lib_arguments.proofs.RowsRun.{found, ends, used_at, have_texts}
use Rattle.lib_math_table.proofs.Lists.{same_fails, same_runs}
use Rattle.lib_math_table.proofs.Removing.{remove_row_is}
use Rattle.lib_math_table.proofs.edits.remove.Goals as goal

pub returns-in-Err-clause-runs : goal.returns-in-Err-clause-runs
returns-in-Err-clause-runs c = ends _ _ c.in-Err.e _ (c.in-Err.ensures.checks c.args.world.now.names _)

pub table-requires : goal.table-requires
table-requires c = (used_at c.args.world.now _ 0 _ c.requires.args c.in-Ok.ensures.there).0.1

pub number_or-requires-clause-texts : goal.number_or-requires-clause-texts
number_or-requires-clause-texts c = have_texts c.args.world.now c.args.args.now c.requires.args

pub remove_at-requires-clause-table : goal.remove_at-requires-clause-table
remove_at-requires-clause-table c = used_at c.args.world.now _ 0 _ c.requires.args c.in-Ok.ensures.there

pub returns-in-Ok-number_or-clause-runs : goal.returns-in-Ok-number_or-clause-runs
returns-in-Ok-number_or-clause-runs c =
    let w = c.args.world.now in
    let r = c.remove_at.result in
    let may = used_at w _ 0 _ c.requires.args c.in-Ok.ensures.there in
    let end : c.end_of-end.result ≡ pos (rule.border (table_at w.arena c.in-Ok.t)) = c.end_of-end.ensures ∙ ap (λ (t : TableView). pos (rule.border t)) c.table.ensures in
    same_runs w c.remove_at.new.world _ _ r _ _ (remove_row_is w c.requires.world c.in-Ok.t may _ c.end_of-end.result (c.in-Ok.ensures.checks w.names) end)
    (found _ w c.remove_at.new.world _ _ r c.in-Ok-number_or.ensures c.remove_at.ensures.runs)

pub returns-in-Err-number_or-clause-runs : goal.returns-in-Err-number_or-clause-runs
returns-in-Err-number_or-clause-runs c =
    let w = c.args.world.now in
    let e = c.in-Err-number_or.e in
    let may = used_at w _ 0 _ c.requires.args c.in-Ok.ensures.there in
    let end : c.end_of-end.result ≡ pos (rule.border (table_at w.arena c.in-Ok.t)) = c.end_of-end.ensures ∙ ap (λ (t : TableView). pos (rule.border t)) c.table.ensures in
    ends w _ e _ (same_fails w.names _ _ e (remove_row_is w c.requires.world c.in-Ok.t may _ c.end_of-end.result (c.in-Ok.ensures.checks w.names) end) (c.in-Err-number_or.ensures _))
