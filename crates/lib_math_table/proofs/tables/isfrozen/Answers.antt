use Rattle.std.proofs.Common.{◌∙◌, ap}
use Rattle.value_arena.specs.Tables.{TableView}
use Rattle.lib_arguments.proofs.RowsRun.{found, ends, used_at}
use Rattle.lib_math_table.proofs.Changes.{isfrozen_gives}
use Rattle.lib_math_table.proofs.tables.isfrozen.Goals as goal

pub returns-in-Err : goal.returns-in-Err
returns-in-Err c = ends _ _ c.in-Err.e _ (c.in-Err.ensures.checks c.args.world.now.names _)

pub table-requires : goal.table-requires
table-requires c = (used_at c.args.world.now _ 0 _ c.requires.args c.in-Ok.ensures.there).0.1

pub returns : goal.returns
returns c =
    let w = c.args.world.now in
    let may = used_at w _ 0 _ c.requires.args c.in-Ok.ensures.there in
    found _ w w _ _ c.give.result (c.in-Ok.ensures.checks w.names)
    (isfrozen_gives w c.requires.world c.in-Ok.t may _ _ c.give.result c.is_frozen.result (c.is_frozen.ensures ∙ ap (λ (t : TableView). t.is_frozen) c.table.ensures) c.give.ensures)
