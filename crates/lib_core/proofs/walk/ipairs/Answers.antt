use Rattle.lib_arguments.proofs.RowsRun.{found, ends, used_at}
use Rattle.lib_core.proofs.WalkRows.{ipairs_gives}
use Rattle.lib_core.proofs.walk.ipairs.Goals as goal

pub returns-in-Err : goal.returns-in-Err
returns-in-Err c = ends _ _ c.in-Err.e _ (c.in-Err.ensures.checks c.args.world.now.names _)

pub returns : goal.returns
returns c =
    let w = c.args.world.now in
    found _ w w _ _ c.give_all.result (c.in-Ok.ensures.checks w.names)
    (ipairs_gives w _ _ _ c.in-Ok.t c.zero-zero.result (used_at w _ 0 _ c.requires.args c.in-Ok.ensures.there) c.zero-zero.ensures c.give_all.ensures)
