use Rattle.lib_arguments.proofs.RowsRun.{found, found_fails, ends, used_at}
use Rattle.lib_core.proofs.RawRows.{rawequal_gives}
use Rattle.lib_core.proofs.raw.rawequal.Goals as goal

pub returns-in-Err : goal.returns-in-Err
returns-in-Err c = ends _ _ c.in-Err.e _ (c.in-Err.ensures.checks c.args.world.now.names _)

pub returns-in-Err-any_at : goal.returns-in-Err-any_at
returns-in-Err-any_at c =
    let texts = c.args.world.now.names in
    ends _ _ c.in-Err-any_at.e _ (found_fails _ texts _ (c.in-Ok.ensures.checks texts) (c.in-Err-any_at.ensures.checks texts _))

pub returns : goal.returns
returns c =
    let w = c.args.world.now in
    found _ w w _ _ c.give.result (c.in-Ok.ensures.checks w.names)
    (found _ w w _ _ c.give.result (c.in-Ok-any_at.ensures.checks w.names)
    (rawequal_gives w c.requires.world _ _ _ c.in-Ok.a c.in-Ok-any_at.b c.eq.result
    (used_at w _ 0 _ c.requires.args c.in-Ok.ensures.there) (used_at w _ 1 _ c.requires.args c.in-Ok-any_at.ensures.there) c.eq.ensures c.give.ensures))
