use Rattle.scopes.proofs.Turns.{skips_turn}
use Rattle.scopes.proofs.captured.skips.Goals as goal

pub loop-leap-preserved : goal.loop-leap-preserved
loop-leap-preserved c =
    skips_turn c.args.below c.args.condition.now c.args.leaps.now c.loop-leap.leap-index _ c.loop-leap.faults c.skip.new.faults _ _ c.loop-leap-test.true (c.reach-reach.ensures _) c.in_ok-skip.ensures c.loop-leap.invariant
