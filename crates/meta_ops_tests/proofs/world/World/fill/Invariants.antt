use Rattle.meta_ops_tests.specs.Ready.{IsReady}
use Rattle.meta_ops_tests.proofs.world.World.fill.Given as goal

abbrev pub invariant-loop-row : goal.invariant-loop-row
invariant-loop-row l = IsReady l.self
