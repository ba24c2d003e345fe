use Rattle.meta_ops_tests.specs.Ready.{IsReady}
use Rattle.meta_ops_tests.proofs.tests.chains.chain.Given as goal

abbrev pub invariant-loop : goal.invariant-loop
invariant-loop g l = IsReady l.world

abbrev pub invariant-loop-number : goal.invariant-loop-number
invariant-loop-number g l = IsReady l.world
