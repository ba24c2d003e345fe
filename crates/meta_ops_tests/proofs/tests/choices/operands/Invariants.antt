use Rattle.meta_ops_tests.specs.Ready.{IsReady}
use Rattle.meta_ops_tests.proofs.tests.choices.operands.Given as goal

abbrev pub invariant-loop : goal.invariant-loop
invariant-loop g l = IsReady l.world
