use Rattle.meta_ops_tests.specs.Ready.{IsReady}
use Rattle.meta_ops_tests.proofs.tests.choices.lengths.Given as goal

abbrev pub invariant-loop-a : goal.invariant-loop-a
invariant-loop-a g l = IsReady l.world
