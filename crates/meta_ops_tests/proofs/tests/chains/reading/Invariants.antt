use Rattle.meta_ops_tests.specs.Ready.{IsReady}
use Rattle.meta_ops_tests.proofs.tests.chains.reading.Given as goal

abbrev pub ghosts-reads : goal.ghosts-reads
ghosts-reads g a = record { name = a.blank.name; parts = a.blank.parts }

abbrev pub invariant-loop-row : goal.invariant-loop-row
invariant-loop-row g l = IsReady l.world
