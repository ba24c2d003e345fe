use Rattle.meta_ops_tests.proofs.tests.chains.long_chains_of_writes.Given as goal

abbrev pub ghosts-writes : goal.ghosts-writes
ghosts-writes g a = record { name = a.blank.name; parts = a.blank.parts }
