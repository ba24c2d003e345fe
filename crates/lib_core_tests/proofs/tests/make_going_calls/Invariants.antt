use Rattle.luau_tables.specs.Worlds.{Keeps}
use Rattle.lib_core_tests.proofs.tests.make_going_calls.Given as goal

abbrev pub invariant-loop-row : goal.invariant-loop-row
invariant-loop-row g l = Keeps l.fn.world l.world
