use Rattle.std.specs.List.{AllByRecursion}
use Rattle.luau_tables.specs.Worlds.{Keeps, MayUseIn}
use Rattle.lib_core_tests.proofs.given.values_of.Given as goal

-- the world is kept, and the script may use each value so far
abbrev pub invariant-loop-given : goal.invariant-loop-given
invariant-loop-given g l = record {
  keeps : Keeps l.fn.world l.world;
  values : AllByRecursion (MayUseIn l.world) l.values.items;
}
