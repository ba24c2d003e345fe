use Rattle.luau_tables.specs.Worlds.{IsWorld, MayUseIn}
use Rattle.value_model.specs.declared.value.Value.TheVariants.{Table}
use Rattle.lib_math_table_tests.proofs.tests.made.Given as goal

-- the world is one of a script, which may use its table
abbrev pub invariant-loop-row : goal.invariant-loop-row
invariant-loop-row g l = record {
  world : IsWorld l.world;
  own : MayUseIn l.world (Table l.own);
}

abbrev pub invariant-loop-two : goal.invariant-loop-two
invariant-loop-two g l = record {
  world : IsWorld l.world;
  own : MayUseIn l.world (Table l.own);
}
