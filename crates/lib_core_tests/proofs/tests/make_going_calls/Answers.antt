use Rattle.value_model.specs.declared.value.Value.TheVariants.{Table}
use Rattle.luau_tables.proofs.WorldsKept.{keeps_self, keeps_on, may_use_on}
use Rattle.lib_core_tests.proofs.tests.make_going_calls.Goals as goal

pub loop-row-init : goal.loop-row-init
loop-row-init g c = keeps_self c.args.world.now c.requires.world

pub going_into-requires-clause-own : goal.going_into-requires-clause-own
going_into-requires-clause-own g c = may_use_on _ _ c.loop-row.invariant (Table c.args.own) c.requires.own

pub loop-row-preserved : goal.loop-row-preserved
loop-row-preserved g c = keeps_on _ _ _ c.loop-row.invariant c.going_into.ensures
