use Rattle.value_model.specs.declared.value.Value.TheVariants.{Table}
use Rattle.luau_tables.proofs.WorldsKept.{may_use_on}
use Rattle.lib_core_tests.proofs.tests.going.Goals as goal

pub make_going_calls-requires-clause-own : goal.make_going_calls-requires-clause-own
make_going_calls-requires-clause-own g c = may_use_on _ _ c.make_calls.ensures (Table c.in_ok-own.own) c.in_ok-own.ensures.usable
