use Rattle.value_model.specs.declared.value.Value.TheVariants.{Table}
use Rattle.luau_tables.proofs.WorldsKept.{may_use_on}
use Rattle.lib_math_table_tests.proofs.tests.protected.Goals as goal

pub row_into-requires-clause-own : goal.row_into-requires-clause-own
row_into-requires-clause-own g c = may_use_on _ _ c.protect.ensures (Table c.in_ok-own.own) c.in_ok-own.ensures.usable
