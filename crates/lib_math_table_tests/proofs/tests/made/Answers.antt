use Rattle.value_model.specs.declared.value.Value.TheVariants.{Table}
use Rattle.luau_tables.proofs.WorldsKept.{may_use_on}
use Rattle.lib_math_table_tests.proofs.tests.made.Goals as goal

pub loop-row-init : goal.loop-row-init
loop-row-init g c = record { world = c.add_table.ensures.keeps.world; own = c.in_ok-own.ensures.usable }

pub loop-row-preserved : goal.loop-row-preserved
loop-row-preserved g c = record { world = c.row_into.ensures.world; own = may_use_on _ _ c.row_into.ensures (Table c.in_ok-own.own) c.loop-row.invariant.own }

pub loop-two-init : goal.loop-two-init
loop-two-init g c = record { world = c.loop-row.invariant.world; own = c.loop-row.invariant.own }

pub loop-two-preserved : goal.loop-two-preserved
loop-two-preserved g c = record { world = c.made_into.ensures.world; own = may_use_on _ _ c.made_into.ensures (Table c.in_ok-own.own) c.loop-two.invariant.own }
