use Rattle.value_model.specs.declared.value.Value.TheVariants.{Table}
use Rattle.luau_tables.proofs.WorldsKept.{keeps_self, keeps_on, may_use_on}
use Rattle.lib_core_tests.proofs.Usable.{none_used, one_more}
use Rattle.lib_core_tests.proofs.given.values_of.Goals as goal

pub loop-given-init : goal.loop-given-init
loop-given-init g c = record { keeps = keeps_self c.args.world.now c.requires.world; values = none_used c.args.world.now c.new-values.result.items c.new-values.ensures.items }

pub value_of-requires-clause-world : goal.value_of-requires-clause-world
value_of-requires-clause-world g c = c.loop-given.invariant.keeps.world

pub value_of-requires-clause-own : goal.value_of-requires-clause-own
value_of-requires-clause-own g c = may_use_on _ _ c.loop-given.invariant.keeps (Table c.args.own) c.requires.own

pub returns-in_err-value-clause-keeps : goal.returns-in_err-value-clause-keeps
returns-in_err-value-clause-keeps g c = keeps_on _ _ _ c.loop-given.invariant.keeps c.value_of.ensures.keeps

pub returns-in_err-push-clause-keeps : goal.returns-in_err-push-clause-keeps
returns-in_err-push-clause-keeps g c = keeps_on _ _ _ c.loop-given.invariant.keeps c.value_of.ensures.keeps

pub loop-given-preserved : goal.loop-given-preserved
loop-given-preserved g c =
    record {
      keeps = keeps_on _ _ _ c.loop-given.invariant.keeps c.value_of.ensures.keeps;
      values = one_more _ _ _ _ _ c.value_of.ensures.keeps c.loop-given.invariant.values c.in_ok-value.ensures.usable c.in_ok-push.ensures.items;
    }

pub returns-clause-usable : goal.returns-clause-usable
returns-clause-usable g c = c.loop-given.invariant.values

pub returns-clause-keeps : goal.returns-clause-keeps
returns-clause-keeps g c = c.loop-given.invariant.keeps
