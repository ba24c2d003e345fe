use Rattle.value_model.specs.declared.value.Value.TheVariants.{Table}
use Rattle.luau_tables.proofs.WorldsKept.{keeps_on, may_use_on}
use Rattle.lib_core_tests.proofs.tests.going_into.Goals as goal

pub returns-in_err-then : goal.returns-in_err-then
returns-in_err-then g c = keeps_on _ _ _ c.values_of.ensures.keeps c.call.ensures.keeps

pub gone_on-requires-clause-own : goal.gone_on-requires-clause-own
gone_on-requires-clause-own g c = may_use_on _ _ (keeps_on _ _ _ c.values_of.ensures.keeps c.call.ensures.keeps) (Table c.args.own) c.requires.own

pub returns-then-then-len : goal.returns-then-then-len
returns-then-then-len g c = keeps_on _ _ _ (keeps_on _ _ _ c.values_of.ensures.keeps c.call.ensures.keeps) c.gone_on.ensures

pub returns-in-CallBack : goal.returns-in-CallBack
returns-in-CallBack g c = keeps_on _ _ _ c.values_of.ensures.keeps c.call.ensures.keeps

pub returns : goal.returns
returns g c = keeps_on _ _ _ c.values_of.ensures.keeps c.call.ensures.keeps
