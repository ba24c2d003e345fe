use Rattle.luau_tables.proofs.WorldsKept.{all_use_on, keeps_on}
use Rattle.lib_core_tests.proofs.tests.gone_on.Goals as goal

pub go_on-requires-clause-args : goal.go_on-requires-clause-args
go_on-requires-clause-args g c = all_use_on _ _ c.value_of.ensures.keeps c.args.then.args.items c.requires.args

pub returns-in_err-answer : goal.returns-in_err-answer
returns-in_err-answer g c = keeps_on _ _ _ c.value_of.ensures.keeps c.go_on.ensures.keeps

pub returns : goal.returns
returns g c = keeps_on _ _ _ c.value_of.ensures.keeps c.go_on.ensures.keeps
