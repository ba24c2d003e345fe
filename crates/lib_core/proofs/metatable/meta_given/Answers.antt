use Rattle.lib_core.proofs.MetaRows.{nil_given, table_given, none_given}
use Rattle.lib_core.proofs.metatable.meta_given.Goals as goal

pub returns-in-Nil-clause-checks : goal.returns-in-Nil-clause-checks
returns-in-Nil-clause-checks c = λ texts. nil_given texts c.args.v c.in-Nil.is

pub returns-in-Ok-clause-checks : goal.returns-in-Ok-clause-checks
returns-in-Ok-clause-checks c = λ texts. table_given texts c.args.v c.in_default.not-Nil c.in-Ok.m (c.in-Ok.ensures.checks texts)

pub returns-in-Err-clause-checks : goal.returns-in-Err-clause-checks
returns-in-Err-clause-checks c = λ texts. none_given texts c.args.v c.in_default.not-Nil c.in-Err.e (c.in-Err.ensures.checks texts)
