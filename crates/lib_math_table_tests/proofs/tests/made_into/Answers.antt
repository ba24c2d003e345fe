use Rattle.std.proofs.Common.{inr}
use Rattle.luau_tables.proofs.WorldsKept.{keeps_on}
use Rattle.lib_math_table_tests.proofs.tests.made_into.Goals as goal

pub called-requires-clause-builtin : goal.called-requires-clause-builtin
called-requires-clause-builtin g c = inr c.requires.first

pub called-requires-2-clause-builtin : goal.called-requires-2-clause-builtin
called-requires-2-clause-builtin g c = inr c.requires.second

pub returns-in_err-made : goal.returns-in_err-made
returns-in_err-made g c = keeps_on _ _ _ c.values_of.ensures.keeps c.called.ensures.keeps

pub returns-in_err-called : goal.returns-in_err-called
returns-in_err-called g c = keeps_on _ _ _ c.values_of.ensures.keeps (keeps_on _ _ _ c.called.ensures.keeps c.called-2.ensures.keeps)

pub returns : goal.returns
returns g c = keeps_on _ _ _ c.values_of.ensures.keeps (keeps_on _ _ _ c.called.ensures.keeps c.called-2.ensures.keeps)
