use Rattle.luau_tables.proofs.WorldsKept.{keeps_on}
use Rattle.lib_math_table_tests.proofs.tests.row_into.Goals as goal

pub returns-in_err-called : goal.returns-in_err-called
returns-in_err-called g c = keeps_on _ _ _ c.values_of.ensures.keeps c.called.ensures.keeps

pub returns : goal.returns
returns g c = keeps_on _ _ _ c.values_of.ensures.keeps c.called.ensures.keeps
