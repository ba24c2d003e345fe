use Rattle.luau_tables.proofs.WorldsKept.{keeps_on}
use Rattle.lib_core_tests.proofs.tests.row_into.Goals as goal

pub answer_into-requires : goal.answer_into-requires
answer_into-requires g c = c.in_ok-answer.ensures.answered.usable

pub returns-in_err-answer : goal.returns-in_err-answer
returns-in_err-answer g c = keeps_on _ _ _ c.values_of.ensures.keeps c.call.ensures.keeps

pub returns : goal.returns
returns g c = keeps_on _ _ _ c.values_of.ensures.keeps c.call.ensures.keeps
