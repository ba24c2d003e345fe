use Rattle.lib_math_table_tests.proofs.Usable.{given_used}
use Rattle.lib_math_table_tests.proofs.tests.called.Goals as goal

pub answer_into-requires : goal.answer_into-requires
answer_into-requires g c = c.in_ok-answer.ensures.answered.usable

pub returns-clause-usable : goal.returns-clause-usable
returns-clause-usable g c = given_used _ _ _ _ _ _ _ c.new-results.ensures.items c.in_ok-answer.ensures.answered
