use Rattle.lib_math_table.proofs.ElementTexts.{Joining}
use Rattle.lib_math_table.proofs.joining.join.Given as goal

abbrev pub invariant-loop-step : goal.invariant-loop-step
invariant-loop-step l = Joining l.fn.names l.fn.separator l.fn.table l.fn.first l.fn.count l.step l.text.items
