use Rattle.std.proofs.Common.{◌-◌, length}
use Rattle.expression_parser.proofs.ParameterRuns.{ParametersSoFar}
use Rattle.expression_parser.proofs.functions.parameters.Given as goal

abbrev pub invariant-loop-names : goal.invariant-loop-names
invariant-loop-names l = ParametersSoFar l.tokens l.at l.fn.added l.names l.end

abbrev pub decreases-loop-names : goal.decreases-loop-names
decreases-loop-names l = length l.tokens - l.end
