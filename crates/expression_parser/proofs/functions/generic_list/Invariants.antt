use Rattle.std.proofs.Common.{◌-◌, length}
use Rattle.expression_parser.proofs.GenericTurns.{GenericsSoFar}
use Rattle.expression_parser.proofs.functions.generic_list.Given as goal

abbrev pub invariant-loop-end : goal.invariant-loop-end
invariant-loop-end l = GenericsSoFar l.tokens l.at l.end

abbrev pub decreases-loop-end : goal.decreases-loop-end
decreases-loop-end l = length l.tokens - l.end
