use Rattle.std.proofs.Common.{◌-◌, length}
use Rattle.expression_parser.proofs.OperatorRuns.{OperationsSoFar}
use Rattle.expression_parser.proofs.grammar.Grammar.operations.Given as goal

abbrev pub invariant-loop-op : goal.invariant-loop-op
invariant-loop-op g l = OperationsSoFar l.self.tokens.now l.self.room l.rank l.begin l.fn.part l.left

abbrev pub decreases-loop-op : goal.decreases-loop-op
decreases-loop-op g l = length l.self.tokens.now - l.left.end
