use Rattle.std.proofs.Common.{◌-◌, length}
use Rattle.expression_parser.proofs.BindRuns.{BindsSoFar}
use Rattle.expression_parser.proofs.functions.binds.Given as goal

abbrev pub invariant-loop-names : goal.invariant-loop-names
invariant-loop-names l = BindsSoFar l.tokens l.begin l.fn.first.end l.names l.end

abbrev pub decreases-loop-names : goal.decreases-loop-names
decreases-loop-names l = length l.tokens - l.end
