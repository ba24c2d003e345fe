use Rattle.std.proofs.Common.{◌-◌, length}
use Rattle.expression_parser.proofs.FieldRuns.{FieldsSoFar}
use Rattle.expression_parser.proofs.grammar.Grammar.fields.Given as goal

abbrev pub invariant-loop-list : goal.invariant-loop-list
invariant-loop-list g l = FieldsSoFar l.self.tokens.now (l.self.room - 1) l.at l.list l.nest l.end

abbrev pub decreases-loop-list : goal.decreases-loop-list
decreases-loop-list g l = length l.self.tokens.now - l.end
