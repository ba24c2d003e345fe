use Rattle.std.proofs.Common.{◌-◌, length}
use Rattle.expression_parser.proofs.SeparatedParts.{ListSoFar}
use Rattle.expression_parser.proofs.grammar.Grammar.list.Given as goal

abbrev pub invariant-loop-list : goal.invariant-loop-list
invariant-loop-list g l = ListSoFar l.self.tokens.now l.self.room l.fn.at l.list l.nest l.end

abbrev pub decreases-loop-list : goal.decreases-loop-list
decreases-loop-list g l = length l.self.tokens.now - l.end
