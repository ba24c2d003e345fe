use Rattle.std.proofs.Common.{◌-◌, length}
use Rattle.expression_parser.proofs.PieceRuns.{PiecesSoFar}
use Rattle.expression_parser.proofs.grammar.Grammar.pieces.Given as goal

abbrev pub invariant-loop-values : goal.invariant-loop-values
invariant-loop-values g l = PiecesSoFar l.self.tokens.now (l.self.room - 1) l.fn.at l.fn.text l.texts l.values l.nest l.end

abbrev pub decreases-loop-values : goal.decreases-loop-values
decreases-loop-values g l = length l.self.tokens.now - l.end
