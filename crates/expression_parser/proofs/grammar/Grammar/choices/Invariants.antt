use Rattle.std.proofs.Common.{◌-◌, length}
use Rattle.expression_parser.proofs.ChoiceRuns.{ChoicesSoFar}
use Rattle.expression_parser.proofs.grammar.Grammar.choices.Given as goal

abbrev pub invariant-loop-arms : goal.invariant-loop-arms
invariant-loop-arms g l = ChoicesSoFar l.self.tokens.now (l.self.room - 1) l.fn.at l.arms l.nest l.end

abbrev pub decreases-loop-arms : goal.decreases-loop-arms
decreases-loop-arms g l = length l.self.tokens.now - l.end
