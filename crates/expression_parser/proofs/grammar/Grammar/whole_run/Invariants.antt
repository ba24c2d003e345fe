use Rattle.std.proofs.Common.{◌-◌, length}
use Rattle.expression_parser.proofs.SeparatedParts.{RunSoFar}
use Rattle.expression_parser.proofs.grammar.Grammar.whole_run.Given as goal

abbrev pub invariant-loop-list : goal.invariant-loop-list
invariant-loop-list g l = RunSoFar l.self.tokens.now l.self.room l.begin l.fn.first l.list l.nest l.end

abbrev pub decreases-loop-list : goal.decreases-loop-list
decreases-loop-list g l = length l.self.tokens.now - l.end
