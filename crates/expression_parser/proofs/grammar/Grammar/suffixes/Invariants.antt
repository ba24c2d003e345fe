use Rattle.std.proofs.Common.{◌-◌, length}
use Rattle.expression_parser.proofs.SuffixRuns.{SuffixesSoFar}
use Rattle.expression_parser.proofs.grammar.Grammar.suffixes.Given as goal

abbrev pub invariant-loop-prefix : goal.invariant-loop-prefix
invariant-loop-prefix g l = SuffixesSoFar l.self.tokens.now l.self.room l.begin l.fn.first l.prefix

abbrev pub decreases-loop-prefix : goal.decreases-loop-prefix
decreases-loop-prefix g l = length l.self.tokens.now - l.prefix.part.end
