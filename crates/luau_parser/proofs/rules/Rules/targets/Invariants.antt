use Rattle.std.proofs.Common.{◌-◌, length}
use Rattle.luau_parser.proofs.TargetRuns.{TargetsSoFar}
use Rattle.luau_parser.proofs.rules.Rules.targets.Given as goal

abbrev pub invariant-loop-list : goal.invariant-loop-list
invariant-loop-list g l = TargetsSoFar l.self.grammar.tokens.now l.self.grammar.room l.begin l.fn.first l.list l.nest l.end

abbrev pub decreases-loop-list : goal.decreases-loop-list
decreases-loop-list g l = length l.self.grammar.tokens.now - l.end
