use Rattle.std.proofs.Common.{◌-◌, length}
use Rattle.luau_parser.proofs.BlockSteps.{BlockSoFar}
use Rattle.luau_parser.proofs.rules.Rules.block.Given as goal

abbrev pub invariant-loop-stats : goal.invariant-loop-stats
invariant-loop-stats g l = BlockSoFar l.self.grammar.tokens.now l.self.grammar.room l.fn.at l.stats l.nest l.end

abbrev pub decreases-loop-stats : goal.decreases-loop-stats
decreases-loop-stats g l = length l.self.grammar.tokens.now - l.end
