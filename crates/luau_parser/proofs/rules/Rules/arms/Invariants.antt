use Rattle.std.proofs.Common.{◌-◌, length}
use Rattle.luau_parser.proofs.ArmTurns.{ArmsSoFar}
use Rattle.luau_parser.proofs.rules.Rules.arms.Given as goal

abbrev pub invariant-loop-arms : goal.invariant-loop-arms
invariant-loop-arms g l = ArmsSoFar l.self.grammar.tokens.now (l.self.grammar.room - 1) l.fn.at l.arms l.nest l.begin

abbrev pub decreases-loop-arms : goal.decreases-loop-arms
decreases-loop-arms g l = length l.self.grammar.tokens.now - l.begin
