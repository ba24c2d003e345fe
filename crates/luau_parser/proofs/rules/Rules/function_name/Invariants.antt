use Rattle.std.proofs.Common.{◌-◌, length}
use Rattle.luau_parser.proofs.FunctionNameTurns.{MembersSoFar}
use Rattle.luau_parser.proofs.rules.Rules.function_name.Given as goal

abbrev pub invariant-loop-part : goal.invariant-loop-part
invariant-loop-part g l = MembersSoFar l.self.grammar.tokens.now l.self.grammar.room l.at l.part.expr l.part.nest l.part.end

abbrev pub decreases-loop-part : goal.decreases-loop-part
decreases-loop-part g l = length l.self.grammar.tokens.now - l.part.end
