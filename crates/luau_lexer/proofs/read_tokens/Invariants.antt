use Rattle.std.proofs.Common.{length}
use Rattle.luau_lexer.proofs.Courses.{HasRead}
use Rattle.luau_lexer.proofs.read_tokens.Given as goal

abbrev pub invariant-loop-tokens : goal.invariant-loop-tokens
invariant-loop-tokens l = HasRead l.fn.source l.lexer l.fn.names l.names l.tokens.items

abbrev pub decreases-loop-tokens : goal.decreases-loop-tokens
decreases-loop-tokens l = length l.lexer.bytes
