use Rattle.std.proofs.Common.{◌-◌, length}
use Rattle.luau_lexer.specs.Parts.{ends_at}
use Rattle.syntax_tree.specs.Strings.{raw_part_at}
use Rattle.luau_lexer.proofs.Bodies.{Passed}
use Rattle.luau_lexer.proofs.strings.broken_at.Given as goal

abbrev pub invariant-loop-n : goal.invariant-loop-n
invariant-loop-n l = Passed (raw_part_at (ends_at l.end)) l.bytes l.offset l.len

abbrev pub decreases-loop-n : goal.decreases-loop-n
decreases-loop-n l = length l.bytes - l.len
