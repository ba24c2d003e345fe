use Rattle.std.proofs.Common.{◌-◌, length}
use Rattle.luau_lexer.specs.Parts.{ends_at}
use Rattle.syntax_tree.specs.Strings.{part_at}
use Rattle.luau_lexer.proofs.Bodies.{PassedText}
use Rattle.luau_lexer.proofs.strings.read_body.Given as goal

abbrev pub invariant-loop-n : goal.invariant-loop-n
invariant-loop-n l = PassedText (part_at (ends_at l.end)) l.bytes 0 l.len l.text.items

abbrev pub decreases-loop-n : goal.decreases-loop-n
decreases-loop-n l = length l.bytes - l.len
