use Rattle.std.proofs.Common.{◌≡◌, ◌++◌, drop}
use Rattle.syntax_tree.specs.Strings.{unix_lines}
use Rattle.luau_lexer.proofs.strings.unix_lines.Given as goal

abbrev pub invariant-loop-i : goal.invariant-loop-i
invariant-loop-i l = l.text.items ++ unix_lines (drop l.i l.bytes) ≡ unix_lines l.bytes
