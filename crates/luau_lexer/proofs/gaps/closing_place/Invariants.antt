use Rattle.std.proofs.Common.{◌≡◌, drop}
use Rattle.syntax_tree.specs.Gaps.{closing_place}
use Rattle.luau_lexer.proofs.ClosingPlaces.{shifted}
use Rattle.luau_lexer.proofs.gaps.closing_place.Given as goal

abbrev pub invariant-loop-i : goal.invariant-loop-i
invariant-loop-i l = closing_place l.level l.bytes ≡ shifted l.i (closing_place l.level (drop l.i l.bytes))
