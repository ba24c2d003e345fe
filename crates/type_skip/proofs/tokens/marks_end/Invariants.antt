use Rattle.std.proofs.Common.{ℕ, ◌-◌, length}
use Rattle.syntax_tree.specs.Types.{IsMarks}
use Rattle.type_skip.proofs.tokens.marks_end.Given as goal

abbrev pub invariant-loop-at : goal.invariant-loop-at
invariant-loop-at l = (j : ℕ) → IsMarks l.tokens l.at j → IsMarks l.tokens l.fn.at j

abbrev pub decreases-loop-at : goal.decreases-loop-at
decreases-loop-at l = length l.tokens - l.at
