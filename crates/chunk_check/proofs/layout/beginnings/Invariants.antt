use Rattle.chunk_check.proofs.Words.{BeginsFrom}
use Rattle.chunk_check.proofs.layout.beginnings.Given as goal

abbrev pub invariant-loop-left : goal.invariant-loop-left
invariant-loop-left l = BeginsFrom l.lines l.size l.left l.made.items

abbrev pub decreases-loop-left : goal.decreases-loop-left
decreases-loop-left l = l.left
