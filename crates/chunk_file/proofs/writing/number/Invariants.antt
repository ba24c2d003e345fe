use Rattle.chunk_file.proofs.Written.{NumberSoFar}
use Rattle.chunk_file.proofs.writing.number.Given as goal

abbrev pub invariant-loop-left : goal.invariant-loop-left
invariant-loop-left l = NumberSoFar l.fn.out.items l.out.items l.n l.left

abbrev pub decreases-loop-left : goal.decreases-loop-left
decreases-loop-left l = l.left
