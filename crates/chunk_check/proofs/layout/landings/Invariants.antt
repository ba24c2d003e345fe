use Rattle.chunk_check.proofs.Words.{LandsSoFar}
use Rattle.chunk_check.proofs.layout.landings.Given as goal

abbrev pub invariant-loop-line : goal.invariant-loop-line
invariant-loop-line l = LandsSoFar l.lines l.size l.fast l.fast_two l.line-index l.made.items
