use Rattle.chunk_check.proofs.Decoding.{AreSoFar}
use Rattle.chunk_check.proofs.lines.decode_all.Given as goal

abbrev pub invariant-loop : goal.invariant-loop
invariant-loop l = AreSoFar l.code l.counter l.found.items l.place
