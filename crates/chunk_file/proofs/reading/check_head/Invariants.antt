use Rattle.chunk_file.proofs.Head.{HeadRead}
use Rattle.chunk_file.proofs.reading.check_head.Given as goal

abbrev pub invariant-loop-at : goal.invariant-loop-at
invariant-loop-at l = HeadRead l.bytes l.at
