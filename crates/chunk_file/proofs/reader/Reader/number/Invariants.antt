use Rattle.chunk_file.proofs.NumberRead.{NumberRead}
use Rattle.chunk_file.proofs.reader.Reader.number.Given as goal

abbrev pub invariant-loop-place : goal.invariant-loop-place
invariant-loop-place l = NumberRead l.fn.self l.self l.place l.number l.unit l.limit
