use Rattle.chunk_file.specs.Reading.{read_number}
use Rattle.chunk_file.proofs.ReadTimes.{ReadSoFar}
use Rattle.chunk_file.proofs.reader.Reader.numbers.Given as goal

abbrev pub invariant-loop : goal.invariant-loop
invariant-loop l = ReadSoFar read_number l.initial.self l.counter l.numbers.items l.self
