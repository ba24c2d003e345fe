use Rattle.chunk_file.specs.Reading.{read_text}
use Rattle.chunk_file.proofs.ReadTimes.{ReadSoFar}
use Rattle.chunk_file.proofs.reader.Reader.strings.Given as goal

abbrev pub invariant-loop : goal.invariant-loop
invariant-loop l = ReadSoFar read_text l.initial.self l.counter l.strings.items l.self
