use Rattle.chunk_file.specs.Reading.{read_word}
use Rattle.chunk_file.proofs.ReadTimes.{ReadSoFar}
use Rattle.chunk_file.proofs.reader.Reader.words.Given as goal

abbrev pub invariant-loop : goal.invariant-loop
invariant-loop l = ReadSoFar read_word l.initial.self l.counter l.words.items l.self
