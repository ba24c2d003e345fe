use Rattle.chunk_file.specs.Reading.{read_constant}
use Rattle.chunk_file.proofs.ReadTimes.{ReadSoFar}
use Rattle.chunk_file.proofs.reader.Reader.constants.Given as goal

abbrev pub invariant-loop : goal.invariant-loop
invariant-loop l = ReadSoFar read_constant l.initial.self l.counter l.constants.items l.self
