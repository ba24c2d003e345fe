use Rattle.std.proofs.Common.{map}
use Rattle.op_words.specs.Chunks.{proto_of}
use Rattle.chunk_file.specs.Reading.{read_proto}
use Rattle.chunk_file.proofs.ReadTimes.{ReadSoFar}
use Rattle.chunk_file.proofs.reader.Reader.protos.Given as goal

abbrev pub invariant-loop : goal.invariant-loop
invariant-loop l = ReadSoFar read_proto l.initial.self l.counter (map proto_of l.protos.items) l.self
