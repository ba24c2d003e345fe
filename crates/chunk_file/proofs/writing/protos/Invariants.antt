use Rattle.std.proofs.Common.{◌≡◌, ◌++◌, take, map}
use Rattle.std.specs.List.{flat_map}
use Rattle.op_words.specs.Chunks.{proto_of}
use Rattle.chunk_file.specs.Spelling.{proto}
use Rattle.chunk_file.proofs.writing.protos.Given as goal

abbrev pub invariant-loop-proto : goal.invariant-loop-proto
invariant-loop-proto l = l.out.items ≡ l.initial.out.items ++ flat_map proto (map proto_of (take l.proto-index l.protos))
