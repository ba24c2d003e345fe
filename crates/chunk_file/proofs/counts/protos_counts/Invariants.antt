use Rattle.std.proofs.Common.{◌≡◌, drop, map}
use Rattle.std.specs.List.{list_all}
use Rattle.op_words.specs.Chunks.{proto_of}
use Rattle.chunk_file.specs.Counting.{has_counts_in}
use Rattle.chunk_file.proofs.counts.protos_counts.Given as goal

abbrev pub invariant-loop-proto : goal.invariant-loop-proto
invariant-loop-proto l = list_all has_counts_in (map proto_of (drop l.proto-index l.protos)) ≡ list_all has_counts_in (map proto_of l.protos)
