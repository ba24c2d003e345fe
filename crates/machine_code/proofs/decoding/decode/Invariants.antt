use Rattle.op_words.specs.Chunks.{chunk_of}
use Rattle.machine_code.proofs.Functions.{AreFunctionsTo}
use Rattle.machine_code.proofs.decoding.decode.Given as goal

abbrev pub invariant-loop-proto : goal.invariant-loop-proto
invariant-loop-proto l = AreFunctionsTo (chunk_of l.chunk) l.names l.proto-index l.functions
