use Rattle.machine_load.proofs.Decoding.{AreDecodedTo}
use Rattle.machine_load.proofs.loading.decode.Given as goal

abbrev pub invariant-loop-proto : goal.invariant-loop-proto
invariant-loop-proto l = AreDecodedTo l.fn.world l.fn.chunk l.proto-index l.functions
