use Rattle.std.proofs.Common.{◌≡◌, option_map, drop, map}
use Rattle.op_words.specs.Chunks.{chunk_of, proto_of}
use Rattle.machine_meaning.specs.WellFormed as rules
use Rattle.chunk_check.specs.Faults.{sooner, fault_of}
use Rattle.chunk_check.proofs.checking.code_fault.Given as goal

abbrev pub invariant-loop-number : goal.invariant-loop-number
invariant-loop-number l =
    sooner (option_map fault_of l.found) (rules.first_of (rules.all_faults (chunk_of l.chunk) l.number (map proto_of (drop l.number l.chunk.protos.items))))
    ≡ rules.code_fault (chunk_of l.chunk)
