use Rattle.std.proofs.Common.{option_map}
use Rattle.op_words.specs.Chunks.{chunk_of, proto_of}
use Rattle.chunk_check.specs.Faults.{before_of, fault_of}
use Rattle.chunk_check.proofs.Folds.{LinesSoFar}
use Rattle.chunk_check.proofs.checking.line_fault.Given as goal

abbrev pub invariant-loop-index : goal.invariant-loop-index
invariant-loop-index l = LinesSoFar (chunk_of l.chunk) l.number (proto_of l.proto) l.layout (before_of l.before) (option_map fault_of l.found) l.index l.lines
