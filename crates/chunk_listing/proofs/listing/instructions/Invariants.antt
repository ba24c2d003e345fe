use Rattle.std.proofs.Common.{◌-◌, length}
use Rattle.std.specs.String.{string_bytes}
use Rattle.chunk_listing.proofs.Listed.{InstructionsSoFar}
use Rattle.chunk_listing.proofs.listing.instructions.Given as goal

abbrev pub invariant-loop-insn : goal.invariant-loop-insn
invariant-loop-insn l = InstructionsSoFar (string_bytes l.initial.out) (string_bytes l.out) l.code l.place

abbrev pub decreases-loop-insn : goal.decreases-loop-insn
decreases-loop-insn l = length l.code - l.place
