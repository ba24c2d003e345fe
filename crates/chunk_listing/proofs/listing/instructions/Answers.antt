use Rattle.std.proofs.Common.{arith, sym}
use Rattle.chunk_listing.proofs.Listed.{instructions_start, instructions_more}
use Rattle.chunk_listing.proofs.listing.instructions.Goals as goal

pub loop-insn-init : goal.loop-insn-init
loop-insn-init c = instructions_start _ _

pub loop-insn-preserved : goal.loop-insn-preserved
loop-insn-preserved c =
    let stands = c.in-Some.ensures.found in
    instructions_more _ _ _ _ _ _ c.in-Some.insn (sym c.in-Some.ensures.value) (omega (arith, stands.there)) stands.within
    c.in_ok-one_instruction.ensures c.loop-insn.invariant
