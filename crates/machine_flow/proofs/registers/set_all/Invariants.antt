use Rattle.machine_flow.proofs.Writing.{Wrote}
use Rattle.machine_flow.proofs.registers.set_all.Given as goal

abbrev pub invariant-loop-v : goal.invariant-loop-v
invariant-loop-v l = Wrote l.world l.fn.machine.code l.fn.machine.stack l.fn.from l.values l.v-index l.to l.machine.code l.machine.stack
