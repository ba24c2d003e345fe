use Rattle.built_vm.specs.Instructions.{AreReadTo}
use Rattle.built_vm.proofs.instructions.Instructions.read.Given as goal

abbrev pub invariant-loop-at : goal.invariant-loop-at
invariant-loop-at l = AreReadTo l.fn.words l.entries.items l.at
