use Rattle.built_vm.proofs.Registers.{registers_start}
use Rattle.built_vm.proofs.machine.Machine.new.Goals as goal

pub returns-clause-registers : goal.returns-clause-registers
returns-clause-registers c = registers_start
