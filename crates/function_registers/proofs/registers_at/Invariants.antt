use Rattle.std.proofs.Common.{◌≡◌, drop}
use Rattle.function_registers.specs.Registers as spec
use Rattle.function_registers.proofs.registers_at.Given as goal

abbrev pub invariant-loop-entry : goal.invariant-loop-entry
invariant-loop-entry l = spec.registers_in l.func l.list ≡ spec.registers_in l.func (drop l.entry-index l.list)
