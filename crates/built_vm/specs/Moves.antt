-- What the machine does at a move of its meaning.
use Rattle.std.specs.Prelude.{◌≡◌, ℕ, List, ◌++◌, slice_index_or}
use Rattle.built_values.specs.declared.value.Value.{Value}
use Rattle.built_values.specs.declared.value.Value.TheVariants.{Nil}
use Rattle.built_values.specs.Runs.{Goes, Shows, Charges, Ends}
use Rattle.built_machine.specs.States.{Registers}
use Rattle.built_machine.specs.Steps.{Step}
use Rattle.built_vm.specs.declared.machine.Machine.{Machine}
use Rattle.built_vm.specs.declared.machine.Moved.{Moved}
use Rattle.built_vm.specs.declared.machine.Moved.TheVariants as moved
use Rattle.built_vm.specs.Shown.{line_of}

-- the registers that an array stands for; those behind it hold nil
abbrev pub registers_of : List Value → Registers
registers_of values q = slice_index_or values q Nil

-- where a move leads, or how it ends
abbrev pub moved_by : Step → Moved
moved_by (Goes ns s) = moved.Goes s.place
moved_by (Shows ns text s) = moved.Goes s.place
moved_by (Charges s) = moved.Charges s.place
moved_by (Ends ns end) = moved.Ends end

-- an output, and the line of what a move shows
abbrev pub output_after : List ℕ → Step → List ℕ
output_after output (Shows ns text s) = output ++ line_of text
output_after output _ = output

-- the registers after a move
abbrev pub registers_after : Registers → Step → Registers
registers_after regs (Goes ns s) = s.registers
registers_after regs (Shows ns text s) = s.registers
registers_after regs (Charges s) = s.registers
registers_after regs (Ends ns end) = regs

-- the machine makes this move
pub record Makes (move : Step) (moved : Moved) (old new : Machine) : Type 0 where
  pub leads : moved ≡ moved_by move
  pub output : new.output.items ≡ output_after old.output.items move
  pub registers : registers_of new.registers ≡ registers_after (registers_of old.registers) move
