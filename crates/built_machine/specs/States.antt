-- The states of a machine that runs code.
use Rattle.std.specs.Prelude.{ℕ, nat_eq, if◌then◌else◌}
use Rattle.built_values.specs.declared.value.Value.{Value}
use Rattle.built_values.specs.declared.value.Value.TheVariants.{Nil}

abbrev pub Registers : Type 0
Registers = ℕ → Value

-- the registers after a write
abbrev pub put : Registers → ℕ → Value → Registers
put regs r v q = if nat_eq q r then v else regs q

-- the place of the next instruction, counted in words
pub record State : Type 0 where
  pub place : ℕ
  pub registers : Registers

-- at the start all registers are nil
abbrev pub start : State
start = record { place = 0; registers = λ q. Nil }
