-- The instructions of each operator, and what else an operation reads.
use Rattle.std.specs.Prelude.{ℕ, ℤ, Bool, true, false, List, reverse}
use Rattle.value_model.specs.declared.operator.ArithOp.{ArithOp}
use Rattle.value_model.specs.declared.operator.ArithOp.TheVariants as arith
use Rattle.value_model.specs.declared.operator.CompareOp.{CompareOp}
use Rattle.value_model.specs.declared.operator.CompareOp.TheVariants as order
use Rattle.value_model.specs.Values.{Value, Table}
use Rattle.op_words.specs.declared.insn.Insn.{Insn}
use Rattle.op_words.specs.declared.insn.Insn.TheVariants.{Add, Sub, Mul, Div, Mod, Pow, Idiv, Minus, AddK, SubK, MulK, DivK, ModK, PowK, IdivK, JumpIfEq, JumpIfLe, JumpIfLt, JumpIfNotEq, JumpIfNotLe, JumpIfNotLt}
use Rattle.machine_meaning.specs.States.{Inside, values_in}
use Rattle.machine_meaning.specs.Moves.{environment_here}

-- on two registers; minus has one operand
abbrev pub on_registers : ArithOp → (to left right : ℕ) → Insn
on_registers arith.Add to a b = Add to a b
on_registers arith.Sub to a b = Sub to a b
on_registers arith.Mul to a b = Mul to a b
on_registers arith.Div to a b = Div to a b
on_registers arith.Idiv to a b = Idiv to a b
on_registers arith.Mod to a b = Mod to a b
on_registers arith.Pow to a b = Pow to a b
on_registers arith.Unm to a b = Minus to a

-- on a register and a constant
abbrev pub on_constant : ArithOp → (to left constant : ℕ) → Insn
on_constant arith.Add to a k = AddK to a k
on_constant arith.Sub to a k = SubK to a k
on_constant arith.Mul to a k = MulK to a k
on_constant arith.Div to a k = DivK to a k
on_constant arith.Idiv to a k = IdivK to a k
on_constant arith.Mod to a k = ModK to a k
on_constant arith.Pow to a k = PowK to a k
on_constant arith.Unm to a k = Minus to a

-- a jump where the comparison of two registers holds, or where it does not
abbrev pub jumps_on : CompareOp → (wanted : Bool) → (left : ℕ) → (by : ℤ) → (right : ℕ) → Insn
jumps_on order.Eq true a by b = JumpIfEq a by b
jumps_on order.Eq false a by b = JumpIfNotEq a by b
jumps_on order.Lt true a by b = JumpIfLt a by b
jumps_on order.Lt false a by b = JumpIfNotLt a by b
jumps_on order.Le true a by b = JumpIfLe a by b
jumps_on order.Le false a by b = JumpIfNotLe a by b

-- the table of the globals of the function that runs
abbrev pub environment_value : Inside → Value
environment_value i = Table (environment_here i.frame i.world)

-- the operands of a run of `..`: so many registers from one on, the last of them first
abbrev pub operands : (from count : ℕ) → Inside → List Value
operands from count i = reverse (values_in i.frame i.world from count)
