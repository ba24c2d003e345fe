-- The instructions of operators, and the code of constants.
use Rattle.std.specs.Prelude.{ℕ, ℤ, pos, negsuc, int_le, nat_le, ◌&&◌, not, if◌then◌else◌, Bool, true, false, Option, Some, None}
use Rattle.byte_text.specs.declared.fixed.StrId.{StrId}
use Rattle.op_words.specs.declared.chunk.Const.TheVariants as constant
use Rattle.op_words.specs.declared.insn.Insn.{Insn}
use Rattle.op_words.specs.declared.insn.Insn.TheVariants as i
use Rattle.syntax_tree.specs.declared.tree.BinOp.{BinOp}
use Rattle.syntax_tree.specs.declared.tree.BinOp.TheVariants as op
use Rattle.syntax_tree.specs.declared.tree.UnOp.{UnOp}
use Rattle.syntax_tree.specs.declared.tree.UnOp.TheVariants as unary
use Rattle.emit_expr.specs.declared.draft.Emitter.{Emitter}
use Rattle.emit_expr.specs.Puts.{Step, short, insn, constant_place, with_constant, text_place, with_text}

-- ---- constants

-- a number: a small one stands in the instruction
abbrev pub is_small : ℤ → Bool
is_small n = int_le (negsuc 32767) n && int_le n (pos 32767)

abbrev pub number_run : ℤ → (to : ℕ) → Step
number_run n to d =
    if is_small n then insn (i.LoadN to n) d else insn (i.LoadK to (short (constant_place (constant.Num n) d))) (with_constant (constant.Num n) d)

abbrev pub text_run : StrId → (to : ℕ) → Step
text_run t to d = insn (i.LoadK to (short (text_place t d))) (with_text t d)

-- whether an instruction may have the number as an operand: its constant is one of the first 256
abbrev pub is_near : ℤ → Emitter → Bool
is_near n d = nat_le (constant_place (constant.Num n) d) 255

abbrev pub near_number : Option ℤ → Emitter → Option ℤ
near_number None d = None
near_number (Some n) d = if is_near n d then Some n else None

-- ---- operators

abbrev pub unary_insn : UnOp → (to from : ℕ) → Insn
unary_insn unary.Not to from = i.Not to from
unary_insn unary.Len to from = i.Length to from
unary_insn unary.Minus to from = i.Minus to from

-- arithmetic on two registers; the other operators have no such instruction
abbrev pub arithmetic : BinOp → (to left right : ℕ) → Insn
arithmetic op.Add to left right = i.Add to left right
arithmetic op.Sub to left right = i.Sub to left right
arithmetic op.Mul to left right = i.Mul to left right
arithmetic op.Div to left right = i.Div to left right
arithmetic op.Idiv to left right = i.Idiv to left right
arithmetic op.Mod to left right = i.Mod to left right
arithmetic op.Pow to left right = i.Pow to left right
arithmetic _ to left right = i.LoadNil to

-- arithmetic on a register and a constant
abbrev pub arithmetic_constant : BinOp → (to left constant : ℕ) → Insn
arithmetic_constant op.Add to left k = i.AddK to left k
arithmetic_constant op.Sub to left k = i.SubK to left k
arithmetic_constant op.Mul to left k = i.MulK to left k
arithmetic_constant op.Div to left k = i.DivK to left k
arithmetic_constant op.Idiv to left k = i.IdivK to left k
arithmetic_constant op.Mod to left k = i.ModK to left k
arithmetic_constant op.Pow to left k = i.PowK to left k
arithmetic_constant _ to left k = i.LoadNil to

-- subtraction and division of a constant by a register
abbrev pub from_constant : BinOp → (to constant right : ℕ) → Insn
from_constant op.Sub to k right = i.SubRK to k right
from_constant op.Div to k right = i.DivRK to k right
from_constant _ to k right = i.LoadNil to

-- whether there is an instruction for the operator with a constant on the left
abbrev pub takes_left : BinOp → Bool
takes_left op.Sub = true
takes_left op.Div = true
takes_left _ = false

abbrev pub is_comparison : BinOp → Bool
is_comparison op.Lt = true
is_comparison op.Gt = true
is_comparison op.Le = true
is_comparison op.Ge = true
is_comparison op.Ne = true
is_comparison op.Eq = true
is_comparison _ = false

-- the jump that is taken where the registers are equal, or where they are not; likewise the two below
abbrev pub equality : (so : Bool) → (left right : ℕ) → Insn
equality true left right = i.JumpIfEq left (pos 0) right
equality false left right = i.JumpIfNotEq left (pos 0) right

abbrev pub less : (so : Bool) → (left right : ℕ) → Insn
less true left right = i.JumpIfLt left (pos 0) right
less false left right = i.JumpIfNotLt left (pos 0) right

abbrev pub at_most : (so : Bool) → (left right : ℕ) → Insn
at_most true left right = i.JumpIfLe left (pos 0) right
at_most false left right = i.JumpIfNotLe left (pos 0) right

-- The jump that is taken where the comparison is so, or where it is not. `a > b` is `b < a`, and `a >= b` is `b <= a`
abbrev pub comparison : BinOp → (so : Bool) → (left right : ℕ) → Insn
comparison op.Eq so left right = equality so left right
comparison op.Ne so left right = equality (not so) left right
comparison op.Lt so left right = less so left right
comparison op.Gt so left right = less so right left
comparison op.Le so left right = at_most so left right
comparison op.Ge so left right = at_most so right left
comparison _ so left right = i.Jump (pos 0)

-- the jump that is taken where the register's value is true, or where it is false
abbrev pub truth : (so : Bool) → (value : ℕ) → Insn
truth true value = i.JumpIf value (pos 0)
truth false value = i.JumpIfNot value (pos 0)
