-- The instructions of operators on two registers.
use Rattle.std.specs.Prelude.{ℕ, pos, Option, Some, None}
use Rattle.syntax_tree.specs.declared.tree.BinOp.{BinOp}
use Rattle.syntax_tree.specs.declared.tree.BinOp.TheVariants as op
use Rattle.op_words.specs.declared.insn.Insn.{Insn}
use Rattle.op_words.specs.declared.insn.Insn.TheVariants as insn

-- the instruction of an operation on two registers
abbrev pub operation : BinOp → (to left right : ℕ) → Option Insn
operation op.Add to left right = Some (insn.Add to left right)
operation op.Sub to left right = Some (insn.Sub to left right)
operation op.Mul to left right = Some (insn.Mul to left right)
operation _ to left right = None

-- the jump that is taken where a comparison of two registers does not hold
abbrev pub unless : BinOp → (left right : ℕ) → Option Insn
unless op.Eq left right = Some (insn.JumpIfNotEq left (pos 0) right)
unless op.Ne left right = Some (insn.JumpIfEq left (pos 0) right)
unless op.Lt left right = Some (insn.JumpIfNotLt left (pos 0) right)
unless op.Le left right = Some (insn.JumpIfNotLe left (pos 0) right)
unless op.Gt left right = Some (insn.JumpIfNotLt right (pos 0) left)
unless op.Ge left right = Some (insn.JumpIfNotLe right (pos 0) left)
unless _ left right = None
