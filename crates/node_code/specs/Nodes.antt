-- What the code of a node is made of.
use Rattle.std.specs.Prelude.{ℕ, ℤ, Bool, true, false, Option, Some, None, List}
use Rattle.byte_text.specs.declared.fixed.StrId.{StrId}
use Rattle.syntax_tree.specs.declared.bindings.Bound.{Bound}
use Rattle.emit_expr.specs.declared.draft.Loop.{Loop}
use Rattle.emit_expr.specs.declared.draft.Emitter.{Emitter}
use Rattle.emit_expr.specs.Puts.{Step, branch}
use Rattle.emit_expr.specs.Names.{register_of}
use Rattle.emit_expr.specs.Operators.{truth}

-- what an expression is as the target of an assignment
pub data Target : Type 0 where
  NoTarget : Target
  Named : (x : Bound) → (name : StrId) → Target

-- An expression. Its code stands in registers from the one that is given on.
pub record ExprCode : Type 0 where
  pub id : ℕ
  -- whether it may give any number of values
  pub many : Bool
  -- the local whose register has its value, if there is one
  pub own : Option ℕ
  -- the number that it is written as
  pub number : Option ℤ
  -- its value into register `to`; if it gives many, one fewer than `results` from there on, or at 0 all
  pub run : (to results : ℕ) → Step
  -- a jump to a label where its value is true, or where it is false
  pub jump : (so : Bool) → (to label : ℕ) → Step
  pub target : Target

-- a statement, by the first register that is free and the loop around it
pub record StatCode : Type 0 where
  pub declares : ℕ
  pub run : (free : ℕ) → Loop → Step
  -- of a numeric loop, its turns, which stand behind its bounds
  pub turns : (free : ℕ) → Step

-- a condition of an `if`, and its block
pub record ArmCode : Type 0 where
  pub cond : ExprCode
  pub body : List StatCode

-- a condition of an `if` expression, and its value
pub record ChoiceCode : Type 0 where
  pub cond : ExprCode
  pub value : ExprCode

-- a function, whose closure is made in register `to`
abbrev pub FuncCode : Type 0
FuncCode = (to : ℕ) → Step

-- ---- operands

-- the register that has an operand's value once its code is done: that of the local that it is, or the one that is given
abbrev pub operand_register : Option ℕ → (to : ℕ) → Emitter → ℕ
operand_register None to d = to
operand_register (Some number) to d = register_of number d

abbrev pub operand_code : Option ℕ → Step → Step
operand_code None run d = run d
operand_code (Some number) run d = d

abbrev pub operand_at : ExprCode → (to : ℕ) → Emitter → ℕ
operand_at e to d = operand_register e.own to d

abbrev pub operand_run : ExprCode → (to : ℕ) → Step
operand_run e to d = operand_code e.own (e.run to 2) d

-- ---- kinds of expressions

-- a jump on a value that is made first
abbrev pub jump_on : Option ℕ → ((to results : ℕ) → Step) → (so : Bool) → (to label : ℕ) → Step
jump_on own run so to l d = branch (truth so (operand_register own to d)) l (operand_code own (run to 2) d)

-- one value
abbrev pub single : (id : ℕ) → (ℕ → Step) → ExprCode
single id run =
    record { id = id; many = false; own = None; number = None; run = λ to results. run to; jump = jump_on None (λ to results. run to); target = NoTarget }

-- one value, with a jump of its own
abbrev pub decided : (id : ℕ) → (ℕ → Step) → ((so : Bool) → (to label : ℕ) → Step) → ExprCode
decided id run jump =
    record { id = id; many = false; own = None; number = None; run = λ to results. run to; jump = jump; target = NoTarget }

-- any number of values
abbrev pub many : (id : ℕ) → (ℕ → ℕ → Step) → ExprCode
many id run =
    record { id = id; many = true; own = None; number = None; run = run; jump = jump_on None run; target = NoTarget }
