-- The states of a script's run. It knows names and cells, and neither registers nor instructions.
use Rattle.std.specs.Prelude.{ℕ, List, [], ◌∷◌, Bool, Option, Some, None, nat_eq, if◌then◌else◌}
use Rattle.byte_text.specs.declared.fixed.StrId.{StrId}
use Rattle.syntax_tree.specs.declared.tree.Arm.{Arm}
use Rattle.syntax_tree.specs.declared.tree.BinOp.{BinOp}
use Rattle.syntax_tree.specs.declared.tree.Expr.{Expr}
use Rattle.syntax_tree.specs.declared.tree.Stat.{Stat}
use Rattle.built_values.specs.declared.value.Value.{Value}

-- the variables in scope, each with its cell, the newest first
abbrev pub Environment : Type 0
Environment = List (StrId × ℕ)

-- the cell of the newest variable of the name
abbrev pub cell_of : Environment → StrId → Option ℕ
cell_of [] x = None
cell_of (v ∷ env) x = if nat_eq v.0.0 x.0 then Some v.1 else cell_of env x

-- what waits for a part that is being run
pub data Frame : Type 0 where
  -- an operation waits for its left operand, then for its right one
  LeftOperand : (op : BinOp) → (right : Expr) → Frame
  RightOperand : (op : BinOp) → (left : Value) → Frame
  -- a call waits for its callee, then for its argument
  Callee : (argument : Expr) → Frame
  Argument : (callee : Value) → Frame
  -- a statement that is a call drops what it gives
  Discards : Frame
  Declares : (name : StrId) → Frame
  Assigns : (name : StrId) → Frame
  -- an `if` waits for a condition, with its block, the arms that follow, and the block of `else`
  Chooses : (body : List Stat) → (arms : List Arm) → (other : Option (List Stat)) → Frame
  -- a `while` waits for its condition, then for its body
  Loops : (cond : Expr) → (body : List Stat) → Frame
  Repeats : (cond : Expr) → (body : List Stat) → Frame
  -- the rest of a block
  Continues : (rest : List Stat) → Frame
  -- at the end of a block the variables are those from before it
  Restores : (env : Environment) → Frame

-- what is done now
pub data Focus : Type 0 where
  Evaluate : (e : Expr) → Focus
  Give : (v : Value) → Focus
  Execute : (s : Stat) → Focus
  ExecuteAll : (ss : List Stat) → Focus
  -- the first condition that is true chooses its block
  Choose : (arms : List Arm) → (other : Option (List Stat)) → Focus
  Done : Focus

-- the cells hold the variables' values. A cell is never used again
pub record State : Type 0 where
  pub focus : Focus
  pub frames : List Frame
  pub env : Environment
  pub cells : List Value
