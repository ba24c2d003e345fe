-- The states of a script's run. It knows names and cells, and neither registers nor instructions.
use Rattle.std.specs.Prelude.{ℕ, ℤ, List, [], ◌∷◌, Bool, Option, Some, None, nat_eq, if◌then◌else◌}
use Rattle.byte_text.specs.declared.fixed.StrId.{StrId}
use Rattle.syntax_tree.specs.declared.tree.Arm.{Arm}
use Rattle.syntax_tree.specs.declared.tree.BinOp.{BinOp}
use Rattle.syntax_tree.specs.declared.tree.Expr.{Expr}
use Rattle.syntax_tree.specs.declared.tree.ExprArm.{ExprArm}
use Rattle.syntax_tree.specs.declared.tree.Field.{Field}
use Rattle.syntax_tree.specs.declared.tree.FuncBody.{FuncBody}
use Rattle.syntax_tree.specs.declared.tree.Stat.{Stat}
use Rattle.syntax_tree.specs.declared.tree.UnOp.{UnOp}
use Rattle.value_model.specs.Values.{Value, TableRef}
use Rattle.value_model.specs.Errors.{RunError}
use Rattle.value_model.specs.Store.{Objects}
use Rattle.value_model.specs.Waits.{Waits, Caller}
use Rattle.value_model.specs.declared.event.Reply.{Reply}

-- a node, as what is done there is noted and placed
pub record Node : Type 0 where
  pub id : ℕ
  pub line : ℕ

abbrev pub of_expr : Expr → Node
of_expr e = record { id = e.id; line = e.line }

abbrev pub of_stat : Stat → Node
of_stat s = record { id = s.id; line = s.line }

-- the variables in scope, each with its cell, the newest first
abbrev pub Environment : Type 0
Environment = List (StrId × ℕ)

-- the cell of the newest variable of the name
abbrev pub cell_of : Environment → StrId → Option ℕ
cell_of [] x = None
cell_of (v ∷ env) x = if nat_eq v.0.0 x.0 then Some v.1 else cell_of env x

-- where a value is stored
pub data Target : Type 0 where
  ToCell : (cell : ℕ) → Target
  ToGlobal : (name : StrId) → Target
  ToField : (table key : Value) → Target

-- how many values of a call are wanted
pub data Wanted : Type 0 where
  One : Wanted
  All : Wanted
  Nothing : Wanted

-- what the values of a call are for
pub data Purpose : Type 0 where
  Wants : (wanted : Wanted) → Purpose
  -- the answer of a comparison, or its opposite
  Compares : (opposite : Bool) → Purpose
  -- the function of a method call
  Finds : (object : Value) → (args : List Expr) → (wanted : Wanted) → Purpose
  -- the last operand of a run of `..`, whose other ones are still to be joined, the last of them first
  Joins : (before : List Value) → Purpose
  -- the generator, the state and the control value of a loop
  Begins : (names : List StrId) → (body : List Stat) → Purpose
  -- a loop's variables
  Turns : (names : List StrId) → (generator state : Value) → (body : List Stat) → Purpose
  -- nothing: a value is stored, and these are still to be stored
  Stores : (targets : List (Node × Target)) → (values : List Value) → Purpose

-- what waits for a part that is being run
pub data Frame : Type 0 where
  -- values of a list, and the expressions that follow
  Item : (got : List Value) → (rest : List Expr) → Frame
  -- the last expression gives all its values
  Last : (got : List Value) → Frame
  -- a value is the only one of its expression
  Only : Frame
  Operand : (at : Node) → (op : UnOp) → Frame
  LeftOperand : (at : Node) → (op : BinOp) → (right : Expr) → Frame
  RightOperand : (at : Node) → (op : BinOp) → (left : Value) → Frame
  -- the left operand of `and` or `or`
  Decides : (op : BinOp) → (right : Expr) → Frame
  -- operands of a run of `..`, the last one first, and those that follow
  Operands : (at : Node) → (got : List Value) → (rest : List Expr) → Frame
  Indexed : (at : Node) → (key : Expr) → Frame
  Key : (at : Node) → (table : Value) → Frame
  Member : (at : Node) → (name : StrId) → Frame
  Callee : (at : Node) → (args : List Expr) → (wanted : Wanted) → Frame
  Object : (at : Node) → (name : StrId) → (args : List Expr) → (wanted : Wanted) → Frame
  -- the arguments of a call, before which stands the object of a method call
  Arguments : (at : Node) → (callee : Value) → (object : List Value) → (wanted : Wanted) → Frame
  -- a table that is made, the place of its next field without a key, and the fields that follow
  ItemField : (at : Node) → (table : TableRef) → (place : ℕ) → (rest : List Field) → Frame
  LastField : (at : Node) → (table : TableRef) → (place : ℕ) → Frame
  KeyField : (at : Node) → (table : TableRef) → (place : ℕ) → (value : Expr) → (rest : List Field) → Frame
  ValueField : (at : Node) → (table : TableRef) → (place : ℕ) → (key : Value) → (rest : List Field) → Frame
  -- an `if` expression waits for a condition, with its value, the arms that follow and the value of `else`
  Picks : (value : Expr) → (arms : List ExprArm) → (other : Expr) → Frame
  Declares : (names : List StrId) → Frame
  -- targets of an assignment, and the targets and values that follow
  Aims : (done : List (Node × Target)) → (rest : List Expr) → (values : List Expr) → Frame
  Assigns : (targets : List (Node × Target)) → Frame
  TargetTable : (at : Node) → (key : Expr) → Frame
  TargetKey : (at : Node) → (table : Value) → Frame
  TargetMember : (at : Node) → (name : StrId) → Frame
  -- a compound assignment waits for its target, for the value there, and for the result
  Updates : (at : Node) → (op : BinOp) → (value : Expr) → Frame
  Reads : (at : Node) → (op : BinOp) → (target : Target) → (value : Expr) → Frame
  StoresIn : (at : Node) → (target : Target) → Frame
  -- an `if` waits for a condition, with its block, the arms that follow, and the block of `else`
  Chooses : (body : List Stat) → (arms : List Arm) → (other : Option (List Stat)) → Frame
  -- a `while` waits for its condition, then for its body
  Loops : (cond : Expr) → (body : List Stat) → Frame
  Repeats : (cond : Expr) → (body : List Stat) → Frame
  -- a `repeat` waits for its body, then for its condition, with the variables from before it
  Tries : (body : List Stat) → (cond : Expr) → (env : Environment) → Frame
  Until : (body : List Stat) → (cond : Expr) → (env : Environment) → Frame
  -- a numeric `for` waits for its bounds, then for its body
  Start : (at : Node) → (name : StrId) → (limit : Expr) → (step : Option Expr) → (body : List Stat) → Frame
  Limit : (at : Node) → (name : StrId) → (start : Value) → (step : Option Expr) → (body : List Stat) → Frame
  Stride : (at : Node) → (name : StrId) → (start limit : Value) → (body : List Stat) → Frame
  Counts : (name : StrId) → (index limit step : ℤ) → (body : List Stat) → Frame
  -- a generic `for` waits for its values, then for its body
  Generator : (at : Node) → (names : List StrId) → (body : List Stat) → Frame
  Asks : (at : Node) → (names : List StrId) → (generator state control : Value) → (body : List Stat) → Frame
  -- the rest of a block
  Continues : (rest : List Stat) → Frame
  -- at the end of a block the variables are those from before it
  Restores : (env : Environment) → Frame
  Returns : Frame
  -- the node waits for a call
  Awaits : (at : Node) → (purpose : Purpose) → Frame

-- what is done now
pub data Focus : Type 0 where
  -- for one value
  Evaluate : (e : Expr) → Focus
  Give : (v : Value) → Focus
  -- for all its values
  EvaluateAll : (e : Expr) → Focus
  -- the values of a list, of which these are there
  EvaluateList : (got : List Value) → (es : List Expr) → Focus
  GiveAll : (vs : List Value) → Focus
  -- operands of a run of `..`, the last one first, which are joined from the right
  Join : (at : Node) → (vs : List Value) → Focus
  -- fields that are put into a table
  Fill : (at : Node) → (table : TableRef) → (place : ℕ) → (fields : List Field) → Focus
  -- values that are put into a table from a place on
  Spread : (at : Node) → (table : TableRef) → (place : ℕ) → (values : List Value) → Focus
  -- the first condition that is true picks its value
  Pick : (arms : List ExprArm) → (other : Expr) → Focus
  Execute : (s : Stat) → Focus
  ExecuteAll : (ss : List Stat) → Focus
  -- the first condition that is true chooses its block
  Choose : (arms : List Arm) → (other : Option (List Stat)) → Focus
  Aim : (target : Expr) → Focus
  Aimed : (at : Node) → (target : Target) → Focus
  -- values are stored, from left to right
  Store : (targets : List (Node × Target)) → (values : List Value) → Focus
  -- a turn of a numeric `for`, if there is one with this index
  Count : (name : StrId) → (index limit step : ℤ) → (body : List Stat) → Focus
  -- the generator of a generic `for` is asked
  Ask : (at : Node) → (names : List StrId) → (generator state control : Value) → (body : List Stat) → Focus
  Done : Focus
  Break : Focus
  Continue : Focus
  -- a function is called
  Invoke : (by : Caller) → (callee : Value) → (args : List Value) → Focus
  -- values of the function that ran, a run error, and a raised value on its way to who catches it
  Hand : (vs : List Value) → Focus
  Fault : (e : RunError) → Focus
  Raise : (v : Value) → Focus

-- a Luau function's text, and the variables that it sees
pub record Body : Type 0 where
  pub func : FuncBody
  pub env : Environment

-- a function that was entered: what waits in it, its variables, its closure, and its arguments behind the parameters
pub record Activation : Type 0 where
  pub frames : List Frame
  pub env : Environment
  pub closure : ℕ
  pub varargs : List Value

-- what all functions share
pub record World : Type 0 where
  -- the objects; a cell holds a variable's value, and is never used again
  pub objects : Objects Body
  pub waits : Waits
  -- the functions of each coroutine that does not run, the innermost first
  pub elsewhere : ℕ → List Activation
  -- the environments that `getfenv` gave or `setfenv` was given, which no step reads
  pub given : List TableRef
  -- what the outside still answers
  pub replies : List Reply

-- the functions of the coroutine that runs, the innermost first
pub record State : Type 0 where
  pub focus : Focus
  pub functions : List Activation
  pub world : World
