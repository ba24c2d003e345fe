-- What comes of an operation on values.
use Rattle.std.specs.Prelude.{ℕ, List}
use Rattle.value_model.specs.declared.operator.ArithOp.{ArithOp}
use Rattle.value_model.specs.declared.operator.CompareOp.{CompareOp}
use Rattle.whole_num.specs.declared.arithmetic.Stop.{Stop}
use Rattle.value_model.specs.Values.{Value}
use Rattle.value_model.specs.Errors.{RunError}
use Rattle.value_model.specs.Store.{Store}

pub data Operation : Type 0 where
  Index : (base key : Value) → Operation
  Newindex : (base key v : Value) → Operation
  -- minus looks at its first operand only
  Arith : (op : ArithOp) → (a b : Value) → Operation
  Compare : (op : CompareOp) → (a b : Value) → Operation
  Concat : (a b : Value) → Operation
  Length : (a : Value) → Operation
  -- what is called where a value is: the value itself, or its `__call`, which gets the value before the arguments
  Callee : (f : Value) → Operation

-- a value; a call, whose first value is the result; a run error; or a stop
pub data Outcome : Type 0 where
  Done : (v : Value) → Outcome
  CallThis : (callee : Value) → (arguments : List Value) → Outcome
  Errs : (e : RunError) → Outcome
  Halts : (s : Stop) → Outcome

-- the outcome, how many tables were asked, and the store, where a value was written
pub record Choice : Type 0 where
  pub outcome : Outcome
  pub asked : ℕ
  pub store : Store
