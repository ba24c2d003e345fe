-- What comes of a call of a library function.
use Rattle.std.specs.Prelude.{ℕ, List}
use Rattle.whole_num.specs.declared.arithmetic.Stop.{Stop}
use Rattle.value_model.specs.Values.{Bytes, TableRef, Value}
use Rattle.value_model.specs.Errors.{RunError}
use Rattle.value_model.specs.Store.{Store}
use Rattle.value_model.specs.Waits.{Wait, Origin}

-- what is done with coroutines
pub data CoMove : Type 0 where
  Resume : (co : ℕ) → (arguments : List Value) → CoMove
  Yield : (vs : List Value) → CoMove
  Close : (co : ℕ) → CoMove

-- a function whose environment is read or replaced: the innermost Luau function that waits, one that is given, or none, which
-- stands for the script
pub data Whose : Type 0 where
  Innermost : Whose
  OfFunction : (closure : ℕ) → Whose
  OfScript : Whose

pub data EnvironmentUse : Type 0 where
  Reads : (f : Whose) → EnvironmentUse
  Replaces : (f : Whose) → (t : TableRef) → EnvironmentUse

pub data LibAnswer : Type 0 where
  Answers : (vs : List Value) → (store : Store) → LibAnswer
  -- `print` shows a line and gives nothing
  PrintsLine : (line : Bytes) → LibAnswer
  ErrsWith : (e : RunError) → LibAnswer
  RaisesValue : (v : Value) → (origin : Origin) → LibAnswer
  HaltsWith : (s : Stop) → LibAnswer
  -- a call, with what waits for it
  CallsBack : (callee : Value) → (arguments : List Value) → (then : Wait) → LibAnswer
  Moves : (move : CoMove) → LibAnswer
  OnEnvironment : (wanted : EnvironmentUse) → LibAnswer
