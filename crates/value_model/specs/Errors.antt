-- The run errors, and their texts.
use Rattle.std.specs.Prelude.{ℕ, ℤ, ◌++◌, codes, decimal}
use Rattle.std.specs.Fmt.{signed_decimal}
use Rattle.value_model.specs.declared.kind.Kind.{Kind}
use Rattle.value_model.specs.declared.operator.ArithOp.{ArithOp}
use Rattle.value_model.specs.declared.operator.ArithOp.TheVariants as op
use Rattle.value_model.specs.declared.error.LoopBound.{LoopBound}
use Rattle.value_model.specs.declared.error.LoopBound.TheVariants.{Initial, Limit, Step}
use Rattle.value_model.specs.declared.error.Wanted.{Wanted}
use Rattle.value_model.specs.declared.error.Wanted.TheVariants.{OfKind, PlainValue, Coroutine, AnyValue}
use Rattle.value_model.specs.Values.{Bytes, kind_name}

-- a run error. Arguments count from 1, and a function is shown by the last name of its path
pub data RunError : Type 0 where
  IndexWithName : (base : Kind) → (key : Bytes) → RunError
  IndexWith : (base key : Kind) → RunError
  CallOf : (callee : Kind) → RunError
  Arithmetic : (operator : ArithOp) → (left right : Kind) → RunError
  Concatenate : (left right : Kind) → RunError
  CompareLess : (left right : Kind) → RunError
  CompareLessOrEqual : (left right : Kind) → RunError
  LengthOf : (operand : Kind) → RunError
  IterateOver : (operand : Kind) → RunError
  ReadonlyTable : RunError
  NilKey : RunError
  UnknownKey : RunError
  IndexChain : RunError
  NewindexChain : RunError
  ForBound : (bound : LoopBound) → (got : Kind) → RunError
  MissingArgument : (argument : ℕ) → (function : Bytes) → (wanted : Wanted) → RunError
  InvalidArgument : (argument : ℕ) → (function : Bytes) → (wanted : Wanted) → (got : Kind) → RunError
  ArgumentOutOfRange : (argument : ℕ) → (function : Bytes) → RunError
  InvalidDirective : RunError
  ProtectedMetatable : RunError
  FixedEnvironment : RunError
  DeadCoroutine : RunError
  NotSuspended : RunError
  CloseRunning : RunError
  YieldOutside : RunError
  AssertionFailed : RunError
  NotStringByTostring : RunError
  StringTooLarge : RunError
  TooManyValues : RunError
  InvalidElement : (got : Kind) → (place : ℤ) → RunError
  NoReply : RunError

abbrev pub operator_name : ArithOp → Bytes
operator_name op.Add = codes "add"
operator_name op.Sub = codes "sub"
operator_name op.Mul = codes "mul"
operator_name op.Div = codes "div"
operator_name op.Idiv = codes "idiv"
operator_name op.Mod = codes "mod"
operator_name op.Pow = codes "pow"
operator_name op.Unm = codes "unm"

-- minus has one operand
abbrev pub operands : ArithOp → (left right : Kind) → Bytes
operands op.Unm t u = kind_name t
operands _ t u = kind_name t ++ codes " and " ++ kind_name u

abbrev pub wanted_name : Wanted → Bytes
wanted_name (OfKind k) = kind_name k
wanted_name PlainValue = codes "plain value"
wanted_name Coroutine = codes "coroutine"
wanted_name AnyValue = codes "value"

abbrev pub bound_name : LoopBound → Bytes
bound_name Initial = codes "initial"
bound_name Limit = codes "limit"
bound_name Step = codes "step"

-- the argument of a function, as a text names it
abbrev pub argument_of : ℕ → Bytes → Bytes
argument_of n f = codes "argument #" ++ decimal n ++ codes " to '" ++ f ++ codes "'"

unfoldable pub error_text : RunError → Bytes
error_text (IndexWithName t key) = codes "attempt to index " ++ kind_name t ++ codes " with '" ++ key ++ codes "'"
error_text (IndexWith t u) = codes "attempt to index " ++ kind_name t ++ codes " with " ++ kind_name u
error_text (CallOf t) = codes "attempt to call a " ++ kind_name t ++ codes " value"
error_text (Arithmetic o t u) = codes "attempt to perform arithmetic (" ++ operator_name o ++ codes ") on " ++ operands o t u
error_text (Concatenate t u) = codes "attempt to concatenate " ++ kind_name t ++ codes " with " ++ kind_name u
error_text (CompareLess t u) = codes "attempt to compare " ++ kind_name t ++ codes " < " ++ kind_name u
error_text (CompareLessOrEqual t u) = codes "attempt to compare " ++ kind_name t ++ codes " <= " ++ kind_name u
error_text (LengthOf t) = codes "attempt to get length of a " ++ kind_name t ++ codes " value"
error_text (IterateOver t) = codes "attempt to iterate over a " ++ kind_name t ++ codes " value"
error_text ReadonlyTable = codes "attempt to modify a readonly table"
error_text NilKey = codes "table index is nil"
error_text UnknownKey = codes "invalid key to 'next'"
error_text IndexChain = codes "'__index' chain too long"
error_text NewindexChain = codes "'__newindex' chain too long"
error_text (ForBound b t) = codes "invalid 'for' " ++ bound_name b ++ codes " value (number expected, got " ++ kind_name t ++ codes ")"
error_text (MissingArgument n f w) = codes "missing " ++ argument_of n f ++ codes " (" ++ wanted_name w ++ codes " expected)"
error_text (InvalidArgument n f w t) =
    codes "invalid " ++ argument_of n f ++ codes " (" ++ wanted_name w ++ codes " expected, got " ++ kind_name t ++ codes ")"
error_text (ArgumentOutOfRange n f) = codes "invalid " ++ argument_of n f ++ codes " (out of range)"
error_text InvalidDirective = codes "invalid directive in 'format'"
error_text ProtectedMetatable = codes "cannot change a protected metatable"
error_text FixedEnvironment = codes "cannot change environment of this function"
error_text DeadCoroutine = codes "cannot resume dead coroutine"
error_text NotSuspended = codes "cannot resume non-suspended coroutine"
error_text CloseRunning = codes "cannot close a running coroutine"
error_text YieldOutside = codes "attempt to yield from outside a coroutine"
error_text AssertionFailed = codes "assertion failed!"
error_text NotStringByTostring = codes "'__tostring' must return a string"
error_text StringTooLarge = codes "resulting string too large"
error_text TooManyValues = codes "too many values"
error_text (InvalidElement t i) = codes "invalid value (" ++ kind_name t ++ codes ") at index " ++ signed_decimal i ++ codes " in 'concat'"
error_text NoReply = codes "no reply from host"
