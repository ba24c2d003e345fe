-- The bounds of a numeric `for`, and the beginning of a generic one.
use Rattle.std.specs.Prelude.{ℤ, pos, int_lt, int_le, Bool, List, [], ◌∷◌, Option, Some, None, Result, Ok, Err, codes, if◌then◌else◌}
use Rattle.value_model.specs.declared.builtin.Builtin.TheVariants as builtin
use Rattle.whole_num.specs.declared.arithmetic.Stop.{Stop}
use Rattle.value_model.specs.declared.error.LoopBound.{LoopBound}
use Rattle.value_model.specs.declared.error.LoopBound.TheVariants.{Initial, Limit, Step}
use Rattle.value_model.specs.Values.{Value, Nil, Table, Closure, Native, Host, Wrap, TableRef, kind_of}
use Rattle.value_model.specs.Errors.{RunError, IterateOver, ForBound}
use Rattle.value_model.specs.Store.{Store}
use Rattle.value_model.specs.Metamethods.{as_number, metamethod}

-- the bounds are numbers, or the first that is none is refused, or the first that has no whole value stops the script
pub data Bounds : Type 0 where
  Range : (start limit step : ℤ) → Bounds
  Refused : (e : RunError) → Bounds
  Halted : (s : Stop) → Bounds

-- a bound, with what is made of it
abbrev pub bound : LoopBound → Value → Option (Result ℤ Stop) → (ℤ → Bounds) → Bounds
bound b v None next = Refused (ForBound b (kind_of v))
bound b v (Some (Err s)) next = Halted s
bound b v (Some (Ok n)) next = next n

-- they are read in this order
unfoldable pub bounds : (start limit step : Value) → Bounds
bounds start limit step =
    bound Initial start (as_number start) (λ i.
    bound Limit limit (as_number limit) (λ l.
    bound Step step (as_number step) (λ s. Range i l s)))

-- whether a loop has a turn with this index
unfoldable pub goes_on : (index limit step : ℤ) → Bool
goes_on index limit step = if int_lt (pos 0) step then int_le index limit else int_le limit index

-- what is asked by a loop, or a call that gives it
pub data Iteration : Type 0 where
  Generates : (generator state control : Value) → Iteration
  CallsIter : (callee : Value) → (arguments : List Value) → Iteration
  NotIterable : (e : RunError) → Iteration

-- without `__iter` a table is asked itself where it has `__call`, and else through `next`
abbrev pub over_table : (call : Value) → TableRef → (state control : Value) → Iteration
over_table Nil t state control = Generates (Native builtin.Next) (Table t) Nil
over_table call t state control = Generates (Table t) state control

abbrev pub over : (iter call : Value) → TableRef → (state control : Value) → Iteration
over Nil call t state control = over_table call t state control
over iter call t state control = CallsIter iter (Table t ∷ [])

unfoldable pub iteration : Store → (generator state control : Value) → Iteration
iteration s (Table t) state control =
    over (metamethod s (Table t) (codes "__iter")) (metamethod s (Table t) (codes "__call")) t state control
iteration s (Closure i) state control = Generates (Closure i) state control
iteration s (Native b) state control = Generates (Native b) state control
iteration s (Host i) state control = Generates (Host i) state control
iteration s (Wrap i) state control = Generates (Wrap i) state control
iteration s v state control = NotIterable (IterateOver (kind_of v))
