-- What waits for a call, and what comes of one.
use Rattle.std.specs.Prelude.{ℕ, Bool, List, [], ◌∷◌, Option, Some, None, slice_index_or, slice_set}
use Rattle.value_model.specs.declared.builtin.Builtin.{Builtin}
use Rattle.whole_num.specs.declared.arithmetic.Stop.{Stop}
use Rattle.value_model.specs.Values.{Bytes, TableRef, Value, Text}
use Rattle.value_model.specs.Errors.{RunError, error_text}
use Rattle.value_model.specs.Store.{Store, here}
use Rattle.value_model.specs.declared.event.EventKind.{EventKind}
use Rattle.value_model.specs.Names.{Name}

-- ---- runs

-- how a script ends
pub data End : Type 0 where
  Ended : (values : List Name) → End
  Raised : (value : Name) → End
  Stopped : (stop : Stop) → End
  -- its turns are spent, and it would spend one more
  Unfinished : End
  -- there is no rule for what it would do, which no accepted script comes to
  Stuck : End

-- ---- what waits

-- a library function that asks for the texts of its arguments: the place of the argument whose text was asked, from 0, and the
-- text so far
pub record Continue : Type 0 where
  pub builtin : Builtin
  pub arguments : List Value
  pub at : ℕ
  pub text : Bytes

-- what waits for the values of a call
pub data Wait : Type 0 where
  -- a frame of a Luau function
  Runs : (closure : ℕ) → Wait
  -- `pcall`, and `xpcall` with its handler
  Protects : Wait
  Guards : (handler : Value) → Wait
  -- `xpcall` whose handler runs
  Handles : Wait
  -- a call that has resumed another coroutine: of `coroutine.resume`, or of a function of `coroutine.wrap`
  Resumes : (wrapped : Bool) → Wait
  Asks : (then : Continue) → Wait

-- for each coroutine what waits in it, the innermost first
abbrev pub Waits : Type 0
Waits = List (List Wait)

abbrev pub waiting : Waits → ℕ → List Wait
waiting ws i = slice_index_or ws i []

abbrev pub with_waiting : Waits → ℕ → List Wait → Waits
with_waiting ws i w = slice_set ws i w

-- ---- the cases and what comes of them

-- who calls: an expression or a generic `for` of a script; or a metamethod, a library function or a resume
pub data Caller : Type 0 where
  ByScript : Caller
  ByLibrary : Caller

pub data Case : Type 0 where
  Called : (by : Caller) → (callee : Value) → (arguments : List Value) → Case
  -- the innermost call that waits is given values
  Given : (vs : List Value) → Case
  -- an error passes the innermost call that waits
  Passed : (v : Value) → Case

-- how a value came to be raised: by `error`, whose second argument was 0 or was not, or in another way
pub data Origin : Type 0 where
  ByError : (bare : Bool) → Origin
  Elsewise : Origin

pub data Thrown : Type 0 where
  Fails : (e : RunError) → Thrown
  Raises : (v : Value) → (origin : Origin) → Thrown

-- the value that is raised
abbrev pub value_thrown : Thrown → Value
value_thrown (Fails e) = Text (error_text e)
value_thrown (Raises v origin) = v

pub data Answer : Type 0 where
  -- values for what waits
  Gives : (vs : List Value) → Answer
  -- a Luau function is entered
  Enters : (closure : ℕ) → (arguments : List Value) → Answer
  -- a call that is still to be made
  Calls : (by : Caller) → (callee : Value) → (arguments : List Value) → Answer
  Throws : (thrown : Thrown) → Answer
  Stops : (stop : Stop) → Answer
  -- the end of the main function's own run, with values or with an error
  Finishes : (vs : List Value) → Answer
  Dies : (v : Value) → Answer

-- What comes of a case. Where a turn is charged, it is charged before all else, and nothing is shown
pub record Waited : Type 0 where
  pub charged : Bool
  pub answer : Answer
  pub waits : Waits
  pub store : Store
  pub event : Option EventKind
  -- the environment that `getfenv` gave or `setfenv` was given
  pub environment : Option TableRef

-- what waits innermost in the coroutine that runs
abbrev pub first_of : List Wait → Option Wait
first_of [] = None
first_of (w ∷ ws) = Some w

abbrev pub innermost : Waits → Store → Option Wait
innermost ws s = first_of (waiting ws (here s))

abbrev pub rest_of : List Wait → List Wait
rest_of [] = []
rest_of (w ∷ ws) = ws

-- a frame of a Luau function is left, or a call no longer waits
abbrev pub leave : Waits → Store → Waits
leave ws s = with_waiting ws (here s) (rest_of (waiting ws (here s)))

-- one more waits
abbrev pub await : Wait → Waits → Store → Waits
await w ws s = with_waiting ws (here s) (w ∷ waiting ws (here s))

-- the innermost Luau function among those that wait
abbrev pub innermost_function : List Wait → Option ℕ
innermost_function [] = None
innermost_function (Runs f ∷ ws) = Some f
innermost_function (w ∷ ws) = innermost_function ws
