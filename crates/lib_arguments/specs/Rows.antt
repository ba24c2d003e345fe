-- How a call of a library function ends, by its row.
use Rattle.std.specs.Prelude.{◌≡◌, List, ◌++◌, Result, Ok, Err}
use Rattle.resource.specs.declared.memory.OutOfMemory.{OutOfMemory as NoMemory}
use Rattle.value_model.specs.Answers as model
use Rattle.value_model.specs.Store.{Store}
use Rattle.value_model.specs.Waits.{Elsewise}
use Rattle.value_model.specs.declared.value.Value.{Value}
use Rattle.luau_tables.specs.Answers.{Answered}
use Rattle.luau_tables.specs.Worlds.{store_in}
use Rattle.luau_tables.specs.declared.answer.LibAnswer.{LibAnswer}
use Rattle.luau_tables.specs.declared.answer.LibAnswer.TheVariants as answer
use Rattle.luau_tables.specs.declared.globals.LibWorld.{LibWorld}
use Rattle.lib_arguments.specs.Checks.{Fails}
use Rattle.lib_arguments.specs.declared.ending.Ending.{Ending}
use Rattle.lib_arguments.specs.declared.ending.Ending.TheVariants.{OutOfMemory, RunError, Stop}

-- A run error and a stop leave the store as it was.
abbrev pub LeavesStore : Ending → (before after : Store) → Type 0
LeavesStore OutOfMemory s s' = Unit {0}
LeavesStore e s s' = s' ≡ s

-- Without values nothing is appended.
pub record Ends (before after : LibWorld) (results_before results_after : List Value) (e : Ending) (row : model.LibAnswer) : Type 0 where
  pub results : results_after ≡ results_before
  pub store : LeavesStore e (store_in before) (store_in after)
  pub fails : Fails after.names row e

-- values are appended, or there is no memory for them
abbrev pub Gives : (results_before results_after given : List Value) → Result (Unit {0}) Ending → Type 0
Gives rs rs' vs (Ok done) = rs' ≡ rs ++ vs
Gives rs rs' vs (Err e) = (e ≡ OutOfMemory) × (rs' ≡ rs)

-- A call gives values or ends without, by its row
abbrev pub Runs : (before after : LibWorld) → (results_before results_after : List Value) → Result (Unit {0}) Ending → (row : model.LibAnswer) → Type 0
Runs before after rs rs' (Ok done) row = Answered before after rs rs' answer.Values Elsewise row
Runs before after rs rs' (Err e) row = Ends before after rs rs' e row

-- and its answer
abbrev pub ending_of : Result (Unit {0}) Ending → Result LibAnswer NoMemory
ending_of (Ok done) = Ok answer.Values
ending_of (Err OutOfMemory) = Err (record {})
ending_of (Err (RunError e)) = Ok (answer.RunError e)
ending_of (Err (Stop s)) = Ok (answer.Stop s)
