-- The objects of a script.
use Rattle.std.specs.Prelude.{ℕ, Bool, false, List, [], ◌∷◌, ◌++◌, length, Option, Some, None, nat_eq, slice_index_or, slice_set}
use Rattle.value_model.specs.declared.kind.CoStatus.{CoStatus}
use Rattle.value_model.specs.Values.{Bytes, TableRef, Shared, Own, Value}

-- a table, with its entries in the order in which their keys came. A key is never nil and stands once; a value that is nil
-- keeps its key's place
pub record TableOf : Type 0 where
  pub entries : List (Value × Value)
  pub meta : Option TableRef
  pub frozen : Bool

-- a coroutine: what it runs, nil once that was begun; who has resumed it, none standing for the main function; and the value
-- that it died of, where an error passed its end
pub record CoroutineOf : Type 0 where
  pub body : Value
  pub status : CoStatus
  pub resumer : Option ℕ
  pub failure : Option Value

-- which of the shared tables are the global table and the metatable of strings, and the paths by which shared tables and
-- host functions are called
pub record Globals : Type 0 where
  pub table : TableRef
  pub string_meta : TableRef
  pub paths : List (TableRef × Bytes)
  pub hosts : List Bytes

-- What operations on values read and change: the tables that no script owns and those of the script, the environment of each
-- Luau function, the coroutines, and which of these runs, none standing for the main function. The script's table 0 is its
-- environment and table 1 the metatable of that, its function 0 the main function, and its coroutine 0 stands for the main
-- function's own run.
pub record Store : Type 0 where
  pub globals : Globals
  pub shared : List TableOf
  pub tables : List TableOf
  pub closures : List TableRef
  pub coroutines : List CoroutineOf
  pub running : Option ℕ

-- All objects of a script. The body of each Luau function stands beside its environment, at the same place: a function's syntax
-- with its variables in the meaning of source, the number of its code with its cells in the meaning of code. No operation on values
-- reads a body or a cell, so none is asked for them.
pub record Objects (Body : Type 0) : Type 0 where
  pub store : Store
  pub bodies : List Body
  pub cells : List Value

-- ---- tables

abbrev pub empty_table : TableOf
empty_table = record { entries = []; meta = None; frozen = false }

abbrev pub same_table : TableRef → TableRef → Bool
same_table (Shared i) (Shared j) = nat_eq i j
same_table (Own i) (Own j) = nat_eq i j
same_table _ _ = false

unfoldable pub table_at : Store → TableRef → TableOf
table_at s (Shared i) = slice_index_or s.shared i empty_table
table_at s (Own i) = slice_index_or s.tables i empty_table

unfoldable pub with_table : Store → TableRef → TableOf → Store
with_table s (Shared i) t = record s { shared = slice_set s.shared i t }
with_table s (Own i) t = record s { tables = slice_set s.tables i t }

-- where the next table that the script makes will be, and the store with it
abbrev pub next_table : Store → TableRef
next_table s = Own (length s.tables)

abbrev pub with_new_table : Store → TableOf → Store
with_new_table s t = record s { tables = s.tables ++ t ∷ [] }

-- ---- functions

-- the environment of the script
abbrev pub script_environment : TableRef
script_environment = Own 0

abbrev pub environment_of : Store → (closure : ℕ) → TableRef
environment_of s f = slice_index_or s.closures f script_environment

abbrev pub with_environment : Store → (closure : ℕ) → TableRef → Store
with_environment s f t = record s { closures = slice_set s.closures f t }

-- a new Luau function
abbrev pub with_new_closure : {Body : Type 0} → Objects Body → TableRef → Body → Objects Body
with_new_closure o env body = record o { store = record o.store { closures = o.store.closures ++ env ∷ [] }; bodies = o.bodies ++ body ∷ [] }

-- ---- coroutines

abbrev pub place_of_running : Option ℕ → ℕ
place_of_running None = 0
place_of_running (Some i) = i

-- the place of the one that runs
abbrev pub here : Store → ℕ
here s = place_of_running s.running
