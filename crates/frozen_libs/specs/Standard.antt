-- The tables of the library, as they are made.
use Rattle.std.specs.Prelude.{◌≡◌, false, List, [], ◌∷◌, map, None}
use Rattle.value_model.specs.Fresh.{library_table, library_entry, core_functions, math_functions, string_functions, table_functions, coroutine_functions}
use Rattle.value_model.specs.Store.{TableOf, empty_table}
use Rattle.frozen_libs.specs.Made.{shared_id}
use Rattle.frozen_libs.specs.declared.standard.Libraries.{Libraries}

-- the global table and the metatable of strings, as nothing is in them
abbrev pub opened : List TableOf
opened = empty_table ∷ empty_table ∷ []

abbrev pub with_libraries : (global strings : TableOf) → List TableOf
with_libraries global strings =
    global ∷ strings ∷ library_table math_functions ∷ library_table string_functions ∷ library_table table_functions
    ∷ library_table coroutine_functions ∷ []

-- the global table with functions alone
abbrev pub core_table : TableOf
core_table = record { entries = map library_entry core_functions; meta = None; frozen = false }

-- the tables of the library stand behind the first two
pub record AreLibraries (l : Libraries) : Type 0 where
  pub math : l.math ≡ shared_id 2
  pub string : l.string ≡ shared_id 3
  pub table : l.table ≡ shared_id 4
  pub coroutine : l.coroutine ≡ shared_id 5
