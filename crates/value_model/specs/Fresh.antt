-- The store at a script's start: what no script owns, and an empty environment.
use Rattle.std.specs.Prelude.{ℕ, true, false, List, [], ◌∷◌, ◌++◌, length, map, Some, None, codes, slice_set}
use Rattle.value_model.specs.declared.builtin.Builtin.{Builtin}
use Rattle.value_model.specs.declared.builtin.Builtin.TheVariants as builtin
use Rattle.value_model.specs.declared.kind.CoStatus.TheVariants.{Suspended}
use Rattle.value_model.specs.Values.{Bytes, TableRef, Shared, Own, Value, Text, Table, Closure, Native, Host}
use Rattle.value_model.specs.Store.{TableOf, CoroutineOf, Store, Objects, empty_table, script_environment}
use Rattle.value_model.specs.Paths.{path_of, last_name}
use Rattle.value_model.specs.declared.plain.Plain.{Plain}
use Rattle.value_model.specs.Names.{value_of, content_text}
use Rattle.value_model.specs.Tables.{put}
use Rattle.value_model.specs.Waits.{Waits, Runs}
use Rattle.value_model.specs.Choices.{Choice}
use Rattle.value_model.specs.Metamethods.{index}

-- what a host file gives: a plain value, a function of the host, or a table of keys with such values. No key is nil
mutual
  pub data HostValue : Type 0 where
    HostPlain : (v : Plain) → HostValue
    HostFunction : HostValue
    HostTable : (fields : HostFields) → HostValue

  pub data HostFields : Type 0 where
    NoField : HostFields
    Field : (key : Plain) → (v : HostValue) → (rest : HostFields) → HostFields

-- ---- tables that no script owns, as they are made one after another

-- those made so far, with the paths of all but the global table and the metatable of strings, and the names of host functions
pub record Built : Type 0 where
  pub tables : List TableOf
  pub paths : List (TableRef × Bytes)
  pub hosts : List Bytes

-- a table under a path, which is the next one
abbrev pub with_built : Built → Bytes → TableOf → Built
with_built b path t = record b { tables = b.tables ++ t ∷ []; paths = b.paths ++ (Shared (length b.tables), path) ∷ [] }

abbrev pub with_built_at : Built → ℕ → TableOf → Built
with_built_at b i t = record b { tables = slice_set b.tables i t }

-- the path of a key in a table; the global table's is empty
abbrev pub path_under : Bytes → Plain → Bytes
path_under [] key = content_text key
path_under path key = path ++ 46 ∷ content_text key

-- a table that nobody writes
abbrev pub fixed : TableOf → TableOf
fixed t = record t { frozen = true }

-- a table has its place before the tables in it have theirs. Its entries come as in a constructor
abbrev mutual
  pub place_value : HostValue → Bytes → Built → Value × Built
  place_value (HostPlain v) path b = (value_of v, b)
  place_value HostFunction path b = (Host (length b.hosts), record b { hosts = b.hosts ++ path ∷ [] })
  place_value (HostTable fs) path b =
      let r = place_fields fs path empty_table (with_built b path empty_table)
      in (Table (Shared (length b.tables)), with_built_at r.1 (length b.tables) (fixed r.0))

  pub place_fields : HostFields → Bytes → TableOf → Built → TableOf × Built
  place_fields NoField path t b = (t, b)
  place_fields (Field key v rest) path t b =
      let r = place_value v (path_under path key) b
      in place_fields rest path (put t (value_of key) r.0) r.1

-- ---- the library

-- a function under the last name of its path
abbrev pub library_entry : Builtin → Value × Value
library_entry f = (Text (last_name (path_of f)), Native f)

abbrev pub library_table : List Builtin → TableOf
library_table fs = record { entries = map library_entry fs; meta = None; frozen = true }

abbrev pub core_functions : List Builtin
core_functions =
    builtin.Print ∷ builtin.Type ∷ builtin.Typeof ∷ builtin.Tostring ∷ builtin.Tonumber ∷ builtin.Assert ∷ builtin.Error ∷ builtin.Pcall ∷ builtin.Xpcall
    ∷ builtin.Select ∷ builtin.Next ∷ builtin.Pairs ∷ builtin.Ipairs ∷ builtin.Rawget ∷ builtin.Rawset ∷ builtin.Rawequal ∷ builtin.Rawlen
    ∷ builtin.Getmetatable ∷ builtin.Setmetatable ∷ builtin.TableUnpack ∷ builtin.Getfenv ∷ builtin.Setfenv ∷ []

abbrev pub math_functions : List Builtin
math_functions =
    builtin.MathAbs ∷ builtin.MathCeil ∷ builtin.MathFloor ∷ builtin.MathRound ∷ builtin.MathSign ∷ builtin.MathMax ∷ builtin.MathMin ∷ builtin.MathClamp ∷ []

abbrev pub string_functions : List Builtin
string_functions =
    builtin.StringByte ∷ builtin.StringChar ∷ builtin.StringLen ∷ builtin.StringSub ∷ builtin.StringLower ∷ builtin.StringUpper ∷ builtin.StringRep
    ∷ builtin.StringReverse ∷ builtin.StringSplit ∷ builtin.StringFormat ∷ []

abbrev pub table_functions : List Builtin
table_functions =
    builtin.TableInsert ∷ builtin.TableRemove ∷ builtin.TableConcat ∷ builtin.TableUnpack ∷ builtin.TablePack ∷ builtin.TableCreate ∷ builtin.TableFind
    ∷ builtin.TableClear ∷ builtin.TableClone ∷ builtin.TableFreeze ∷ builtin.TableIsfrozen ∷ builtin.TableMove ∷ builtin.TableSort ∷ []

abbrev pub coroutine_functions : List Builtin
coroutine_functions =
    builtin.CoroutineCreate ∷ builtin.CoroutineResume ∷ builtin.CoroutineYield ∷ builtin.CoroutineStatus ∷ builtin.CoroutineWrap
    ∷ builtin.CoroutineIsyieldable ∷ builtin.CoroutineRunning ∷ builtin.CoroutineClose ∷ []

-- the global table before the names of the host
abbrev pub standard_table : TableOf
standard_table =
    record {
      entries = map library_entry core_functions ++ (Text (codes "math"), Table (Shared 2)) ∷ (Text (codes "string"), Table (Shared 3)) ∷ (Text (codes "table"), Table (Shared 4)) ∷ (Text (codes "coroutine"), Table (Shared 5)) ∷ [];
      meta = None;
      frozen = false;
    }

-- strings are indexed through the table `string`
abbrev pub string_metatable : TableOf
string_metatable = record { entries = (Text (codes "__index"), Table (Shared 3)) ∷ []; meta = None; frozen = true }

abbrev pub standard : Built
standard = record {
  tables = standard_table ∷ string_metatable ∷ library_table math_functions ∷ library_table string_functions ∷ library_table table_functions ∷ library_table coroutine_functions ∷ [];
  paths = (Shared 2, codes "math") ∷ (Shared 3, codes "string") ∷ (Shared 4, codes "table") ∷ (Shared 5, codes "coroutine") ∷ [];
  hosts = [];
}

-- with the names of a host file
abbrev pub built : HostFields → Built
built host = let r = place_fields host [] standard_table standard in with_built_at r.1 0 (fixed r.0)

-- ---- the script's own part

abbrev pub environment_metatable : TableOf
environment_metatable = record { entries = (Text (codes "__index"), Table (Shared 0)) ∷ []; meta = None; frozen = true }

abbrev pub empty_environment : TableOf
empty_environment = record { entries = []; meta = Some (Own 1); frozen = false }

-- what stands for the main function's own run
abbrev pub main_run : CoroutineOf
main_run = record { body = Closure 0; status = Suspended; resumer = None; failure = None }

abbrev pub store_with : Built → Store
store_with b = record {
  globals = record { table = Shared 0; string_meta = Shared 1; paths = b.paths; hosts = b.hosts };
  shared = b.tables;
  tables = empty_environment ∷ environment_metatable ∷ [];
  closures = script_environment ∷ [];
  coroutines = main_run ∷ [];
  running = None;
}

-- the store at the start of a script
unfoldable pub fresh : HostFields → Store
fresh host = store_with (built host)

-- with the body of the main function
abbrev pub fresh_objects : {Body : Type 0} → HostFields → Body → Objects Body
fresh_objects host body = record { store = fresh host; bodies = body ∷ []; cells = [] }

-- the main function runs
abbrev pub first_waits : Waits
first_waits = (Runs 0 ∷ []) ∷ []

-- ---- names

-- a global name, in an environment
unfoldable pub look : Store → (environment : TableRef) → Bytes → Choice
look s env name = index s (Table env) (Text name)
