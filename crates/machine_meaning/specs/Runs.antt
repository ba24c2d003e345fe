-- Loading, and the run of code.
use Rattle.std.specs.Prelude.{ℕ, pos, true, false, List, [], ◌∷◌, Option, Some, None}
use Rattle.std.specs.Option.{option_and_then}
use Rattle.value_model.specs.Values.{Value, Nil, Text, Table, TableRef, Bytes}
use Rattle.value_model.specs.Store.{Store, table_at, script_environment}
use Rattle.value_model.specs.Tables.{get}
use Rattle.value_model.specs.declared.event.EventKind.{EventKind}
use Rattle.value_model.specs.declared.event.Reply.{Reply}
use Rattle.value_model.specs.Fresh.{HostFields, fresh, fresh_objects, first_waits}
use Rattle.bounded_runs.specs.Runs.{Report, Reports}
use Rattle.op_words.specs.declared.chunk.Const.TheVariants as constant
use Rattle.op_words.specs.Chunks.{ChunkOf}
use Rattle.op_words.specs.declared.chunk.Const.{Const}
use Rattle.machine_meaning.specs.Chunks.{proto_at, size_of}
use Rattle.machine_meaning.specs.Constants.{constant_at, path_of}
use Rattle.machine_meaning.specs.States.{Run, Idle, State, filled}
use Rattle.machine_meaning.specs.Moves.{Look}
use Rattle.machine_meaning.specs.Steps.{step}

-- ---- import constants

abbrev pub raw : Store → TableRef → Bytes → Value
raw s t x = get (table_at s t) (Text x)

-- what a name of the environment leads to: a value there, or else in the global table
abbrev pub global_value : Store → Value → Bytes → Value
global_value s Nil x = raw s s.globals.table x
global_value s v x = v

-- the names behind it lead on through frozen tables
abbrev pub led : Store → Value → List Bytes → Option Value
led s Nil xs = None
led s v [] = Some v
led s (Table t) (x ∷ xs) = elim (table_at s t).frozen [ true ↦ led s (raw s t x) xs | false ↦ None ]
led s v (x ∷ xs) = None

abbrev pub resolved : Store → List Bytes → Option Value
resolved s [] = None
resolved s (x ∷ xs) = led s (global_value s (raw s script_environment x) x) xs

abbrev pub path_in : ChunkOf → (proto : ℕ) → Option Const → Option (List Bytes)
path_in chunk p (Some (constant.Import word)) = path_of chunk p word
path_in chunk p _ = None

-- what the import constants of the chunk hold
unfoldable pub imports_of : ChunkOf → Store → (proto constant : ℕ) → Option Value
imports_of chunk s p k = option_and_then (resolved s) (path_in chunk p (constant_at chunk p (pos k)))

-- ---- loading

-- The main function runs in the script's environment, which is marked
abbrev pub loaded : ChunkOf → HostFields → List Reply → State
loaded chunk host replies = record {
  focus = Run;
  functions = record { closure = 0; proto = chunk.main; size = size_of (proto_at chunk chunk.main); upvalues = []; varargs = []; place = 0; registers = filled 0 []; top = 0; purpose = Idle } ∷ [];
  world = record { objects = fresh_objects host (record { proto = chunk.main; cells = [] }); waits = first_waits; elsewhere = λ co. []; marked = script_environment ∷ []; imports = imports_of chunk (fresh host); replies = replies };
}

-- with at most so many turns the run of the chunk gives this report
abbrev pub MachineRun : ChunkOf → HostFields → List Reply → (turns : ℕ) → Report EventKind Look → Type 0
MachineRun chunk host replies n r = Reports (step chunk) (loaded chunk host replies) n r
