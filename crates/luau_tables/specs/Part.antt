-- One script's part of all objects, as the meanings know it, and the values of a script.
use Rattle.std.specs.Prelude.{◌≡◌, ℕ, ◌<◌, List, [], ◌∷◌, map, length, Option, Some, None, option_map}
use Rattle.value_model.specs.Owners.{wide}
use Rattle.value_model.specs.Parts.{meant, table_ref}
use Rattle.value_model.specs.Store as store
use Rattle.value_model.specs.Values as model
use Rattle.value_model.specs.Values.{Bytes}
use Rattle.value_model.specs.declared.ids.Owner.{Owner}
use Rattle.value_model.specs.declared.ids.Owner.TheVariants as owner
use Rattle.value_model.specs.declared.ids.ShortOwner.{ShortOwner}
use Rattle.value_model.specs.declared.ids.ShortOwner.TheVariants.{Frozen, Script}
use Rattle.value_model.specs.declared.ids.ThreadId.{ThreadId}
use Rattle.value_model.specs.declared.value.Value.{Value}
use Rattle.value_model.specs.declared.value.Value.TheVariants as value
use Rattle.value_arena.specs.Tables.{Entries, TableView}
use Rattle.value_arena.specs.Arenas.{ArenaView, objects_of}
use Rattle.value_arena.specs.declared.closure.Closure.{Closure}
use Rattle.value_arena.specs.declared.closure.Thread.{Thread}
use Rattle.luau_tables.specs.Globals.{globals_of}
use Rattle.luau_tables.specs.declared.globals.Globals.{Globals}

-- ---- the part

-- a key and its value, by the texts of the interner
abbrev pub pair_of : (texts : List Bytes) → Value × Value → model.Value × model.Value
pair_of texts e = (meant texts e.0, meant texts e.1)

abbrev pub table_of : (texts : List Bytes) → TableView → store.TableOf
table_of texts t = record { entries = map (pair_of texts) t.entries; meta = option_map table_ref t.meta; frozen = t.is_frozen }

abbrev pub environment_of : Closure → model.TableRef
environment_of f = table_ref f.env

abbrev pub place_of_thread : ThreadId → ℕ
place_of_thread t = t.place

abbrev pub coroutine_of : (texts : List Bytes) → Thread → store.CoroutineOf
coroutine_of texts t =
    record {
      body = meant texts t.body;
      status = t.state;
      resumer = option_map place_of_thread t.resumer;
      failure = option_map (meant texts) t.failure;
    }

-- What a script of an owner reads and changes: the objects that no script owns, and its own. The mark of an environment, the code
-- of functions and what they captured stand beside it.
unfoldable pub store_of : (texts : List Bytes) → Globals → ArenaView → Owner → store.Store
store_of texts g a w =
    record {
      globals = globals_of texts g;
      shared = map (table_of texts) (objects_of a owner.Frozen).tables;
      tables = map (table_of texts) (objects_of a w).tables;
      closures = map environment_of (objects_of a w).closures;
      coroutines = map (coroutine_of texts) (objects_of a w).threads;
      running = option_map place_of_thread a.running;
    }

-- ---- what stands in a table

abbrev pub OfSome : {A : Type 0} → (A → Type 0) → Option A → Type 0
OfSome P None = Unit {0}
OfSome P (Some x) = P x

abbrev pub OfPairs : (Value → Type 0) → Entries → Type 0
OfPairs P [] = Unit {0}
OfPairs P (e ∷ es) = P e.0 × P e.1 × OfPairs P es

-- each value in a table, and its metatable
pub record OfTable (P : Value → Type 0) (t : TableView) : Type 0 where
  pub entries : OfPairs P t.entries
  pub meta : OfSome (λ m. P (value.Table m)) t.meta

-- ---- the values of a script

-- an owner that is a script
abbrev pub IsScript : Owner → Type 0
IsScript owner.Frozen = ⊥
IsScript (owner.Script n) = Unit {0}

-- the objects of an owner that a script may refer to: the script's own, and those of nobody
abbrev pub IsSeen : Owner → ShortOwner → Type 0
IsSeen w Frozen = Unit {0}
IsSeen w (Script n) = owner.Script n ≡ w

-- a value of a script: its text has a number, and its object is the script's or nobody's
abbrev pub IsOfScript : (texts : List Bytes) → Owner → Value → Type 0
IsOfScript texts w (value.Str x) = x.0 < length texts
IsOfScript texts w (value.Table t) = IsSeen w t.owner
IsOfScript texts w (value.Closure f) = wide f.owner ≡ w
IsOfScript texts w (value.Wrap t) = wide t.owner ≡ w
IsOfScript texts w (value.Thread t) = wide t.owner ≡ w
IsOfScript texts w v = Unit {0}
