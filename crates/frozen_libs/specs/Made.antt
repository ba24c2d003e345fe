-- Tables that nobody owns, as they are made one after another in a new arena.
use Rattle.std.specs.Prelude.{◌≡◌, ℕ, ◌<◌, false, List, map, length, slice_index_or}
use Rattle.std.specs.List.{AllByRecursion}
use Rattle.byte_text.specs.declared.fixed.StrId.{StrId}
use Rattle.value_model.specs.Fresh.{Built}
use Rattle.value_model.specs.Parts.{bytes_at, table_ref}
use Rattle.value_model.specs.Store.{TableOf}
use Rattle.value_model.specs.Values.{Bytes, TableRef}
use Rattle.value_model.specs.declared.ids.Owner.TheVariants as owner
use Rattle.value_model.specs.declared.ids.ShortOwner.TheVariants.{Frozen}
use Rattle.value_model.specs.declared.ids.TableId.{TableId}
use Rattle.value_model.specs.declared.value.Value.{Value}
use Rattle.value_model.specs.declared.value.Value.TheVariants as value
use Rattle.value_arena.specs.Tables.{TableView, no_table}
use Rattle.value_arena.specs.Objects.{no_objects}
use Rattle.value_arena.specs.Arenas.{ArenaView, HasTable, no_arena, objects_of, table_at, with_objects}
use Rattle.luau_tables.specs.Own.{AreNames}
use Rattle.luau_tables.specs.Part.{table_of, OfTable}
use Rattle.luau_tables.specs.declared.globals.Globals.{Globals}

-- an arena with nothing but these tables, which nobody owns
abbrev pub arena_of : List TableView → ArenaView
arena_of ts = with_objects no_arena owner.Frozen (record no_objects { tables = ts })

abbrev pub tables_in : ArenaView → List TableView
tables_in a = (objects_of a owner.Frozen).tables

-- the table at a place among them
abbrev pub shared_id : ℕ → TableId
shared_id place = record { owner = Frozen; place = place }

-- A value that such a table may hold, where there are so many of them: no object of a script, and no text without a number.
abbrev pub IsShared : (texts : List Bytes) → (count : ℕ) → Value → Type 0
IsShared texts n (value.Str x) = x.0 < length texts
IsShared texts n (value.Table t) = (t.owner ≡ Frozen) × (t.place < n)
IsShared texts n (value.Closure f) = ⊥
IsShared texts n (value.Wrap t) = ⊥
IsShared texts n (value.Thread t) = ⊥
IsShared texts n v = Unit {0}

-- An arena holds these tables, by the texts of the interner, which nobody owns, and nothing else.
pub record Holds (texts : List Bytes) (a : ArenaView) (ts : List TableOf) : Type 0 where
  pub arena : a ≡ arena_of (tables_in a)
  pub tables : map (table_of texts) (tables_in a) ≡ ts
  pub values : (i : ℕ) → OfTable (IsShared texts (length ts)) (slice_index_or (tables_in a) i no_table)
  pub unmarked : (i : ℕ) → (slice_index_or (tables_in a) i no_table).is_marked ≡ false

-- a table that nobody owns and that can be written
pub record IsOpen (a : ArenaView) (t : TableId) : Type 0 where
  pub owner : t.owner ≡ Frozen
  pub there : HasTable a t
  pub thawed : (table_at a t).is_frozen ≡ false

-- paths of tables, and names of host functions, by the texts of the interner
pub record ArePaths (texts : List Bytes) (ps : List (TableId × StrId)) (qs : List (TableRef × Bytes)) : Type 0 where
  pub meaning : map (λ p. (table_ref p.0, bytes_at texts p.1.0)) ps ≡ qs
  pub numbers : AllByRecursion (λ p. p.1.0 < length texts) ps

pub record AreHosts (texts : List Bytes) (xs : List StrId) (names : List Bytes) : Type 0 where
  pub meaning : map (λ x. bytes_at texts x.0) xs ≡ names
  pub numbers : AllByRecursion (λ x. x.0 < length texts) xs

-- All that was made so far, with what leads to it.
pub record IsBuilt (texts : List Bytes) (a : ArenaView) (g : Globals) (b : Built) : Type 0 where
  pub holds : Holds texts a b.tables
  pub table : g.table ≡ shared_id 0
  pub string_meta : g.string_meta ≡ shared_id 1
  pub names : AreNames texts g.meta
  pub paths : ArePaths texts g.paths.items b.paths
  pub hosts : AreHosts texts g.hosts.items b.hosts
