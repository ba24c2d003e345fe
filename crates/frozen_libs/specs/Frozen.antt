-- What `build` leaves for scripts.
use Rattle.std.specs.Prelude.{◌≡◌, List, [], false, None}
use Rattle.value_model.specs.Store.{Store}
use Rattle.value_model.specs.Values.{Bytes}
use Rattle.value_model.specs.declared.ids.Owner.{Owner}
use Rattle.value_model.specs.declared.ids.Owner.TheVariants.{Frozen}
use Rattle.value_model.specs.declared.ids.TableId.{TableId}
use Rattle.value_arena.specs.Arenas.{ArenaView, objects_of, table_at}
use Rattle.value_arena.specs.Objects.{no_objects}
use Rattle.luau_tables.specs.Own.{IsOwn}
use Rattle.luau_tables.specs.Part.{store_of, IsScript}
use Rattle.luau_tables.specs.declared.globals.Globals.{Globals}

-- a store without what its script owns
abbrev pub unowned : Store → Store
unowned s = record s { tables = []; closures = []; coroutines = [] }

-- No script owns anything, nobody has a cell, no table is marked, and no coroutine runs
pub record IsUnowned (a : ArenaView) : Type 0 where
  pub scripts : (w : Owner) → IsScript w → objects_of a w ≡ no_objects
  pub cells : (objects_of a Frozen).cells ≡ []
  pub running : a.running ≡ None
  pub unmarked : (t : TableId) → (table_at a t).is_marked ≡ false

-- A script that owns nothing sees this store, and can come to nothing but what it owns and what nobody owns.
pub record Starts (texts : List Bytes) (g : Globals) (a : ArenaView) (s : Store) : Type 0 where
  pub part : (w : Owner) → IsScript w → store_of texts g a w ≡ unowned s
  pub own : (w : Owner) → IsScript w → IsOwn texts g a w
