-- What functions of the library are lent, and what they leave of it.
use Rattle.std.specs.Prelude.{◌≡◌, ◌≢◌, List, ◌++◌}
use Rattle.value_model.specs.Store.{Store}
use Rattle.value_model.specs.Values.{Bytes}
use Rattle.value_model.specs.declared.ids.Owner.{Owner}
use Rattle.value_model.specs.declared.ids.TableId.{TableId}
use Rattle.value_model.specs.declared.value.Value.{Value}
use Rattle.value_arena.specs.Arenas.{ArenaView, IsOwner, objects_of, table_at}
use Rattle.value_arena.specs.Growing.{Grows}
use Rattle.luau_tables.specs.Part.{store_of}
use Rattle.luau_tables.specs.Own.{IsOwn, MayUse}
use Rattle.luau_tables.specs.declared.globals.LibWorld.{LibWorld}

-- a world of a script, which can come to what it owns and to what nobody owns
pub record IsWorld (w : LibWorld) : Type 0 where
  pub owner : IsOwner w.owner
  pub own : IsOwn w.names w.globals w.arena w.owner

-- what the script reads and changes
abbrev pub store_in : LibWorld → Store
store_in w = store_of w.names w.globals w.arena w.owner

abbrev pub MayUseIn : LibWorld → Value → Type 0
MayUseIn w v = MayUse w.names w.arena w.owner v

-- ---- what stays

-- texts that were there have their numbers, and others may have come behind them
pub record Extends (before after : List Bytes) : Type 0 where
  pub more : List Bytes
  pub appended : after ≡ before ++ more

-- Of all objects only tables of the owner may have changed or come, and each has its mark as it was.
pub record ChangesTables (w : Owner) (before after : ArenaView) : Type 0 where
  pub grows : Grows before after
  pub others : (u : Owner) → u ≢ w → objects_of after u ≡ objects_of before u
  pub closures : (objects_of after w).closures ≡ (objects_of before w).closures
  pub cells : (objects_of after w).cells ≡ (objects_of before w).cells
  pub threads : (objects_of after w).threads ≡ (objects_of before w).threads
  pub marks : (t : TableId) → (table_at after t).is_marked ≡ (table_at before t).is_marked
  pub running : after.running ≡ before.running

-- the world that a library function leaves
pub record Keeps (before after : LibWorld) : Type 0 where
  pub world : IsWorld after
  pub owner : after.owner ≡ before.owner
  pub globals : after.globals ≡ before.globals
  pub names : Extends before.names after.names
  pub arena : ChangesTables before.owner before.arena after.arena
