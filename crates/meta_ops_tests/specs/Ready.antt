-- What a world of tests holds.
use Rattle.std.specs.Prelude.{◌≡◌, ℕ, ◌<◌, ◌≤◌, length}
use Rattle.value_model.specs.declared.ids.Owner.TheVariants.{Frozen}
use Rattle.value_model.specs.declared.ids.ShortOwner.TheVariants as short
use Rattle.value_model.specs.declared.ids.TableId.{TableId}
use Rattle.value_model.specs.declared.value.Value.{Value}
use Rattle.value_arena.specs.Arenas.{ArenaView, HasTable, objects_of}
use Rattle.value_arena.specs.Owning.{IsOwned, MayHold}
use Rattle.luau_tables.specs.Own.{AreTexts}
use Rattle.meta_ops_tests.specs.declared.world.World.{World}

-- There are so many of nobody's tables, of which the first one is the metatable of strings, each object refers to what is there,
-- and texts are short.
pub record IsReady (w : World) : Type 0 where
  pub owned : IsOwned w.arena
  pub some : 0 < w.tables
  pub there : w.tables ≤ length (objects_of w.arena Frozen).tables
  pub strings : HasTable w.arena w.globals.string_meta
  pub texts : AreTexts w.names

-- nobody's objects may hold the value
abbrev pub MayStore : ArenaView → Value → Type 0
MayStore a v = MayHold a Frozen v

-- a table of nobody
abbrev pub IsNobodys : TableId → Type 0
IsNobodys t = t.owner ≡ short.Frozen
