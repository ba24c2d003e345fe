-- What a script has when it starts: its environment with a metatable, its main function, and what stands for that function's own run.
use Rattle.std.specs.Prelude.{◌≡◌, ℕ, [], ◌∷◌, map, length, true, false, None, Some, codes}
use Rattle.value_model.specs.Fresh.{empty_environment, main_run}
use Rattle.value_model.specs.Store.{Store, TableOf, script_environment}
use Rattle.value_model.specs.Values.{TableRef, Text, Table}
use Rattle.value_model.specs.declared.ids.Owner.{Owner}
use Rattle.value_model.specs.declared.ids.Owner.TheVariants.{Frozen}
use Rattle.value_model.specs.declared.ids.TableId.{TableId}
use Rattle.value_model.specs.declared.ids.ClosureId.{ClosureId}
use Rattle.value_model.specs.declared.value.Value.TheVariants as value
use Rattle.value_arena.specs.Arenas.{ArenaView, objects_of, with_objects, narrow, table_at}
use Rattle.value_arena.specs.Objects.{ObjectsView, no_objects, new_coroutine}
use Rattle.luau_tables.specs.Worlds.{IsWorld, store_in}
use Rattle.luau_tables.specs.declared.globals.Globals.{Globals}
use Rattle.luau_tables.specs.declared.globals.LibWorld.{LibWorld}
use Rattle.call_frames.specs.Stacks.{no_stack}
use Rattle.machine_world.specs.Functions.{body_of}
use Rattle.machine_world.specs.Parts.{environment_id}
use Rattle.machine_world.specs.Sound.{IsMachine}

-- ---- in the definition

-- the environment is indexed through the global table
abbrev pub metatable_to : TableRef → TableOf
metatable_to t = record { entries = (Text (codes "__index"), Table t) ∷ []; meta = None; frozen = true }

-- a store without objects of a script, and with those that it starts with
abbrev pub started : Store → Store
started s = record s {
  tables = empty_environment ∷ metatable_to s.globals.table ∷ [];
  closures = script_environment ∷ [];
  coroutines = main_run ∷ [];
}

-- ---- in the arena

-- A script without objects. Nobody has a cell, no table is marked, and no coroutine runs
pub record IsBare (w : LibWorld) : Type 0 where
  pub world : IsWorld w
  pub none : objects_of w.arena w.owner ≡ no_objects
  pub cells : (objects_of w.arena Frozen).cells ≡ []
  pub running : w.arena.running ≡ None
  pub unmarked : (t : TableId) → (table_at w.arena t).is_marked ≡ false

abbrev pub metatable_id : Owner → TableId
metatable_id w = record { owner = narrow w; place = 1 }

abbrev pub main_id : Owner → ClosureId
main_id w = record { owner = narrow w; place = 0 }

-- its two tables, of which none is marked yet
abbrev pub first_tables : Owner → Globals → ObjectsView
first_tables w g =
    record no_objects {
      tables = record { entries = []; meta = Some (metatable_id w); is_frozen = false; is_marked = false }
          ∷ record { entries = (value.Str g.meta.index, value.Table g.table) ∷ []; meta = None; is_frozen = true; is_marked = false } ∷ [];
    }

-- the objects of a script that starts
abbrev pub first_objects : Owner → Globals → (main : ℕ) → ObjectsView
first_objects w g main =
    record {
      tables = record { entries = []; meta = Some (metatable_id w); is_frozen = false; is_marked = true }
          ∷ record { entries = (value.Str g.meta.index, value.Table g.table) ∷ []; meta = None; is_frozen = true; is_marked = false } ∷ [];
      closures = record { proto = main; env = environment_id w; cells = [] } ∷ [];
      cells = [];
      threads = new_coroutine (value.Closure (main_id w)) ∷ [];
    }

abbrev pub begun : LibWorld → (main : ℕ) → ArenaView
begun w main = with_objects w.arena w.owner (first_objects w.owner w.globals main)

-- a script has just what it starts with, and may run from there
pub record HasStarted (before after : LibWorld) (main : ℕ) : Type 0 where
  pub same : after ≡ record before { arena = after.arena }
  pub store : store_in after ≡ started (store_in before)
  pub bodies : map body_of (objects_of after.arena after.owner).closures ≡ record { proto = main; cells = [] } ∷ []
  pub cells : (objects_of after.arena after.owner).cells ≡ []
  pub threads : length (objects_of after.arena after.owner).threads ≡ 1
  pub marked : (table_at after.arena (environment_id after.owner)).is_marked ≡ true
  pub sound : IsMachine after no_stack
