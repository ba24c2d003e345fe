-- A script begins.
use Rattle.std.proofs.Common.{◌≡◌, ℕ, ◌<◌, length, map, refl, sym, ◌∙◌, ap, subst, inl}
use Rattle.value_model.specs.declared.ids.ClosureId.{ClosureId}
use Rattle.value_model.specs.declared.ids.Owner.{Owner}
use Rattle.value_model.specs.declared.ids.Owner.TheVariants as owner
use Rattle.value_model.specs.declared.value.Value.TheVariants as value
use Rattle.value_arena.specs.Arenas.{slot}
use Rattle.value_arena.specs.Objects.{ObjectsView}
use Rattle.luau_tables.specs.Worlds.{MayUseIn}
use Rattle.luau_tables.specs.declared.globals.LibWorld.{LibWorld}
use Rattle.machine_world.specs.Functions.{body_of}
use Rattle.machine_load.specs.Beginning.{IsBare, HasStarted, begun, main_id}
use Rattle.machine_load.proofs.Started as started

-- ---- with the owner told

abbrev owned_by : LibWorld → Owner → LibWorld
owned_by w o = record w { owner = o }

abbrev begun_by : LibWorld → Owner → ℕ → LibWorld
begun_by w o main = record w { owner = o; arena = begun (owned_by w o) main }

starts_by : (w : LibWorld) (main : ℕ) (o : Owner) → IsBare (owned_by w o) → slot o < length w.arena.owners → HasStarted (owned_by w o) (begun_by w o main) main
starts_by w main owner.Frozen bare room = absurd (elim bare.world.own.script [ ])
starts_by w main (owner.Script n) bare room =
    record {
      same = refl;
      store = started.store_after w.names w.globals w.arena n main bare.world.own room bare.none;
      bodies = ap (λ (x : ObjectsView). map body_of x.closures) (started.own_now w.names w.globals w.arena n main bare.world.own room bare.none);
      cells = ap (λ (x : ObjectsView). x.cells) (started.own_now w.names w.globals w.arena n main bare.world.own room bare.none);
      threads = ap (λ (x : ObjectsView). length x.threads) (started.own_now w.names w.globals w.arena n main bare.world.own room bare.none);
      marked = started.mark_after w.names w.globals w.arena n main bare.world.own room bare.none;
      sound = record {
        world = record {
          owner = bare.world.owner;
          own = started.own_after w.names w.globals w.arena n main bare.world.own room bare.none;
        };
        cells = tt;
        own = tt;
        values = tt;
        functions = tt;
        kinds = tt;
        shared = ap (λ (x : ObjectsView). x.cells) (started.shared_now w.names w.globals w.arena n main bare.world.own room bare.none) ∙ bare.cells;
        main = bare.running;
        marks = started.marks_after w.names w.globals w.arena n main bare.world.own room bare.none bare.unmarked;
      };
    }

usable_by : (w : LibWorld) (main : ℕ) (o : Owner) → IsBare (owned_by w o) → slot o < length w.arena.owners
    → MayUseIn (begun_by w o main) (value.Closure (main_id o))
usable_by w main owner.Frozen bare room = absurd (elim bare.world.own.script [ ])
usable_by w main (owner.Script n) bare room = ((inl refl, started.main_there w.names w.globals w.arena n main bare.world.own room bare.none), tt)

-- ---- so of each world

pub has_started : (w : LibWorld) (main : ℕ) (after : LibWorld) → IsBare w → slot w.owner < length w.arena.owners
    → after ≡ record w { arena = begun w main } → HasStarted w after main
has_started w main after bare room e = subst (λ x. HasStarted w x main) (sym e) (starts_by w main w.owner bare room)

pub may_use_main : (w : LibWorld) (main : ℕ) (after : LibWorld) (f : ClosureId) → IsBare w → slot w.owner < length w.arena.owners
    → after ≡ record w { arena = begun w main } → f ≡ main_id w.owner → MayUseIn after (value.Closure f)
may_use_main w main after f bare room e is =
    subst (λ x. MayUseIn x (value.Closure f)) (sym e) (subst (λ u. MayUseIn (record w { arena = begun w main }) (value.Closure u)) (sym is)
    (usable_by w main w.owner bare room))
