-- A world whose arena was changed.
use Rattle.std.proofs.Common.{refl}
use Rattle.value_arena.specs.Arenas.{ArenaView}
use Rattle.luau_tables.specs.Own.{IsOwn}
use Rattle.luau_tables.specs.Worlds.{IsWorld, Keeps, ChangesTables}
use Rattle.luau_tables.specs.declared.globals.LibWorld.{LibWorld}
use Rattle.luau_tables.proofs.MoreTexts.{extends_self}

abbrev pub with_arena : LibWorld → ArenaView → LibWorld
with_arena w a = record w { arena = a }

pub arena_kept : (w : LibWorld) (a : ArenaView) → IsWorld w → IsOwn w.names w.globals a w.owner → ChangesTables w.owner w.arena a → Keeps w (with_arena w a)
arena_kept w a world own changes =
    record {
      world = record { owner = world.owner; own = own };
      owner = refl;
      globals = refl;
      names = extends_self w.names;
      arena = changes;
    }
