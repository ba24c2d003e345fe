use Rattle.value_arena.proofs.Keeping.{empty_owned, running_keeps, ids_stay, entry_keeps}
use Rattle.value_arena.proofs.arena_laws.references_keep.Goals as goal

pub returns : goal.returns
returns c = record { empty = empty_owned; running = running_keeps; ids = ids_stay; entry = entry_keeps }
