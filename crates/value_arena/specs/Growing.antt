-- Arenas only grow.
use Rattle.std.specs.Prelude.{◌≤◌, length}
use Rattle.value_model.specs.declared.ids.Owner.{Owner}
use Rattle.value_arena.specs.Arenas.{ArenaView, objects_of}

-- each owner has as many objects of each kind in the second arena, at least
pub record Grows (a b : ArenaView) : Type 0 where
  pub tables : (w : Owner) → length (objects_of a w).tables ≤ length (objects_of b w).tables
  pub closures : (w : Owner) → length (objects_of a w).closures ≤ length (objects_of b w).closures
  pub cells : (w : Owner) → length (objects_of a w).cells ≤ length (objects_of b w).cells
  pub threads : (w : Owner) → length (objects_of a w).threads ≤ length (objects_of b w).threads
