use Rattle.value_arena.proofs.Keeping.{table_made, closure_made, cell_made, thread_made}
use Rattle.value_arena.proofs.arena_laws.new_objects_keep.Goals as goal

pub returns : goal.returns
returns c = record { table = table_made; closure = closure_made; cell = cell_made; thread = thread_made }
