use Rattle.value_arena.proofs.Keeping.{table_written, closure_written, cell_written, thread_written}
use Rattle.value_arena.proofs.arena_laws.writes_keep.Goals as goal

pub returns : goal.returns
returns c = record { table = table_written; closure = closure_written; cell = cell_written; thread = thread_written }
