use Rattle.value_arena.proofs.Growing.{with_table_grows}
use Rattle.luau_tables.proofs.writing.set_meta.Goals as goal

pub returns-clause-grows : goal.returns-clause-grows
returns-clause-grows c = with_table_grows c.args.arena.now c.args.t c.put_meta.new.self
