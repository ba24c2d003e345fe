use Rattle.value_arena.proofs.Growing.{table_stays}
use Rattle.luau_tables_tests.proofs.tests.take_meta.Goals as goal

pub returns : goal.returns
returns g c = table_stays c.args.arena.now c.set_meta-done.new.arena c.args.t c.set_meta-done.ensures.grows c.requires
