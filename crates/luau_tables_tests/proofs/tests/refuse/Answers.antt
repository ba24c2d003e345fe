use Rattle.value_arena.proofs.Growing.{table_stays}
use Rattle.luau_tables_tests.proofs.tests.refuse.Goals as goal

pub returns : goal.returns
returns g c = table_stays c.args.arena.now c.set-done.new.arena c.args.t c.set-done.ensures.grows c.requires
