use Rattle.value_arena.proofs.Growing.{table_stays}
use Rattle.luau_tables_tests.proofs.tests.store_one.Goals as goal

pub border-requires : goal.border-requires
border-requires g c = table_stays c.args.arena.now c.set-done.new.arena c.args.t c.set-done.ensures.grows c.requires.there

pub border-requires-2 : goal.border-requires-2
border-requires-2 g c = table_stays c.args.arena.now c.set-done.new.arena c.args.other c.set-done.ensures.grows c.requires.other
