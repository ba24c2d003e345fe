use Rattle.value_arena.proofs.Growing.{table_stays}
use Rattle.meta_ops_tests.proofs.tests.chains.writes.Goals as goal

pub get-requires : goal.get-requires
get-requires g c = table_stays _ c.newindex-given.new.arena c.id-t.result c.newindex-given.ensures.grows c.id-t.ensures.there
