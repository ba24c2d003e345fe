use Rattle.std.proofs.Common.{sym, subst}
use Rattle.value_arena.specs.Arenas.{HasTable}
use Rattle.value_arena.proofs.Growing.{table_stays, with_table_grows}
use Rattle.value_arena_tests.proofs.tests.freeze.Goals as goal

pub table-requires-2 : goal.table-requires-2
table-requires-2 g c =
    subst (λ a. HasTable a c.args.id) (sym c.freeze.ensures)
    (table_stays c.args.arena.now _ c.args.id (with_table_grows c.args.arena.now c.args.id _) c.requires)
