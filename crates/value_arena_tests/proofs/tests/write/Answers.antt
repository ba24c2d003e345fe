use Rattle.std.proofs.Common.{sym, subst}
use Rattle.value_arena.specs.Arenas.{HasCell}
use Rattle.value_arena.proofs.Growing.{cell_stays, with_cell_grows}
use Rattle.value_arena_tests.proofs.tests.write.Goals as goal

pub cell-requires-2 : goal.cell-requires-2
cell-requires-2 g c =
    subst (λ a. HasCell a c.args.id) (sym c.set_cell.ensures)
    (cell_stays c.args.arena.now _ c.args.id (with_cell_grows c.args.arena.now c.args.id _) c.requires)
