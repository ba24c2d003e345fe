-- Tables of the arena that are lent.
use Rattle.std.specs.Borrow.{Lends, MutBor, Fml}
use Rattle.value_model.specs.declared.ids.TableId.{TableId}
use Rattle.value_arena.specs.Tables.{TableView}
use Rattle.value_arena.specs.Arenas.{ArenaView, with_table}
use Rattle.value_arena.specs.contracts.table.Table as table
use Rattle.value_arena.specs.contracts.arena.Arena as arena

-- the arena ends with the table as it is left
abbrev pub LendsTableOf : MutBor ArenaView → TableId → MutBor TableView → Fml
LendsTableOf a id t = Lends arena.the_row table.the_row a t (with_table a.now id)
