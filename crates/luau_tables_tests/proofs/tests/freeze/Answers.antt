use Rattle.std.proofs.Common.{sym, subst}
use Rattle.value_arena.specs.Arenas.{HasTable}
use Rattle.value_arena.proofs.Growing.{table_stays, with_table_grows}
use Rattle.luau_tables_tests.proofs.tests.freeze.Goals as goal

pub returns : goal.returns
returns g c = subst (λ a. HasTable a c.args.t) (sym c.freeze.ensures) (table_stays c.args.arena.now _ c.args.t (with_table_grows c.args.arena.now c.args.t _) c.requires)
