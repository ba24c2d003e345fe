use Rattle.std.proofs.Common.{sym, subst}
use Rattle.value_arena.specs.Arenas.{ArenaView}
use Rattle.luau_tables.specs.Worlds.{Keeps}
use Rattle.luau_tables.proofs.WorldsKept.{freeze_keeps}
use Rattle.lib_arguments.proofs.RowsRun.{found, ends, used_at}
use Rattle.lib_math_table.proofs.Changes.{with_arena, freeze_runs}
use Rattle.lib_math_table.proofs.tables.freeze.Goals as goal

pub returns-in-Err-clause-runs : goal.returns-in-Err-clause-runs
returns-in-Err-clause-runs c = ends _ _ c.in-Err.e _ (c.in-Err.ensures.checks c.args.world.now.names _)

pub freeze-requires : goal.freeze-requires
freeze-requires c = (used_at c.args.world.now _ 0 _ c.requires.args c.in-Ok.ensures.there).0.1

pub returns-clause-runs : goal.returns-clause-runs
returns-clause-runs c =
    let w = c.args.world.now in
    let r = c.give.result in
    let may = used_at w _ 0 _ c.requires.args c.in-Ok.ensures.there in
    found _ w (with_arena w c.freeze.new.self) _ _ r (c.in-Ok.ensures.checks w.names)
    (freeze_runs w c.requires.world c.in-Ok.t may c.freeze.new.self _ _ r c.freeze.ensures c.give.ensures)

pub returns-clause-keeps : goal.returns-clause-keeps
returns-clause-keeps c =
    let w = c.args.world.now in
    let may = used_at w _ 0 _ c.requires.args c.in-Ok.ensures.there in
    subst (λ (a : ArenaView). Keeps w (with_arena w a)) (sym c.freeze.ensures) (freeze_keeps w c.requires.world c.in-Ok.t may)
