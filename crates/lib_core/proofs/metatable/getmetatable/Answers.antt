use Rattle.std.proofs.Common.{[], ◌∷◌, sym, ap, ◌∙◌}
use Rattle.value_model.specs.CoreRows as core
use Rattle.luau_tables.specs.Worlds.{store_in}
use Rattle.lib_arguments.proofs.RowsRun.{found, ends, used_at, gives_runs}
use Rattle.lib_core.proofs.metatable.getmetatable.Goals as goal

pub returns-in-Err : goal.returns-in-Err
returns-in-Err c = ends _ _ c.in-Err.e _ (c.in-Err.ensures.checks c.args.world.now.names _)

pub metatable-requires-clause-v : goal.metatable-requires-clause-v
metatable-requires-clause-v c = used_at c.args.world.now _ 0 _ c.requires.args c.in-Ok.ensures.there

pub returns : goal.returns
returns c =
    let w = c.args.world.now in
    found _ w w _ _ c.give.result (c.in-Ok.ensures.checks w.names)
    (gives_runs w w _ _ (c.shown.result ∷ []) c.give.result _ c.give.ensures (c.shown.ensures.usable, tt)
    (ap (core.gives (store_in w)) (sym (c.shown.ensures.meant ∙ ap (core.metatable_value (store_in w)) c.metatable.ensures.meant))))
