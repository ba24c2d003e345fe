use Rattle.std.proofs.Common.{sym, ◌∙◌}
use Rattle.luau_tables.proofs.Sameness.{nil_is}
use Rattle.lib_arguments.proofs.RowsRun.{found, ends, used_at, used_given}
use Rattle.lib_core.proofs.NumberRows.{tonumber_gives, based_runs}
use Rattle.lib_core.proofs.kinds.tonumber.Goals as goal

pub returns-in-Err : goal.returns-in-Err
returns-in-Err c = ends _ _ c.in-Err.e _ (c.in-Err.ensures.checks c.args.world.now.names _)

pub as_number-requires : goal.as_number-requires
as_number-requires c = (used_at c.args.world.now _ 0 _ c.requires.args c.in-Ok.ensures.there).1

pub returns-in-Nil : goal.returns-in-Nil
returns-in-Nil c =
    let w = c.args.world.now in
    found _ w w _ _ c.give_number.result (c.in-Ok.ensures.checks w.names)
    (tonumber_gives w _ _ c.give_number.result c.in-Ok.v _ _ (sym (nil_is w.names) ∙ c.in-Nil.ensures.value w.names) c.as_number.ensures c.give_number.ensures)

pub returns-in_default : goal.returns-in_default
returns-in_default c =
    let w = c.args.world.now in
    found _ w w _ _ c.based.result (c.in-Ok.ensures.checks w.names)
    (based_runs w _ _ c.based.result _ c.argument_or_nil.result _ (c.argument_or_nil.ensures.value w.names) c.in_default.not-Nil c.based.ensures)

pub based-requires-clause-base : goal.based-requires-clause-base
based-requires-clause-base c = used_given c.args.world.now _ 1 _ c.requires.args c.argument_or_nil.ensures.there
