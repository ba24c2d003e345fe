use Rattle.std.proofs.Common.{sym, ◌∙◌}
use Rattle.value_model.specs.declared.error.RunErr.TheVariants.{ProtectedMetatable}
use Rattle.lib_arguments.specs.declared.ending.Ending.TheVariants.{RunError}
use Rattle.lib_arguments.proofs.RowsRun.{found, found_fails, ends, used_at}
use Rattle.lib_math_table.proofs.Lists.{same_runs}
use Rattle.lib_math_table.proofs.Copied.{clone_fails, clone_goes_on}
use Rattle.lib_math_table.proofs.cloning.clone_table.Goals as goal

pub returns-in-Err-clause-runs : goal.returns-in-Err-clause-runs
returns-in-Err-clause-runs c = ends _ _ c.in-Err.e _ (c.in-Err.ensures.checks c.args.world.now.names _)

pub is_protected-requires-clause-table : goal.is_protected-requires-clause-table
is_protected-requires-clause-table c = used_at c.args.world.now _ 0 _ c.requires.args c.in-Ok.ensures.there

pub returns-then-is_protected-clause-runs : goal.returns-then-is_protected-clause-runs
returns-then-is_protected-clause-runs c =
    let w = c.args.world.now in
    let e = RunError ProtectedMetatable in
    ends w _ e _ (found_fails _ w.names e (c.in-Ok.ensures.checks w.names) (clone_fails w c.in-Ok.t (sym c.is_protected.ensures ∙ c.if-is_protected.true)))

pub give_copy-requires-clause-table : goal.give_copy-requires-clause-table
give_copy-requires-clause-table c = used_at c.args.world.now _ 0 _ c.requires.args c.in-Ok.ensures.there

pub returns-clause-runs : goal.returns-clause-runs
returns-clause-runs c =
    let w = c.args.world.now in
    let r = c.give_copy.result in
    found _ w c.give_copy.new.world _ _ r (c.in-Ok.ensures.checks w.names)
    (same_runs w c.give_copy.new.world _ _ r _ _ (clone_goes_on w c.in-Ok.t (sym c.is_protected.ensures ∙ c.if-is_protected.false)) c.give_copy.ensures.runs)
