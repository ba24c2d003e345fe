use Rattle.std.proofs.Common.{sym, subst, arith}
use Rattle.value_model.specs.StringRows as string
use Rattle.value_model.specs.Parts.{meant}
use Rattle.value_model.specs.declared.error.RunErr.TheVariants.{TooManyValues}
use Rattle.luau_tables.specs.Worlds.{MayUseIn, store_in}
use Rattle.lib_arguments.specs.declared.ending.Ending.TheVariants.{RunError}
use Rattle.lib_arguments.proofs.RowsRun.{found, found_fails, ends, used_or_nil}
use Rattle.lib_math_table.proofs.Lists.{same_runs}
use Rattle.lib_math_table.proofs.Made.{create_fits, create_fails}
use Rattle.lib_math_table.proofs.making.create.Goals as goal

pub returns-in-Err-clause-runs : goal.returns-in-Err-clause-runs
returns-in-Err-clause-runs c = ends _ _ c.in-Err.e _ (c.in-Err.ensures _)

pub returns-then-count-gt-MOST_ELEMENTS-clause-runs : goal.returns-then-count-gt-MOST_ELEMENTS-clause-runs
returns-then-count-gt-MOST_ELEMENTS-clause-runs c =
    let w = c.args.world.now in
    ends w _ (RunError TooManyValues) _
    (found_fails _ w.names (RunError TooManyValues) c.in-Ok.ensures (create_fails w.names (store_in w) (string.natural c.in-Ok.n) _ (omega (arith, c.if-count-gt-MOST_ELEMENTS.true, c.natural-count.ensures))))

pub filled-requires-clause-value : goal.filled-requires-clause-value
filled-requires-clause-value c = subst (MayUseIn c.args.world.now) (sym c.argument_or_nil.ensures.there) (used_or_nil c.args.world.now c.args.args.now 1 c.requires.args)

pub returns-clause-runs : goal.returns-clause-runs
returns-clause-runs c =
    let w = c.args.world.now in
    let r = c.filled.result in
    found _ w c.filled.new.world _ _ r c.in-Ok.ensures
    (same_runs w c.filled.new.world _ _ r _ _ (create_fits (store_in w) c.natural-count.result (string.natural c.in-Ok.n) (meant w.names c.argument_or_nil.result) _ c.if-count-gt-MOST_ELEMENTS.false c.natural-count.ensures (c.argument_or_nil.ensures.value w.names)) c.filled.ensures.runs)
