use Rattle.lib_arguments.proofs.RowsRun.{used_given}
use Rattle.lib_core.proofs.RaiseRows.{error_raises}
use Rattle.lib_core.proofs.raise.error.Goals as goal

pub returns-clause-answered : goal.returns-clause-answered
returns-clause-answered c =
    let w = c.args.world.now in
    error_raises w c.args.args.now _ c.argument_or_nil.result (used_given w _ 0 _ c.requires.args c.argument_or_nil.ensures.there) (c.argument_or_nil.ensures.value w.names)
