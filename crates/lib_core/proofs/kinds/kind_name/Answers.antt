use Rattle.lib_arguments.proofs.RowsRun.{ends}
use Rattle.lib_core.proofs.kinds.kind_name.Goals as goal

pub returns-in-Err-clause-runs : goal.returns-in-Err-clause-runs
returns-in-Err-clause-runs c = ends _ _ c.in-Err.e _ (c.in-Err.ensures.checks c.args.world.now.names _)
