use Rattle.checked_runs.proofs.Operations.{operations_keep}
use Rattle.checked_runs.proofs.laws.operations_keep.Goals as goal

pub returns : goal.returns
returns c = operations_keep
