use Rattle.checked_runs.proofs.Operands.{operands_are_there}
use Rattle.checked_runs.proofs.laws.operands_are_there.Goals as goal

pub returns : goal.returns
returns c = operands_are_there
