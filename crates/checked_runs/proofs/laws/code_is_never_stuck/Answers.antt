use Rattle.checked_runs.proofs.Never.{code_is_never_stuck}
use Rattle.checked_runs.proofs.laws.code_is_never_stuck.Goals as goal

pub returns : goal.returns
returns c = code_is_never_stuck
