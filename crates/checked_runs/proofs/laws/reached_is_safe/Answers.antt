use Rattle.checked_runs.proofs.Never.{reached_is_safe}
use Rattle.checked_runs.proofs.laws.reached_is_safe.Goals as goal

pub returns : goal.returns
returns c = reached_is_safe
