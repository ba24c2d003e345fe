use Rattle.checked_runs.proofs.Steps.{steps_stay_safe}
use Rattle.checked_runs.proofs.laws.steps_stay_safe.Goals as goal

pub returns : goal.returns
returns c = steps_stay_safe
