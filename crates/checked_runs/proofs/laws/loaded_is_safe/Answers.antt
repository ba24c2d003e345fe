use Rattle.checked_runs.proofs.Loaded.{loaded_is_safe}
use Rattle.checked_runs.proofs.laws.loaded_is_safe.Goals as goal

pub returns : goal.returns
returns c = loaded_is_safe
