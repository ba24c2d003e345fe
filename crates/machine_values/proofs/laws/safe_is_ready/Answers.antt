use Rattle.machine_values.proofs.Ready.{safe_ready}
use Rattle.machine_values.proofs.laws.safe_is_ready.Goals as goal

pub returns : goal.returns
returns c = safe_ready
