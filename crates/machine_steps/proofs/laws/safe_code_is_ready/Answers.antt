use Rattle.machine_steps.proofs.Readying.{safe_ready}
use Rattle.machine_steps.proofs.laws.safe_code_is_ready.Goals as goal

pub returns : goal.returns
returns c = safe_ready
