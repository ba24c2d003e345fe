use Rattle.machine_calls.proofs.Enterable.{safe_may_enter}
use Rattle.machine_calls.proofs.laws.safe_may_enter.Goals as goal

pub returns : goal.returns
returns c = safe_may_enter
