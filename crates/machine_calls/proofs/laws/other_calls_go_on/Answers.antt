use Rattle.machine_calls.proofs.Charged.{other_calls}
use Rattle.machine_calls.proofs.laws.other_calls_go_on.Goals as goal

pub returns : goal.returns
returns c = other_calls
