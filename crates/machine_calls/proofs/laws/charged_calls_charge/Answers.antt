use Rattle.machine_calls.proofs.Charged.{charged_calls}
use Rattle.machine_calls.proofs.laws.charged_calls_charge.Goals as goal

pub returns : goal.returns
returns c = charged_calls
