use Rattle.machine_calls.proofs.Charged.{free_moves}
use Rattle.machine_calls.proofs.laws.free_moves_charge_none.Goals as goal

pub returns : goal.returns
returns c = free_moves
