use Rattle.code_simulation.proofs.Stores.{choose_keeps}
use Rattle.code_simulation.proofs.laws.operations_keep_coroutines.Goals as goal

pub returns : goal.returns
returns c o s = let k = choose_keeps o s in (k.running, k.coroutines)
