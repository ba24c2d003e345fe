use Rattle.code_simulation.proofs.Library.{answers_keep}
use Rattle.code_simulation.proofs.laws.library_keeps_coroutines.Goals as goal

pub returns : goal.returns
returns c f args s vs t e = let k = answers_keep s f args vs t e in (k.running, k.more, k.coroutines)
