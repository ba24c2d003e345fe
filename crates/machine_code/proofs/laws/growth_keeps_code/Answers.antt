use Rattle.machine_code.proofs.Growing.{code_stays}
use Rattle.machine_code.proofs.laws.growth_keeps_code.Goals as goal

pub returns : goal.returns
returns c = λ chunk texts more code is. code_stays texts more chunk code is
