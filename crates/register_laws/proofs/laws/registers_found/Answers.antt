use Rattle.register_laws.proofs.Rising as rising
use Rattle.register_laws.proofs.laws.registers_found.Goals as goal

pub returns : goal.returns
returns c = rising.registers_found
