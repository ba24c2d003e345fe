use Rattle.emit_laws.proofs.Grows as grows
use Rattle.emit_laws.proofs.code_grows.Goals as goal

pub returns : goal.returns
returns c = grows.code_grows
