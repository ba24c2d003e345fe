use Rattle.scope_laws.proofs.Told.{locals_are_told}
use Rattle.scope_laws.proofs.laws.locals_are_told.Goals as goal

pub returns : goal.returns
returns c = locals_are_told
