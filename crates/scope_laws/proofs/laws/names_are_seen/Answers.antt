use Rattle.scope_laws.proofs.Covering.{names_are_seen}
use Rattle.scope_laws.proofs.laws.names_are_seen.Goals as goal

pub returns : goal.returns
returns c = names_are_seen
