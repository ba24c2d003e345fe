use Rattle.scope_laws.proofs.Seen.{names_in_scope}
use Rattle.scope_laws.proofs.laws.names_in_scope.Goals as goal

pub returns : goal.returns
returns c = names_in_scope
