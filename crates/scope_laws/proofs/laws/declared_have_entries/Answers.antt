use Rattle.scope_laws.proofs.Told.{declared_have_entries}
use Rattle.scope_laws.proofs.laws.declared_have_entries.Goals as goal

pub returns : goal.returns
returns c = declared_have_entries
