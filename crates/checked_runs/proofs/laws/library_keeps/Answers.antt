use Rattle.checked_runs.proofs.Library.{library_keeps}
use Rattle.checked_runs.proofs.laws.library_keeps.Goals as goal

pub returns : goal.returns
returns c = library_keeps
