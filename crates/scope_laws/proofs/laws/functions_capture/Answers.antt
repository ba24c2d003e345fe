use Rattle.scope_laws.proofs.Capturing.{functions_capture}
use Rattle.scope_laws.proofs.laws.functions_capture.Goals as goal

pub returns : goal.returns
returns c = functions_capture
