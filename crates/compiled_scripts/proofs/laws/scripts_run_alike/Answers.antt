use Rattle.compiled_scripts.proofs.Accepted.{scripts_run_alike}
use Rattle.compiled_scripts.proofs.laws.scripts_run_alike.Goals as goal

pub returns : goal.returns
returns c = scripts_run_alike
