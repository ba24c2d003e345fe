use Rattle.compiled_scripts.proofs.Accepted.{built_run_alike}
use Rattle.compiled_scripts.proofs.laws.built_run_alike.Goals as goal

pub returns : goal.returns
returns c = built_run_alike
