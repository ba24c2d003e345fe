use Rattle.compiled_scripts.proofs.Accepted.{parsed_accepted}
use Rattle.compiled_scripts.proofs.laws.parsed_accepted.Goals as goal

pub returns : goal.returns
returns c = parsed_accepted
