use Rattle.compiled_scripts.proofs.Accepted.{never_stuck}
use Rattle.compiled_scripts.proofs.laws.never_stuck.Goals as goal

pub returns : goal.returns
returns c = never_stuck
