use Rattle.built_scripts.proofs.Trees.{built_scripts}
use Rattle.built_scripts.proofs.laws.built_scripts.Goals as goal

pub returns : goal.returns
returns c = built_scripts
