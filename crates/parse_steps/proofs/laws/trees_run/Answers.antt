use Rattle.parse_steps.proofs.Forward.{chunk_runs}
use Rattle.parse_steps.proofs.laws.trees_run.Goals as goal

pub returns : goal.returns
returns c = λ ts n b body chunk le. chunk_runs chunk le
