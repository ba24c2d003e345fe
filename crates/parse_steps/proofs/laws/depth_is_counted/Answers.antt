use Rattle.parse_steps.proofs.Deepness.{deep_counted}
use Rattle.parse_steps.proofs.laws.depth_is_counted.Goals as goal

pub returns : goal.returns
returns c = λ ts n b i v p k run deep. deep_counted run deep
