use Rattle.parse_steps.proofs.Deepness.{nest_most, nest_counted}
use Rattle.parse_steps.proofs.laws.runs_are_shallow.Goals as goal

pub returns : goal.returns
returns c = λ ts n b i v run. (nest_most run, nest_counted run)
