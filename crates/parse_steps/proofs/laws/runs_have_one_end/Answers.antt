use Rattle.parse_steps.proofs.Together.{one_end}
use Rattle.parse_steps.proofs.laws.runs_have_one_end.Goals as goal

pub returns : goal.returns
returns c = λ ts n b i v j w one other. one_end one other
