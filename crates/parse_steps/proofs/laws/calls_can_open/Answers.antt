use Rattle.parse_steps.proofs.CanOpen.{can_open}
use Rattle.parse_steps.proofs.laws.calls_can_open.Goals as goal

pub returns : goal.returns
returns c = λ ts n b p asked paren. can_open asked.run asked.opens paren
