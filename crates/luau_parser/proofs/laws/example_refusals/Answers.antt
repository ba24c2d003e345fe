use Rattle.luau_parser.proofs.ExampleRefusals.{refusals}
use Rattle.luau_parser.proofs.laws.example_refusals.Goals as goal

pub returns : goal.returns
returns c = refusals
