use Rattle.machine_code.proofs.Reading.{line_fetched}
use Rattle.machine_code.proofs.laws.lines_are_fetched.Goals as goal

pub returns : goal.returns
returns c = line_fetched
