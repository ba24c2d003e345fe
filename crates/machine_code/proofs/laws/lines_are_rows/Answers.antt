use Rattle.machine_code.proofs.Reading.{line_row}
use Rattle.machine_code.proofs.laws.lines_are_rows.Goals as goal

pub returns : goal.returns
returns c = line_row
