use Rattle.built_machine.proofs.HasReport.{has_report}
use Rattle.built_machine.proofs.laws.has_report.Goals as goal

pub returns : goal.returns
returns c = has_report
