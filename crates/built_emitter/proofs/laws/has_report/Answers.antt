use Rattle.built_emitter.proofs.BuiltBlocks.{has_report}
use Rattle.built_emitter.proofs.laws.has_report.Goals as goal

pub returns : goal.returns
returns c = has_report
