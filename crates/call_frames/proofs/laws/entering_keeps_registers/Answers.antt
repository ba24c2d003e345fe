use Rattle.call_frames.proofs.Keeping.{entering_keeps}
use Rattle.call_frames.proofs.laws.entering_keeps_registers.Goals as goal

pub returns : goal.returns
returns c = entering_keeps
