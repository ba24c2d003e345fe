use Rattle.call_frames.proofs.Keeping.{closing_keeps}
use Rattle.call_frames.proofs.laws.closing_keeps_upvalues.Goals as goal

pub returns : goal.returns
returns c = closing_keeps
