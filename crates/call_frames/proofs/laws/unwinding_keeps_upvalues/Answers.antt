use Rattle.call_frames.proofs.Keeping.{unwinding_keeps}
use Rattle.call_frames.proofs.laws.unwinding_keeps_upvalues.Goals as goal

pub returns : goal.returns
returns c = unwinding_keeps
