use Rattle.call_frames.proofs.Keeping.{outer_frames}
use Rattle.call_frames.proofs.laws.outer_frames_stay.Goals as goal

pub returns : goal.returns
returns c = outer_frames
