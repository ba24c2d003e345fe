use Rattle.std.proofs.Common.{◌≤◌, ◌<◌, length, get_or}
use Rattle.call_frames.specs.declared.frame.OpenCell.{OpenCell}
use Rattle.call_frames.proofs.stack.lower.Given as goal

abbrev pub invariant-loop-at : goal.invariant-loop-at
invariant-loop-at l = (l.at ≤ length l.fn.cells) × ((d : OpenCell) → l.at < length l.fn.cells → l.fn.register ≤ (get_or l.fn.cells l.at d).register)

abbrev pub decreases-loop-at : goal.decreases-loop-at
decreases-loop-at l = l.at
