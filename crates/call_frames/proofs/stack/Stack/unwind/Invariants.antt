use Rattle.std.proofs.Common.{◌≡◌, ◌≤◌, ◌-◌, length}
use Rattle.value_arena.specs.Growing.{Grows}
use Rattle.call_frames.specs.Cells as opens
use Rattle.call_frames.proofs.stack.Stack.unwind.Given as goal

abbrev pub invariant-loop-self : goal.invariant-loop-self
invariant-loop-self l =
    (l.fn.depth ≤ length l.self.frames)
    × (opens.unwound (length l.fn.self.frames - l.fn.depth) (l.fn.self, l.fn.arena) ≡ opens.unwound (length l.self.frames - l.fn.depth) (l.self, l.arena))
    × opens.AreIn l.arena l.self.cells × Grows l.fn.arena l.arena

abbrev pub decreases-loop-self : goal.decreases-loop-self
decreases-loop-self l = length l.self.frames
