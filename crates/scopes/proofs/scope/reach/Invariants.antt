use Rattle.std.proofs.Common.{◌≡◌, ◌-◌, ◌+◌, ℕ, slice_index, length}
use Rattle.scopes.proofs.scope.reach.Given as goal

abbrev pub invariant-loop-heads : goal.invariant-loop-heads
invariant-loop-heads l = (n : ℕ) → slice_index l.heads n ≡ slice_index l.fn.heads n

abbrev pub decreases-loop-heads : goal.decreases-loop-heads
decreases-loop-heads l = l.name + 1 - length l.heads
