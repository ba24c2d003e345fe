use Rattle.std.proofs.Common.{◌≤◌, ◌+◌, ◌-◌, ◌^◌, length}
use Rattle.type_skip.specs.Inner.{IsClosedBalanced, IsClosedStrings}
use Rattle.type_skip.specs.Words.{token_of}
use Rattle.type_skip.proofs.Leading.{Exactly}
use Rattle.type_skip.proofs.balanced.+balanced_end.Given as goal

abbrev pub decreases-balanced_end : goal.decreases-balanced_end
decreases-balanced_end l = l.room

abbrev pub invariant-loop-now : goal.invariant-loop-now
invariant-loop-now l = record {
  lead : Exactly (IsClosedBalanced (token_of l.close)) (IsClosedStrings l.strings (token_of l.close)) l.tokens l.room l.fn.at l.at;
  few : l.strings + l.fn.at ≤ l.at;
  short : l.strings ≤ length l.tokens;
}

abbrev pub decreases-loop-now : goal.decreases-loop-now
decreases-loop-now l = 2 ^ 64 - l.at
