use Rattle.std.proofs.Common.{◌≡◌, [], take}
use Rattle.whole_num.specs.Literals.{without_marks}
use Rattle.whole_num.proofs.literal.first.Given as goal

-- only `_` so far
abbrev pub invariant-loop-i : goal.invariant-loop-i
invariant-loop-i l = without_marks (take l.i l.text) ≡ []
