use Rattle.std.proofs.Common.{◌≡◌, Ok}
use Rattle.std.specs.Int.{int_pow}
use Rattle.whole_num.specs.Whole.{within}
use Rattle.whole_num.proofs.powers.raised.Given as goal

-- the power so far, which is in range
abbrev pub invariant-loop : goal.invariant-loop
invariant-loop l = Ok l.power ≡ within (int_pow l.base l.counter)
