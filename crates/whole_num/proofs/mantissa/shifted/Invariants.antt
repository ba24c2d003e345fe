use Rattle.std.proofs.Common.{◌≡◌, ◌*◌, ◌^◌}
use Rattle.whole_num.specs.Digits.{cut}
use Rattle.whole_num.proofs.mantissa.shifted.Given as goal

-- the powers so far
abbrev pub invariant-loop : goal.invariant-loop
invariant-loop l = l.shifted ≡ cut (l.n * 10 ^ l.counter)
