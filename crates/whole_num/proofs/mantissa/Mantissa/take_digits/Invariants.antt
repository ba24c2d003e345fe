use Rattle.std.proofs.Common.{◌≤◌, ◌+◌, List, ℕ, ◌++◌, take}
use Rattle.std.specs.Str.Parse.{AllDigits}
use Rattle.whole_num.specs.Digits.{Keeps}
use Rattle.whole_num.specs.Literals.{without_marks}
use Rattle.whole_num.proofs.mantissa.Mantissa.take_digits.Given as goal

-- the digits so far
abbrev pub invariant-loop-i : goal.invariant-loop-i
invariant-loop-i l = record {
  are_digits : AllDigits 10 (without_marks (take l.i l.text));
  keeps : (front : List ℕ) → Keeps l.initial.self front → Keeps l.self (front ++ without_marks (take l.i l.text));
  room : l.self.count ≤ l.initial.self.count + l.i;
  zeros : l.self.zeros ≤ l.self.count;
}
