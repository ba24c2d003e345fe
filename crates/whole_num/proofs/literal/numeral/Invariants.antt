use Rattle.std.proofs.Common.{◌≡◌, take}
use Rattle.std.specs.Str.Parse.{AllDigits, digits_value}
use Rattle.whole_num.specs.Digits.{cut}
use Rattle.whole_num.specs.Literals.{without_marks}
use Rattle.whole_num.proofs.literal.numeral.Given as goal

-- the digits so far
abbrev pub invariant-loop-b : goal.invariant-loop-b
invariant-loop-b l = record {
  are_digits : AllDigits l.radix (without_marks (take l.b-index l.text));
  value : l.value ≡ cut (digits_value l.radix (without_marks (take l.b-index l.text)));
}
