-- What the reader of literals keeps of digits.
use Rattle.std.specs.Prelude.{◌≡◌, ℕ, ◌-◌, ◌*◌, ◌%◌, ◌^◌, ◌<◌, ◌≤◌, ◌≢◌, min, nat_eq, ◌||◌, if◌then◌else◌, Option, Some, None, List, [], ◌∷◌, ◌++◌, length}
use Rattle.std.specs.Char.{digit_value}
use Rattle.std.specs.Str.Parse.{AllDigits, digits_value}
use Rattle.whole_num.specs.Literals.{IsFraction, Scaled, IsDecimal, Answers}
use Rattle.whole_num.specs.declared.literal.Read.{Read}
use Rattle.whole_num.specs.declared.literal.Read.TheVariants as read
use Rattle.whole_num.specs.declared.literal.Exponent.{Exponent}
use Rattle.whole_num.specs.declared.mantissa.Mantissa.{Mantissa}

-- a number, cut at the greatest of 64 bits
abbrev pub cut : ℕ → ℕ
cut n = min n (2 ^ 64 - 1)

-- no decimal digit stands first
abbrev pub BeginsWithNoDigit : List ℕ → Type 0
BeginsWithNoDigit [] = Unit {0}
BeginsWithNoDigit (b ∷ bs) = 10 ≤ digit_value b

-- what is kept of digits: their number without the zeros at its end, how many those are, and how many digits there are
pub record Keeps (kept : Mantissa) (digits : List ℕ) : Type 0 where
  pub core : ℕ
  pub core_is : kept.kept ≡ cut core
  pub value : digits_value 10 digits ≡ core * 10 ^ kept.zeros
  pub bare : 0 < core → 0 < core % 10
  pub count : kept.count ≡ length digits
  pub zeros : kept.zeros ≤ kept.count

-- the digits that stand first are taken, as many as there are
pub record Takes (text : List ℕ) (before : Mantissa) (rest : List ℕ) (after : Mantissa) : Type 0 where
  pub digits : List ℕ
  pub split : text ≡ digits ++ rest
  pub are_digits : AllDigits 10 digits
  pub ends : BeginsWithNoDigit rest
  pub keeps : (front : List ℕ) → Keeps before front → Keeps after (front ++ digits)

-- no point stands first
abbrev pub BeginsWithNoPoint : List ℕ → Type 0
BeginsWithNoPoint [] = Unit {0}
BeginsWithNoPoint (b ∷ bs) = b ≢ 46

-- the fraction that stands first, or nothing, is taken
pub record TakesFraction (text : List ℕ) (before : Mantissa) (rest : List ℕ) (after : Mantissa) : Type 0 where
  pub part : List ℕ
  pub digits : List ℕ
  pub split : text ≡ part ++ rest
  pub is_fraction : IsFraction part digits
  pub ends : BeginsWithNoDigit text → BeginsWithNoDigit rest
  pub no_point : part ≡ [] → BeginsWithNoPoint rest
  pub keeps : (front : List ℕ) → Keeps before front → Keeps after (front ++ digits)

-- an exponent's powers of ten are these, each cut
pub record HasPowers (Spells : (up down : ℕ) → Type 0) (e : Exponent) : Type 0 where
  pub up : ℕ
  pub down : ℕ
  pub spelled : Spells up down
  pub up_is : e.up ≡ cut up
  pub down_is : e.down ≡ cut down

-- the base that a letter names
abbrev pub radix_of : ℕ → Option ℕ
radix_of letter =
    if nat_eq letter 120 || nat_eq letter 88 then Some 16 else if nat_eq letter 98 || nat_eq letter 66 then Some 2 else None

-- a `0` and a letter name a base, before these digits
pub record NamesBase (text : List ℕ) (radix : ℕ) (digits : List ℕ) : Type 0 where
  pub letter : ℕ
  pub names : radix_of letter ≡ Some radix
  pub split : text ≡ 48 ∷ letter ∷ digits

-- what a text without `_` is, read as a decimal literal: no number where it is none, and else what its value is
abbrev pub AnswersDecimal : (text : List ℕ) → Read → Type 0
AnswersDecimal text read.NotNumber = (value : Scaled) → IsDecimal text value → ⊥
AnswersDecimal text answer = (value : Scaled) × IsDecimal text value × Answers value answer
