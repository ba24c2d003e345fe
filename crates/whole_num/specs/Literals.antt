-- Number literals: how they are spelled, and which number each of them is, exactly.
use Rattle.std.specs.Prelude.{◌≡◌, pos, ℕ, ◌+◌, ◌*◌, ◌^◌, ◌<◌, ◌≤◌, not, nat_eq, ◌||◌, List, [], ◌∷◌, ◌++◌, length, filter, IsTrue}
use Rattle.std.specs.Str.Parse.{AllDigits, IsNumeral, digits_value}
use Rattle.whole_num.specs.declared.literal.Read.{Read}
use Rattle.whole_num.specs.declared.literal.Read.TheVariants as read

-- `_` may stand anywhere in a literal and means nothing
abbrev pub without_marks : List ℕ → List ℕ
without_marks bytes = filter (λ b. not (nat_eq b 95)) bytes

-- An exact value that is not below 0: a whole number times one power of ten, divided by another.
pub record Scaled : Type 0 where
  pub mantissa : ℕ
  pub up : ℕ
  pub down : ℕ

-- the value is the whole number n
abbrev pub IsTheWhole : Scaled → ℕ → Type 0
IsTheWhole v n = n * 10 ^ v.down ≡ v.mantissa * 10 ^ v.up

-- a fraction, with its digits: nothing, or a point and any number of digits
pub data IsFraction : (text digits : List ℕ) → Type 0 where
  no_fraction : IsFraction [] []
  fraction : {digits : List ℕ} → AllDigits 10 digits → IsFraction (46 ∷ digits) digits

-- `e` or `E`
abbrev pub IsExponentMark : ℕ → Type 0
IsExponentMark b = IsTrue (nat_eq b 101 || nat_eq b 69)

-- A power of ten that is multiplied by, or one that is divided by: an optional `+` or `-`, and one or more digits.
pub data IsPower : (text : List ℕ) (up down : ℕ) → Type 0 where
  unsigned : {digits : List ℕ} → IsNumeral 10 digits → IsPower digits (digits_value 10 digits) 0
  positive : {digits : List ℕ} → IsNumeral 10 digits → IsPower (43 ∷ digits) (digits_value 10 digits) 0
  negative : {digits : List ℕ} → IsNumeral 10 digits → IsPower (45 ∷ digits) 0 (digits_value 10 digits)

-- an exponent: nothing, or `e` or `E` and a power of ten
pub data IsExponent : (text : List ℕ) (up down : ℕ) → Type 0 where
  no_exponent : IsExponent [] 0 0
  exponent : {e : ℕ} {power : List ℕ} {up down : ℕ} → IsExponentMark e → IsPower power up down → IsExponent (e ∷ power) up down

-- Decimal digits, an optional fraction and an optional exponent. At least one digit stands in the digits or the
-- fraction. Each digit behind the point divides by ten once more.
pub record IsDecimal (text : List ℕ) (value : Scaled) : Type 0 where
  pub digits : List ℕ
  pub fraction_text : List ℕ
  pub fraction_digits : List ℕ
  pub exponent_text : List ℕ
  pub down : ℕ
  pub spelling : text ≡ digits ++ (fraction_text ++ exponent_text)
  pub are_digits : AllDigits 10 digits
  pub is_fraction : IsFraction fraction_text fraction_digits
  pub is_exponent : IsExponent exponent_text value.up down
  pub some : 0 < length (digits ++ fraction_digits)
  pub mantissa_is : value.mantissa ≡ digits_value 10 (digits ++ fraction_digits)
  pub down_is : value.down ≡ length fraction_digits + down

-- `0`, the letter of a base, small or capital, and one or more digits of that base
pub record IsBased (radix small capital : ℕ) (text : List ℕ) (value : Scaled) : Type 0 where
  pub letter : ℕ
  pub digits : List ℕ
  pub spelling : text ≡ 48 ∷ letter ∷ digits
  pub is_letter : IsTrue (nat_eq letter small || nat_eq letter capital)
  pub is_numeral : IsNumeral radix digits
  pub value_is : value ≡ record { mantissa = digits_value radix digits; up = 0; down = 0 }

-- a text without `_` that is a literal, with its value: decimal, hexadecimal with `x`, or binary with `b`
pub data IsLiteral (text : List ℕ) (value : Scaled) : Type 0 where
  decimal : IsDecimal text value → IsLiteral text value
  hexadecimal : IsBased 16 120 88 text value → IsLiteral text value
  binary : IsBased 2 98 66 text value → IsLiteral text value

-- What an exact value is: not whole; or out of range, where it is a whole number above 2^53; or that whole number.
abbrev pub Answers : Scaled → Read → Type 0
Answers value read.NotNumber = ⊥
Answers value read.NotWhole = (n : ℕ) → IsTheWhole value n → ⊥
Answers value read.OutOfRange = (n : ℕ) × IsTheWhole value n × (2 ^ 53 < n)
Answers value (read.Whole z) = (n : ℕ) × IsTheWhole value n × (n ≤ 2 ^ 53) × (z ≡ pos n)

-- What a text is, read as a literal: no number where it is none, and else what its value is.
abbrev pub ReadsLiteral : (bytes : List ℕ) → Read → Type 0
ReadsLiteral bytes read.NotNumber = (value : Scaled) → IsLiteral (without_marks bytes) value → ⊥
ReadsLiteral bytes answer = (value : Scaled) × IsLiteral (without_marks bytes) value × Answers value answer
