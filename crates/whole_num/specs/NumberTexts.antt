-- Texts that are read as numbers.
use Rattle.std.specs.Prelude.{List, ℕ, ◌+◌, ◌*◌, ◌/◌, ◌%◌, ◌^◌, ℤ, pos, neg_ℤ, Bool, true, false, not, ◌&&◌, ◌||◌, nat_eq, nat_le, nat_lt, [], ◌∷◌, ◌++◌, length, Option, Some, None, option_map, Result, Ok, Err, if◌then◌else◌}
use Rattle.std.specs.List.{list_all}
use Rattle.std.specs.Char.{digit_value}
use Rattle.std.specs.Str.Parse.{digits_value}
use Rattle.whole_num.specs.declared.arithmetic.Stop.{Stop}
use Rattle.whole_num.specs.declared.arithmetic.Stop.TheVariants.{NotWhole, OutOfRange}
use Rattle.whole_num.specs.declared.literal.Read.{Read}
use Rattle.whole_num.specs.declared.literal.Read.TheVariants as read
use Rattle.whole_num.specs.Whole.{within}

-- the number that a text is, or the stop where its value is not whole or out of range; none where the text is no number
abbrev pub ReadNumber : Type 0
ReadNumber = Option (Result ℤ Stop)

-- the answer of a reader, so
abbrev pub number_of : Read → ReadNumber
number_of (read.Whole z) = Some (Ok z)
number_of read.NotWhole = Some (Err NotWhole)
number_of read.OutOfRange = Some (Err OutOfRange)
number_of read.NotNumber = None

-- space, tab, LF, VT, FF, CR
abbrev pub is_blank : ℕ → Bool
is_blank b = nat_eq b 32 || nat_le 9 b && nat_le b 13

abbrev pub is_visible : ℕ → Bool
is_visible b = not (is_blank b)

-- the first bytes that pass a test, and what stands behind them
abbrev pub front : (ℕ → Bool) → List ℕ → List ℕ
front p [] = []
front p (b ∷ bs) = if p b then b ∷ front p bs else []

abbrev pub behind : (ℕ → Bool) → List ℕ → List ℕ
behind p [] = []
behind p (b ∷ bs) = if p b then behind p bs else b ∷ bs

abbrev pub without_blanks_before : List ℕ → List ℕ
without_blanks_before bs = behind is_blank bs

abbrev pub is_digit_in : ℕ → ℕ → Bool
is_digit_in radix b = nat_lt (digit_value b) radix

-- one digit or more, and nothing else
abbrev pub is_numeral : ℕ → List ℕ → Bool
is_numeral radix [] = false
is_numeral radix bs = list_all (is_digit_in radix) bs

-- A whole number times one power of ten, divided by another: the number, or the stop where it is not whole or out of range.
abbrev pub exact : (mantissa up down : ℕ) → Result ℤ Stop
exact m up down = if nat_eq (m * 10 ^ up % 10 ^ down) 0 then within (pos (m * 10 ^ up / 10 ^ down)) else Err NotWhole

-- ---- decimal texts: digits, an optional fraction, an optional exponent

-- the power of ten that digits write, with whether it is divided by
abbrev pub power_of_ten : (divides : Bool) → List ℕ → Option (ℕ × ℕ)
power_of_ten false ds = if is_numeral 10 ds then Some (digits_value 10 ds, 0) else None
power_of_ten true ds = if is_numeral 10 ds then Some (0, digits_value 10 ds) else None

-- an optional sign and digits
abbrev pub signed_power : List ℕ → Option (ℕ × ℕ)
signed_power [] = None
signed_power (b ∷ ds) = if nat_eq b 45 then power_of_ten true ds else if nat_eq b 43 then power_of_ten false ds else power_of_ten false (b ∷ ds)

-- nothing, or `e` or `E` and a power of ten
abbrev pub exponent : List ℕ → Option (ℕ × ℕ)
exponent [] = Some (0, 0)
exponent (b ∷ bs) = if nat_eq b 101 || nat_eq b 69 then signed_power bs else None

-- at least one digit stands in the digits or the fraction
abbrev pub with_exponent : (digits fraction : List ℕ) → Option (ℕ × ℕ) → ReadNumber
with_exponent ds fs None = None
with_exponent ds fs (Some e) =
    if nat_eq (length (ds ++ fs)) 0 then None else Some (exact (digits_value 10 (ds ++ fs)) e.0 (length fs + e.1))

abbrev pub with_fraction : (digits rest : List ℕ) → ReadNumber
with_fraction ds rest = with_exponent ds (front (is_digit_in 10) rest) (exponent (behind (is_digit_in 10) rest))

-- what follows the digits: a point and a fraction, or none
abbrev pub with_digits : (digits rest : List ℕ) → ReadNumber
with_digits ds [] = with_exponent ds [] (exponent [])
with_digits ds (b ∷ bs) = if nat_eq b 46 then with_fraction ds bs else with_exponent ds [] (exponent (b ∷ bs))

abbrev pub decimal_number : List ℕ → ReadNumber
decimal_number bs = with_digits (front (is_digit_in 10) bs) (behind (is_digit_in 10) bs)

-- ---- numerals

-- digits of a base, and nothing else
abbrev pub numeral_number : ℕ → List ℕ → ReadNumber
numeral_number radix ds = if is_numeral radix ds then Some (within (pos (digits_value radix ds))) else None

-- `0x` and hexadecimal digits, or a decimal text
abbrev pub unsigned_number : List ℕ → ReadNumber
unsigned_number (a ∷ b ∷ bs) = if nat_eq a 48 && nat_eq b 120 then numeral_number 16 bs else decimal_number (a ∷ b ∷ bs)
unsigned_number bs = decimal_number bs

abbrev pub negated : Result ℤ Stop → Result ℤ Stop
negated (Ok z) = Ok (neg_ℤ z)
negated (Err s) = Err s

-- an optional sign
abbrev pub signed_number : List ℕ → ReadNumber
signed_number [] = None
signed_number (b ∷ bs) =
    if nat_eq b 45 then option_map negated (unsigned_number bs)
    else if nat_eq b 43 then unsigned_number bs
    else unsigned_number (b ∷ bs)

-- a word, before nothing but blanks
abbrev pub word_number : (word rest : List ℕ) → ReadNumber
word_number word rest = if list_all is_blank rest then signed_number word else None

abbrev pub first_word : List ℕ → ReadNumber
first_word bs = word_number (front is_visible bs) (behind is_visible bs)

-- The number that a text is. Blanks may stand around it.
unfoldable pub read_number : List ℕ → ReadNumber
read_number bs = first_word (without_blanks_before bs)

-- ---- with a base: optional blanks, an optional `-`, and digits of the base

abbrev pub numeral_with_sign : ℕ → List ℕ → ReadNumber
numeral_with_sign radix [] = None
numeral_with_sign radix (b ∷ ds) =
    if nat_eq b 45 then option_map negated (numeral_number radix ds) else numeral_number radix (b ∷ ds)

unfoldable pub read_with_base : ℕ → List ℕ → ReadNumber
read_with_base radix bs = numeral_with_sign radix (without_blanks_before bs)
