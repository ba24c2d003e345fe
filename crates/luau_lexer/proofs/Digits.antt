-- Digits at the front, and the value of a few of them.
use Rattle.std.proofs.Common.{◌≡◌, ℕ, zero, suc, ◌+◌, ◌*◌, ◌^◌, ◌<◌, ◌≤◌, Bool, true, false, cond, List, [], ◌∷◌, length, get_or, take, refl, arith}
use Rattle.std.specs.Char.{digit_value}
use Rattle.std.specs.List.{prefix_len}
use Rattle.std.specs.Str.Parse.{AllDigits, digits_value}
use Rattle.std.proofs.Math.Nat.{pow-le-pow_left, pow-le-pow_right, mul-le-mul_left}
use Rattle.std.proofs.lemmas.Bool.Decides.{nat_tests}
use Rattle.std.proofs.lemmas.Int.Digits.{digits_value-lt}
use Rattle.std.proofs.lemmas.Str.Parse.{digits_value-take-le}
use Rattle.syntax_tree.specs.Bytes.{is_digit, is_hex_digit}

pub decimal_value : (b : ℕ) → is_digit b ≡ true → digit_value b < 10
decimal_value b h = grind (arith, nat_tests)

pub hex_value : (b : ℕ) → is_hex_digit b ≡ true → digit_value b < 16
hex_value b h = grind (arith, nat_tests)

-- a front of bytes that pass a test is one of digits, where the test tells digits
front_digits : (p : ℕ → Bool) (radix : ℕ) → ((b : ℕ) → p b ≡ true → digit_value b < radix) → (bytes : List ℕ) (n : ℕ) → n ≤ prefix_len p bytes → AllDigits radix (take n bytes)
front_digits p radix tells [] zero h = tt
front_digits p radix tells [] (suc n) h = tt
front_digits p radix tells (b ∷ bs) zero h = tt
front_digits p radix tells (b ∷ bs) (suc n) h = by (p b) refl h (front_digits p radix tells bs n)
  where
    by : (t : Bool) → p b ≡ t → suc n ≤ cond t (1 + prefix_len p bs) 0 → (n ≤ prefix_len p bs → AllDigits radix (take n bs)) → AllDigits radix (b ∷ take n bs)
    by true is h more = (tells b is, more (omega arith))
    by false is h more = absurd (omega arith)

pub decimal_front : (bytes : List ℕ) (n : ℕ) → n ≤ prefix_len is_digit bytes → AllDigits 10 (take n bytes)
decimal_front bytes n h = front_digits is_digit 10 decimal_value bytes n h

pub hex_front : (bytes : List ℕ) (n : ℕ) → n ≤ prefix_len is_hex_digit bytes → AllDigits 16 (take n bytes)
hex_front bytes n h = front_digits is_hex_digit 16 hex_value bytes n h

-- at most eight digits of a base up to 16 are below 2^32
pub few_digits : (radix : ℕ) (ds : List ℕ) → AllDigits radix ds → length ds ≤ 8 → 2 ≤ radix → radix ≤ 16 → digits_value radix ds < 2 ^ 32
few_digits radix ds h few low high =
    let below = digits_value-lt radix ds h in
    let more : radix ^ length ds ≤ radix ^ 8 = pow-le-pow_right (omega arith) few in
    let most : radix ^ 8 ≤ 16 ^ 8 = pow-le-pow_left high 8 in
    omega arith

-- so is each front of them
pub few_digits_front : (radix i : ℕ) (ds : List ℕ) → AllDigits radix ds → length ds ≤ 8 → 2 ≤ radix → radix ≤ 16 → digits_value radix (take i ds) < 2 ^ 32
few_digits_front radix i ds h few low high =
    omega (arith, few_digits radix ds h few low high, digits_value-take-le radix ds i (omega arith))

-- times the base it fits
pub digits_times : (radix v : ℕ) → v < 2 ^ 32 → radix ≤ 16 → v * radix < 2 ^ 36
digits_times radix v h high = omega (arith, mul-le-mul_left {m = radix} {n = 16} v high)

pub digit_at : (radix : ℕ) (ds : List ℕ) (i : ℕ) → AllDigits radix ds → i < length ds → digit_value (get_or ds i 0) < radix
digit_at radix [] i h less = absurd (omega arith)
digit_at radix (d ∷ ds) zero h less = h.0
digit_at radix (d ∷ ds) (suc i) h less = digit_at radix ds i h.1 (omega arith)
