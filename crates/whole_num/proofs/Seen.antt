-- The bytes that a text of a number has: digits, a point, signs, `e`, `E` and `x`. So it has no blank and no `_`.
use Rattle.std.proofs.Common.{◌≡◌, ℕ, ◌<◌, ◌≤◌, Bool, true, false, not, nat_eq, ◌||◌, ◌&&◌, List, [], ◌∷◌, ◌++◌, IsTrue, sym, ap, subst, refl, arith, if◌then◌else◌}
use Rattle.std.specs.List.{list_all}
use Rattle.std.specs.Char.{digit_value}
use Rattle.std.specs.Str.Parse.{AllDigits}
use Rattle.std.proofs.lemmas.Bool.Decides.{nat_tests}
use Rattle.whole_num.specs.Literals.{Scaled, IsFraction, no_fraction, fraction, IsPower, unsigned, positive, negative, IsExponent, no_exponent, exponent, IsDecimal, without_marks}
use Rattle.whole_num.specs.NumberTexts.{is_blank, is_visible}
use Rattle.whole_num.specs.NumberGrammar.{IsSign, no_sign, plus, minus, IsUnsigned, decimal, hexadecimal}

-- what passes each of those bytes
pub record Passes (p : ℕ → Bool) : Type 0 where
  pub digit : (b : ℕ) → digit_value b < 36 → p b ≡ true
  pub point : p 46 ≡ true
  pub plus : p 43 ≡ true
  pub minus : p 45 ≡ true

module _ (p : ℕ → Bool) (h : Passes p) where
  both : (a b : List ℕ) → list_all p a ≡ true → list_all p b ≡ true → list_all p (a ++ b) ≡ true
  both [] b f g = g
  both (x ∷ a) b f g = by (p x) f (both a b)
    where
      by : (t : Bool) → (t && list_all p a) ≡ true → (list_all p a ≡ true → list_all p b ≡ true → list_all p (a ++ b) ≡ true) → (t && list_all p (a ++ b)) ≡ true
      by true f more = more f g
      by false f more = cc

  digits : (r : ℕ) (ds : List ℕ) → r ≤ 36 → AllDigits r ds → list_all p ds ≡ true
  digits r [] l a = refl
  digits r (d ∷ ds) l a = rw (h.digit d (omega (arith, l, a.0))) (digits r ds l a.1)

  of_fraction : (t ds : List ℕ) → IsFraction t ds → list_all p t ≡ true
  of_fraction t ds no_fraction = refl
  of_fraction t ds (fraction a) = rw h.point (digits 10 ds (omega arith) a)

  of_power : (t : List ℕ) (u d : ℕ) → IsPower t u d → list_all p t ≡ true
  of_power t u d (unsigned {digits = ds} n) = digits 10 ds (omega arith) n.1
  of_power t u d (positive {digits = ds} n) = rw h.plus (digits 10 ds (omega arith) n.1)
  of_power t u d (negative {digits = ds} n) = rw h.minus (digits 10 ds (omega arith) n.1)

  mark : (b : ℕ) → IsTrue (nat_eq b 101 || nat_eq b 69) → p b ≡ true
  mark b m = h.digit b (letter b m)
    where
      letter : (b : ℕ) → IsTrue (nat_eq b 101 || nat_eq b 69) → digit_value b < 36
      letter b m = grind (arith, nat_tests)

  of_exponent : (t : List ℕ) (u d : ℕ) → IsExponent t u d → list_all p t ≡ true
  of_exponent t u d no_exponent = refl
  of_exponent t u d (exponent {e = b} {power = r} m n) = rw (mark b m) (of_power r u d n)

  of_decimal : (t : List ℕ) (v : Scaled) → IsDecimal t v → list_all p t ≡ true
  of_decimal t v n =
      subst (λ l. list_all p l ≡ true) (sym n.spelling) (both n.digits (n.fraction_text ++ n.exponent_text) (digits 10 n.digits (omega arith) n.are_digits) (both n.fraction_text n.exponent_text (of_fraction n.fraction_text n.fraction_digits n.is_fraction) (of_exponent n.exponent_text v.up n.down n.is_exponent)))

  pub of_unsigned : (t : List ℕ) (v : Scaled) → IsUnsigned t v → list_all p t ≡ true
  of_unsigned t v (decimal n) = of_decimal t v n
  of_unsigned t v (hexadecimal {digits = ds} n) = rw (h.digit 48 (omega arith)) (rw (h.digit 120 (omega arith)) (digits 16 ds (omega arith) n.1))

  of_sign : (t : List ℕ) (n : Bool) → IsSign t n → list_all p t ≡ true
  of_sign t n no_sign = refl
  of_sign t n plus = ap (λ x. x && true) h.plus
  of_sign t n minus = ap (λ x. x && true) h.minus

  pub of_word : (s t : List ℕ) (n : Bool) (v : Scaled) → IsSign s n → IsUnsigned t v → list_all p (s ++ t) ≡ true
  of_word s t n v f g = both s t (of_sign s n f) (of_unsigned t v g)

-- ---- no blank and no `_` passes for one of them

small : (b : ℕ) → is_blank b ≡ true → b < 48
small b e = grind (arith, nat_tests)

no_value : (b : ℕ) → b < 48 → digit_value b ≡ 36
no_value b h = grind (arith, nat_tests)

visible_digit : (b : ℕ) → digit_value b < 36 → is_visible b ≡ true
visible_digit b l = by (is_blank b) refl
  where
    by : (t : Bool) → is_blank b ≡ t → not t ≡ true
    by true e = absurd (let v = no_value b (small b e) in omega (arith, v, l))
    by false e = refl

pub visible : Passes is_visible
visible = record { digit = visible_digit; point = refl; plus = refl; minus = refl }

no_mark : (b : ℕ) → digit_value b < 36 → not (nat_eq b 95) ≡ true
no_mark b l = by (nat_eq b 95) refl
  where
    by : (t : Bool) → nat_eq b 95 ≡ t → not t ≡ true
    by true e = absurd (let v : digit_value b ≡ 36 = grind (arith, nat_tests) in omega (arith, v, l))
    by false e = refl

pub unmarked : Passes (λ b. not (nat_eq b 95))
unmarked = record { digit = no_mark; point = refl; plus = refl; minus = refl }

-- a text without `_` stays
pub marks_none : (t : List ℕ) → list_all (λ b. not (nat_eq b 95)) t ≡ true → without_marks t ≡ t
marks_none [] h = refl
marks_none (b ∷ t) h = by (not (nat_eq b 95)) h (marks_none t)
  where
    by : (x : Bool) → (x && list_all (λ b. not (nat_eq b 95)) t) ≡ true → (list_all (λ b. not (nat_eq b 95)) t ≡ true → without_marks t ≡ t) → (if x then b ∷ without_marks t else without_marks t) ≡ b ∷ t
    by true h more = ap (λ l. b ∷ l) (more h)
    by false h more = cc
