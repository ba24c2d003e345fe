-- A text is a literal in one way at most.
use Rattle.std.proofs.Common.{◌≡◌, ℕ, ◌+◌, ◌<◌, ◌≤◌, ◌≢◌, Bool, true, false, cond, nat_eq, ◌||◌, List, [], ◌∷◌, ◌++◌, length, Some, None, IsTrue, refl, sym, ap, subst, ◌∙◌, arith, ◌⊎◌, inl, inr}
use Rattle.std.specs.Char.{digit_value}
use Rattle.std.specs.Str.Parse.{AllDigits, IsNumeral, digits_value}
use Rattle.std.proofs.lemmas.Bool.{false≢true}
use Rattle.std.proofs.lemmas.Bool.Decides.{nat_tests}
use Rattle.std.proofs.lemmas.Option.{same_Some}
use Rattle.whole_num.specs.Digits.{BeginsWithNoDigit, BeginsWithNoPoint, radix_of, NamesBase}
use Rattle.whole_num.specs.Literals.{Scaled, IsFraction, no_fraction, fraction, IsExponentMark, IsPower, unsigned, positive, negative, IsExponent, no_exponent, exponent, IsDecimal, IsBased, IsLiteral, hexadecimal, binary}

same_cons : (a b : ℕ) (xs ys : List ℕ) → a ∷ xs ≡ b ∷ ys → (a ≡ b) × (xs ≡ ys)
same_cons a b xs ys e = (cc, cc)

either : (b m n : ℕ) → IsTrue (nat_eq b m || nat_eq b n) → (b ≡ m) ⊎ (b ≡ n)
either b m n h = by (nat_eq b m) refl h
  where
    by : (t : Bool) → nat_eq b m ≡ t → IsTrue (t || nat_eq b n) → (b ≡ m) ⊎ (b ≡ n)
    by true e h = inl (grind (arith, nat_tests))
    by false e h = inr (grind (arith, nat_tests))

-- ---- powers

pub power_minus : (s : ℕ) (r t : List ℕ) (u d : ℕ) → s ≡ 45 → t ≡ s ∷ r → IsPower t u d → IsNumeral 10 r × (u ≡ 0) × (d ≡ digits_value 10 r)
power_minus s r t u d s_is t_is (unsigned n) =
    let first : digit_value s < 10 = (subst (IsNumeral 10) t_is n).1.0 in
    let small : digit_value 45 < 10 = subst (λ (b : ℕ). digit_value b < 10) s_is first in
    absurd (omega arith)
power_minus s r t u d s_is t_is (positive {digits = ds} n) =
    absurd (omega (arith, (same_cons 43 s ds r t_is).0))
power_minus s r t u d s_is t_is (negative {digits = ds} n) =
    let same : ds ≡ r = (same_cons 45 s ds r t_is).1 in
    (subst (IsNumeral 10) same n, refl, ap (digits_value 10) same)

pub power_plus : (s : ℕ) (r t : List ℕ) (u d : ℕ) → s ≡ 43 → t ≡ s ∷ r → IsPower t u d → IsNumeral 10 r × (u ≡ digits_value 10 r) × (d ≡ 0)
power_plus s r t u d s_is t_is (unsigned n) =
    let first : digit_value s < 10 = (subst (IsNumeral 10) t_is n).1.0 in
    let small : digit_value 43 < 10 = subst (λ (b : ℕ). digit_value b < 10) s_is first in
    absurd (omega arith)
power_plus s r t u d s_is t_is (positive {digits = ds} n) =
    let same : ds ≡ r = (same_cons 43 s ds r t_is).1 in
    (subst (IsNumeral 10) same n, ap (digits_value 10) same, refl)
power_plus s r t u d s_is t_is (negative {digits = ds} n) =
    absurd (omega (arith, (same_cons 45 s ds r t_is).0))

pub power_bare : (s : ℕ) (r t : List ℕ) (u d : ℕ) → s ≢ 45 → s ≢ 43 → t ≡ s ∷ r → IsPower t u d → IsNumeral 10 t × (u ≡ digits_value 10 t) × (d ≡ 0)
power_bare s r t u d no_minus no_plus t_is (unsigned n) = (n, refl, refl)
power_bare s r t u d no_minus no_plus t_is (positive {digits = ds} n) =
    absurd (no_plus (sym (same_cons 43 s ds r t_is).0))
power_bare s r t u d no_minus no_plus t_is (negative {digits = ds} n) =
    absurd (no_minus (sym (same_cons 45 s ds r t_is).0))

pub power_some : (u d : ℕ) → IsPower [] u d → ⊥
power_some u d (unsigned n) = absurd (omega (arith, n.0))

no_minus_digit : (b : ℕ) → digit_value b < 10 → (b ≢ 45) × (b ≢ 43)
no_minus_digit b h = (
  λ e. let small : digit_value 45 < 10 = subst (λ (c : ℕ). digit_value c < 10) e h in omega arith,
  λ e. let small : digit_value 43 < 10 = subst (λ (c : ℕ). digit_value c < 10) e h in omega arith,
)

pub power_once : (t : List ℕ) (u d v e : ℕ) → IsPower t u d → IsPower t v e → (u ≡ v) × (d ≡ e)
power_once t u d v e (unsigned {digits = []} n) q = absurd (omega (arith, n.0))
power_once t u d v e (unsigned {digits = b ∷ bs} n) q =
    let apart = no_minus_digit b n.1.0 in
    let is = power_bare b bs (b ∷ bs) v e apart.0 apart.1 refl q in
    (sym is.1, sym is.2)
power_once t u d v e (positive {digits = ds} n) q =
    let is = power_plus 43 ds (43 ∷ ds) v e refl refl q in
    (sym is.1, sym is.2)
power_once t u d v e (negative {digits = ds} n) q =
    let is = power_minus 45 ds (45 ∷ ds) v e refl refl q in
    (sym is.1, sym is.2)

-- ---- exponents

pub exponent_parts : (m : ℕ) (r t : List ℕ) (u d : ℕ) → t ≡ m ∷ r → IsExponent t u d → IsExponentMark m × IsPower r u d
exponent_parts m r t u d t_is no_exponent = absurd (cc)
exponent_parts m r t u d t_is (exponent {e = e} {power = p} mark power) =
    let same = same_cons e m p r t_is in
    (subst IsExponentMark same.0 mark, subst (λ (l : List ℕ). IsPower l u d) same.1 power)

pub exponent_once : (t : List ℕ) (u d v e : ℕ) → IsExponent t u d → IsExponent t v e → (u ≡ v) × (d ≡ e)
exponent_once t u d v e no_exponent q = none v e q
  where
    none : (v e : ℕ) → IsExponent [] v e → (0 ≡ v) × (0 ≡ e)
    none v e no_exponent = (refl, refl)
exponent_once t u d v e (exponent {e = m} {power = p} mark power) q =
    power_once p u d v e power (exponent_parts m p (m ∷ p) v e refl q).1

mark_no_digit : (m : ℕ) → IsExponentMark m → (10 ≤ digit_value m) × (m ≢ 46)
mark_no_digit m h =
    elim (either m 101 69 h) [ inl e ↦ (subst (λ (b : ℕ). 10 ≤ digit_value b) (sym e) (omega arith), omega arith) | inr e ↦ (subst (λ (b : ℕ). 10 ≤ digit_value b) (sym e) (omega arith), omega arith) ]

exponent_begins : (t : List ℕ) (u d : ℕ) → IsExponent t u d → BeginsWithNoDigit t × BeginsWithNoPoint t
exponent_begins t u d no_exponent = (tt, tt)
exponent_begins t u d (exponent {e = m} mark power) = mark_no_digit m mark

-- ---- digits and fractions

-- digits end where no digit follows
pub digits_once : (xs ys s t : List ℕ) → AllDigits 10 xs → AllDigits 10 ys → BeginsWithNoDigit s → BeginsWithNoDigit t → xs ++ s ≡ ys ++ t → (xs ≡ ys) × (s ≡ t)
digits_once [] [] s t p q a b e = (refl, e)
digits_once [] (y ∷ ys) s t p q a b e =
    absurd (let h : 10 ≤ digit_value y = subst BeginsWithNoDigit e a in omega (arith, q.0))
digits_once (x ∷ xs) [] s t p q a b e =
    absurd (let h : 10 ≤ digit_value x = subst BeginsWithNoDigit (sym e) b in omega (arith, p.0))
digits_once (x ∷ xs) (y ∷ ys) s t p q a b e =
    let parts = same_cons x y (xs ++ s) (ys ++ t) e in
    let more = digits_once xs ys s t p.1 q.1 a b parts.1 in
    (λ i. parts.0 i ∷ more.0 i, more.1)

point_no_digit : (part digits rest : List ℕ) → IsFraction part digits → BeginsWithNoDigit rest → BeginsWithNoDigit (part ++ rest)
point_no_digit part digits rest no_fraction h = h
point_no_digit part digits rest (fraction f) h = omega arith

fraction_once : (part ds rest part' ds' rest' : List ℕ) → IsFraction part ds → IsFraction part' ds' → BeginsWithNoDigit rest → BeginsWithNoDigit rest' → (part ≡ [] → BeginsWithNoPoint rest) → (part' ≡ [] → BeginsWithNoPoint rest') → part ++ rest ≡ part' ++ rest' → (ds ≡ ds') × (rest ≡ rest')
fraction_once part ds rest part' ds' rest' no_fraction no_fraction h h' k k' e = (refl, e)
fraction_once part ds rest part' ds' rest' no_fraction (fraction {digits = fs'} f') h h' k k' e =
    let no : 46 ≢ 46 = subst BeginsWithNoPoint e (k refl) in absurd (no refl)
fraction_once part ds rest part' ds' rest' (fraction f) no_fraction h h' k k' e =
    let no : 46 ≢ 46 = subst BeginsWithNoPoint (sym e) (k' refl) in absurd (no refl)
fraction_once part ds rest part' ds' rest' (fraction {digits = fs} f) (fraction {digits = fs'} f') h h' k k' e =
    digits_once fs fs' rest rest' f f' h h' (same_cons 46 46 (fs ++ rest) (fs' ++ rest') e).1

-- ---- decimals

-- a text is digits, a fraction and a rest, each part as long as can be
pub record IsParted (text ds part fs rest : List ℕ) : Type 0 where
  pub split : text ≡ ds ++ (part ++ rest)
  pub are_digits : AllDigits 10 ds
  pub is_fraction : IsFraction part fs
  pub ends : BeginsWithNoDigit rest
  pub no_point : part ≡ [] → BeginsWithNoPoint rest

-- a decimal has these parts
pub decimal_parts : (text ds part fs rest : List ℕ) → IsParted text ds part fs rest → (v : Scaled) (h : IsDecimal text v) → (h.digits ≡ ds) × (h.fraction_digits ≡ fs) × (h.exponent_text ≡ rest)
decimal_parts text ds part fs rest p v h =
    let begins = exponent_begins h.exponent_text v.up h.down h.is_exponent in
    let first = digits_once h.digits ds (h.fraction_text ++ h.exponent_text) (part ++ rest) h.are_digits p.are_digits (point_no_digit h.fraction_text h.fraction_digits h.exponent_text h.is_fraction begins.0) (point_no_digit part fs rest p.is_fraction p.ends) (sym h.spelling ∙ p.split) in
    let more = fraction_once h.fraction_text h.fraction_digits h.exponent_text part fs rest h.is_fraction p.is_fraction begins.0 p.ends (λ _. begins.1) p.no_point first.1 in
    (first.0, more.0, more.1)

-- without digits there is none
pub no_digits : (text ds part fs rest : List ℕ) → IsParted text ds part fs rest → length (ds ++ fs) ≡ 0 → (v : Scaled) → IsDecimal text v → ⊥
no_digits text ds part fs rest p e v h =
    let same = decimal_parts text ds part fs rest p v h in
    let len : length (h.digits ++ h.fraction_digits) ≡ length (ds ++ fs) = λ i. length (same.0 i ++ same.1 i) in
    omega (arith, len, e, h.some)

-- where the rest is no exponent there is none
pub no_powers : (text ds part fs rest : List ℕ) → IsParted text ds part fs rest → ((up down : ℕ) → IsExponent rest up down → ⊥) → (v : Scaled) → IsDecimal text v → ⊥
no_powers text ds part fs rest p not_any v h =
    not_any v.up h.down (subst (λ (t : List ℕ). IsExponent t v.up h.down) (decimal_parts text ds part fs rest p v h).2 h.is_exponent)

-- else there is one
pub is_decimal : (text ds part fs rest : List ℕ) → IsParted text ds part fs rest → (up down : ℕ) → 0 < length (ds ++ fs) → IsExponent rest up down → IsDecimal text (record { mantissa = digits_value 10 (ds ++ fs); up = up; down = length fs + down })
is_decimal text ds part fs rest p up down some powers = record {
  digits = ds;
  fraction_text = part;
  fraction_digits = fs;
  exponent_text = rest;
  down = down;
  spelling = p.split;
  are_digits = p.are_digits;
  is_fraction = p.is_fraction;
  is_exponent = powers;
  some = some;
  mantissa_is = refl;
  down_is = refl;
}

-- the parts that a decimal has
parts_of : (text : List ℕ) (v : Scaled) (g : IsDecimal text v) → IsParted text g.digits g.fraction_text g.fraction_digits g.exponent_text
parts_of text v g =
    let begins = exponent_begins g.exponent_text v.up g.down g.is_exponent in
    record { split = g.spelling; are_digits = g.are_digits; is_fraction = g.is_fraction; ends = begins.0; no_point = λ _. begins.1 }

pub decimal_once : (text : List ℕ) (v w : Scaled) → IsDecimal text v → IsDecimal text w → v ≡ w
decimal_once text v w g h = λ i. record { mantissa = mantissa i; up = powers.0 i; down = down i }
  where
    parts : (h.digits ≡ g.digits) × (h.fraction_digits ≡ g.fraction_digits) × (h.exponent_text ≡ g.exponent_text)
    parts = decimal_parts text g.digits g.fraction_text g.fraction_digits g.exponent_text (parts_of text v g) w h

    mantissa : v.mantissa ≡ w.mantissa
    mantissa = g.mantissa_is ∙ (λ i. digits_value 10 (sym parts.0 i ++ sym parts.1 i)) ∙ sym h.mantissa_is

    powers : (v.up ≡ w.up) × (g.down ≡ h.down)
    powers = exponent_once g.exponent_text v.up g.down w.up h.down g.is_exponent (subst (λ (l : List ℕ). IsExponent l w.up h.down) parts.2 h.is_exponent)

    down : v.down ≡ w.down
    down = g.down_is ∙ (λ i. length (sym parts.1 i) + powers.1 i) ∙ sym h.down_is

-- ---- other bases

names_either : (letter radix : ℕ) → radix_of letter ≡ Some radix → ((radix ≡ 16) × IsTrue (nat_eq letter 120 || nat_eq letter 88)) ⊎ ((radix ≡ 2) × IsTrue (nat_eq letter 98 || nat_eq letter 66))
names_either letter radix h = by (nat_eq letter 120 || nat_eq letter 88) (nat_eq letter 98 || nat_eq letter 66) refl refl h
  where
    by : (s t : Bool) → (nat_eq letter 120 || nat_eq letter 88) ≡ s → (nat_eq letter 98 || nat_eq letter 66) ≡ t → cond s (Some 16) (cond t (Some 2) None) ≡ Some radix → ((radix ≡ 16) × IsTrue (nat_eq letter 120 || nat_eq letter 88)) ⊎ ((radix ≡ 2) × IsTrue (nat_eq letter 98 || nat_eq letter 66))
    by true t p q h = inl (cc, p)
    by false true p q h = inr (cc, q)
    by false false p q h = absurd (cc)

-- digits behind a named base are a literal
pub names_literal : (text : List ℕ) (radix : ℕ) (digits : List ℕ) → NamesBase text radix digits → IsNumeral radix digits → IsLiteral text (record { mantissa = digits_value radix digits; up = 0; down = 0 })
names_literal text radix digits h n = elim (names_either h.letter radix h.names) [ inl e ↦ sixteen e.0 e.1 | inr e ↦ two e.0 e.1 ]
  where
    sixteen : radix ≡ 16 → IsTrue (nat_eq h.letter 120 || nat_eq h.letter 88) → IsLiteral text (record { mantissa = digits_value radix digits; up = 0; down = 0 })
    sixteen e is = hexadecimal (record { letter = h.letter; digits = digits; spelling = h.split; is_letter = is; is_numeral = subst (λ (r : ℕ). IsNumeral r digits) e n; value_is = λ i. record { mantissa = digits_value (e i) digits; up = 0; down = 0 } })

    two : radix ≡ 2 → IsTrue (nat_eq h.letter 98 || nat_eq h.letter 66) → IsLiteral text (record { mantissa = digits_value radix digits; up = 0; down = 0 })
    two e is = binary (record { letter = h.letter; digits = digits; spelling = h.split; is_letter = is; is_numeral = subst (λ (r : ℕ). IsNumeral r digits) e n; value_is = λ i. record { mantissa = digits_value (e i) digits; up = 0; down = 0 } })

-- a literal of another base names it
pub hexadecimal_names : (text : List ℕ) (v : Scaled) (h : IsBased 16 120 88 text v) → NamesBase text 16 h.digits
hexadecimal_names text v h = record { letter = h.letter; names = ap (λ t. cond t (Some 16) (cond (nat_eq h.letter 98 || nat_eq h.letter 66) (Some 2) None)) h.is_letter; split = h.spelling }

no_hexadecimal : (b : ℕ) → IsTrue (nat_eq b 98 || nat_eq b 66) → (nat_eq b 120 || nat_eq b 88) ≡ false
no_hexadecimal b h =
    elim (either b 98 66 h) [ inl e ↦ ap (λ c. nat_eq c 120 || nat_eq c 88) e | inr e ↦ ap (λ c. nat_eq c 120 || nat_eq c 88) e ]

pub binary_names : (text : List ℕ) (v : Scaled) (h : IsBased 2 98 66 text v) → NamesBase text 2 h.digits
binary_names text v h = record { letter = h.letter; names = (λ i. cond (no_hexadecimal h.letter h.is_letter i) (Some 16) (cond (h.is_letter i) (Some 2) None)); split = h.spelling }

abbrev Apart : ℕ → Type 0
Apart letter = (10 ≤ digit_value letter) × (letter ≢ 46) × (IsExponentMark letter → ⊥)

apart_x : Apart 120
apart_x = (omega arith, omega arith, λ h. false≢true h)

letter_apart : (letter radix : ℕ) → radix_of letter ≡ Some radix → Apart letter
letter_apart letter radix h =
    elim (names_either letter radix h) [ inl e ↦ of 120 88 e.1 apart_x (omega arith, omega arith, λ h. false≢true h) | inr e ↦ of 98 66 e.1 (omega arith, omega arith, λ h. false≢true h) (omega arith, omega arith, λ h. false≢true h) ]
  where
    of : (m n : ℕ) → IsTrue (nat_eq letter m || nat_eq letter n) → Apart m → Apart n → Apart letter
    of m n is p q = elim (either letter m n is) [ inl e ↦ subst Apart (sym e) p | inr e ↦ subst Apart (sym e) q ]

-- what names a base is no decimal
pub names_no_decimal : (text : List ℕ) (radix : ℕ) (digits : List ℕ) → NamesBase text radix digits → (v : Scaled) → IsDecimal text v → ⊥
names_no_decimal text radix digits b v h = apart.2 (exponent_parts b.letter digits h.exponent_text v.up h.down parts.2 h.is_exponent).0
  where
    apart : Apart b.letter
    apart = letter_apart b.letter radix b.names

    parts : (h.digits ≡ 48 ∷ []) × (h.fraction_digits ≡ []) × (h.exponent_text ≡ b.letter ∷ digits)
    parts =
        decimal_parts text (48 ∷ []) [] [] (b.letter ∷ digits)
        (record { split = b.split; are_digits = (omega arith, tt); is_fraction = no_fraction; ends = apart.0; no_point = λ _. apart.1 })
        v h

-- a text names one base
pub names_once : (text : List ℕ) (r : ℕ) (ds : List ℕ) (s : ℕ) (es : List ℕ) → NamesBase text r ds → NamesBase text s es → (r ≡ s) × (ds ≡ es)
names_once text r ds s es a b =
    let tails = same_cons 48 48 (a.letter ∷ ds) (b.letter ∷ es) (sym a.split ∙ b.split) in
    let parts = same_cons a.letter b.letter ds es tails.1 in
    (same_Some r s (sym a.names ∙ ap radix_of parts.0 ∙ b.names), parts.1)
