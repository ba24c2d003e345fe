-- Each text is read in some way.
use Rattle.std.proofs.Common.{◌≡◌, ℕ, ◌+◌, ◌*◌, ◌/◌, ◌%◌, ◌^◌, ◌≢◌, Bool, true, false, nat_eq, ◌||◌, List, [], ◌∷◌, ◌++◌, length, Option, Some, None, pos, refl, sym, ap, subst, ◌∙◌, arith, true≢false, ◌⊎◌, inl, inr}
use Rattle.std.specs.Char.{digit_value}
use Rattle.std.specs.Str.Parse.{AllDigits, IsNumeral, digits_value}
use Rattle.std.proofs.Math.Nat.{mod-add-div', mul-mod_left}
use Rattle.std.proofs.lemmas.Bool.{cases_lt, cases_eq}
use Rattle.std.proofs.lemmas.Option.{none-some}
use Rattle.whole_num.specs.Digits.{BeginsWithNoDigit, radix_of, NamesBase, AnswersDecimal}
use Rattle.whole_num.specs.Literals.{Scaled, no_fraction, fraction, IsPower, unsigned, positive, negative, IsExponent, no_exponent, exponent, Answers, without_marks, ReadsLiteral}
use Rattle.whole_num.specs.declared.literal.Read.{Read}
use Rattle.whole_num.specs.declared.literal.Read.TheVariants as read
use Rattle.whole_num.proofs.Kept.{answers_decimal, answers_literal}
use Rattle.whole_num.proofs.Literals.{named_value, reads_decimal}
use Rattle.whole_num.proofs.Spelling.{power_minus, power_plus, power_bare, power_some, exponent_parts, IsParted, no_digits, no_powers, is_decimal, names_literal}

-- ---- a value is something

pub each_value : (v : Scaled) → (r : Read) × Answers v r
each_value v = elim (cases_eq (over % under) 0) [ inl e ↦ whole e | inr ne ↦ (read.NotWhole, λ n h. ne (rest n h)) ]
  where
    over : ℕ
    over = v.mantissa * 10 ^ v.up

    under : ℕ
    under = 10 ^ v.down

    rest : (n : ℕ) → n * under ≡ over → over % under ≡ 0
    rest n h = ap (λ x. x % under) (sym h) ∙ mul-mod_left n under

    whole : over % under ≡ 0 → (r : Read) × Answers v r
    whole e =
        let is : over / under * under ≡ over = omega (arith, mod-add-div' over under, e) in
        elim (cases_lt (2 ^ 53) (over / under)) [ inl more ↦ (read.OutOfRange, (over / under, is, more)) | inr few ↦ (read.Whole (pos (over / under)), (over / under, is, few, refl)) ]

-- ---- a text is a numeral or not

pub each_digits : (r : ℕ) (ds : List ℕ) → AllDigits r ds ⊎ (AllDigits r ds → ⊥)
each_digits r [] = inl tt
each_digits r (d ∷ ds) =
    elim (cases_lt (digit_value d) r) [ inl less ↦ elim (each_digits r ds) [ inl all ↦ inl (less, all) | inr some ↦ inr (λ h. some h.1) ] | inr more ↦ inr (λ h. absurd (omega (arith, h.0))) ]

pub each_numeral : (r : ℕ) (ds : List ℕ) → IsNumeral r ds ⊎ (IsNumeral r ds → ⊥)
each_numeral r [] = inr (λ h. absurd (omega (arith, h.0)))
each_numeral r (d ∷ ds) =
    elim (each_digits r (d ∷ ds)) [ inl all ↦ inl (omega arith, all) | inr some ↦ inr (λ h. some h.1) ]

-- ---- a text is an exponent or not

each_power : (t : List ℕ) → ((u : ℕ) × (d : ℕ) × IsPower t u d) ⊎ ((u d : ℕ) → IsPower t u d → ⊥)
each_power [] = inr (λ u d h. power_some u d h)
each_power (s ∷ r) = elim (cases_eq s 45) [ inl e ↦ minus e | inr no_minus ↦ elim (cases_eq s 43) [ inl e ↦ plus e | inr no_plus ↦ bare no_minus no_plus ] ]
  where
    minus : s ≡ 45 → ((u : ℕ) × (d : ℕ) × IsPower (s ∷ r) u d) ⊎ ((u d : ℕ) → IsPower (s ∷ r) u d → ⊥)
    minus e =
        elim (each_numeral 10 r) [ inl n ↦ inl (0, digits_value 10 r, subst (λ (b : ℕ). IsPower (b ∷ r) 0 (digits_value 10 r)) (sym e) (negative n)) | inr none ↦ inr (λ u d h. none (power_minus s r (s ∷ r) u d e refl h).0) ]

    plus : s ≡ 43 → ((u : ℕ) × (d : ℕ) × IsPower (s ∷ r) u d) ⊎ ((u d : ℕ) → IsPower (s ∷ r) u d → ⊥)
    plus e =
        elim (each_numeral 10 r) [ inl n ↦ inl (digits_value 10 r, 0, subst (λ (b : ℕ). IsPower (b ∷ r) (digits_value 10 r) 0) (sym e) (positive n)) | inr none ↦ inr (λ u d h. none (power_plus s r (s ∷ r) u d e refl h).0) ]

    bare : s ≢ 45 → s ≢ 43 → ((u : ℕ) × (d : ℕ) × IsPower (s ∷ r) u d) ⊎ ((u d : ℕ) → IsPower (s ∷ r) u d → ⊥)
    bare no_minus no_plus =
        elim (each_numeral 10 (s ∷ r)) [ inl n ↦ inl (digits_value 10 (s ∷ r), 0, unsigned n) | inr none ↦ inr (λ u d h. none (power_bare s r (s ∷ r) u d no_minus no_plus refl h).0) ]

each_exponent : (t : List ℕ) → ((u : ℕ) × (d : ℕ) × IsExponent t u d) ⊎ ((u d : ℕ) → IsExponent t u d → ⊥)
each_exponent [] = inl (0, 0, no_exponent)
each_exponent (e ∷ t) = by (nat_eq e 101 || nat_eq e 69) refl
  where
    by : (b : Bool) → (nat_eq e 101 || nat_eq e 69) ≡ b → ((u : ℕ) × (d : ℕ) × IsExponent (e ∷ t) u d) ⊎ ((u d : ℕ) → IsExponent (e ∷ t) u d → ⊥)
    by false is = inr (λ u d h. true≢false (sym (exponent_parts e t (e ∷ t) u d refl h).0 ∙ is))
    by true is =
        elim (each_power t) [ inl p ↦ inl (p.0, p.1, exponent is p.2) | inr none ↦ inr (λ u d h. none u d (exponent_parts e t (e ∷ t) u d refl h).1) ]

-- ---- a text begins with digits, and then perhaps with a fraction

each_front : (t : List ℕ) → (ds : List ℕ) × (rest : List ℕ) × (t ≡ ds ++ rest) × AllDigits 10 ds × BeginsWithNoDigit rest
each_front [] = ([], [], refl, tt, tt)
each_front (b ∷ bs) =
    elim (cases_lt (digit_value b) 10) [
      | inl less ↦
          (let more = each_front bs in
          let found : (ds : List ℕ) × (rest : List ℕ) × (b ∷ bs ≡ ds ++ rest) × AllDigits 10 ds × BeginsWithNoDigit rest = (b ∷ more.0, more.1, ap (λ l. b ∷ l) more.2, (less, more.3), more.4) in
          found)
      | inr many ↦ ([], b ∷ bs, refl, tt, many)
    ]

pub each_parts : (t : List ℕ) → (ds : List ℕ) × (part : List ℕ) × (fs : List ℕ) × (rest : List ℕ) × IsParted t ds part fs rest
each_parts t = by front.1 (front.2, front.3, front.4)
  where
    front : (ds : List ℕ) × (rest : List ℕ) × (t ≡ ds ++ rest) × AllDigits 10 ds × BeginsWithNoDigit rest
    front = each_front t

    by : (rest : List ℕ) → (t ≡ front.0 ++ rest) × AllDigits 10 front.0 × BeginsWithNoDigit rest → (ds : List ℕ) × (part : List ℕ) × (fs : List ℕ) × (rest : List ℕ) × IsParted t ds part fs rest
    by [] h = (front.0, [], [], [], record { split = h.0; are_digits = h.1; is_fraction = no_fraction; ends = tt; no_point = λ _. tt })
    by (b ∷ bs) h = elim (cases_eq b 46) [ inl e ↦ point e (each_front bs) | inr ne ↦ (front.0, [], [], b ∷ bs, record { split = h.0; are_digits = h.1; is_fraction = no_fraction; ends = h.2; no_point = λ _. ne }) ]
      where
        point : b ≡ 46 → (fs : List ℕ) × (rest : List ℕ) × (bs ≡ fs ++ rest) × AllDigits 10 fs × BeginsWithNoDigit rest → (ds : List ℕ) × (part : List ℕ) × (fs : List ℕ) × (rest : List ℕ) × IsParted t ds part fs rest
        point e f = (front.0, 46 ∷ f.0, f.0, f.1, record { split = h.0 ∙ (λ i. front.0 ++ (e i ∷ f.2 i)); are_digits = h.1; is_fraction = fraction f.3; ends = f.4; no_point = λ same. absurd (cc) })

-- ---- a text is read

each_decimal : (t : List ℕ) → (r : Read) × AnswersDecimal t r
each_decimal t = let p = each_parts t in by p.0 p.1 p.2 p.3 p.4
  where
    by : (ds part fs rest : List ℕ) → IsParted t ds part fs rest → (r : Read) × AnswersDecimal t r
    by ds part fs rest p = elim (cases_eq (length (ds ++ fs)) 0) [ inl e ↦ (read.NotNumber, no_digits t ds part fs rest p e) | inr more ↦ elim (each_exponent rest) [ inl x ↦ number more x | inr none ↦ (read.NotNumber, no_powers t ds part fs rest p none) ] ]
      where
        number : length (ds ++ fs) ≢ 0 → (u : ℕ) × (d : ℕ) × IsExponent rest u d → (r : Read) × AnswersDecimal t r
        number more x =
            let v : Scaled = record { mantissa = digits_value 10 (ds ++ fs); up = x.0; down = length fs + x.1 } in
            let a = each_value v in
            (a.0, answers_decimal t v a.0 (is_decimal t ds part fs rest p x.0 x.1 (omega (arith, more)) x.2) a.1)

each_base : (t : List ℕ) → ((r : ℕ) × (ds : List ℕ) × NamesBase t r ds) ⊎ ((r : ℕ) (ds : List ℕ) → NamesBase t r ds → ⊥)
each_base [] = inr (λ r ds h. absurd (let e = h.split in cc))
each_base (z ∷ []) = inr (λ r ds h. absurd (let e = h.split in cc))
each_base (z ∷ letter ∷ ds) = by (radix_of letter) refl
  where
    by : (r : Option ℕ) → radix_of letter ≡ r → ((r : ℕ) × (es : List ℕ) × NamesBase (z ∷ letter ∷ ds) r es) ⊎ ((r : ℕ) (es : List ℕ) → NamesBase (z ∷ letter ∷ ds) r es → ⊥)
    by None e = inr (λ r es h. none-some r (sym e ∙ (let s = h.split in let same : letter ≡ h.letter = cc in ap radix_of same) ∙ h.names))
    by (Some r) e = elim (cases_eq z 48) [ inl zero_is ↦ inl (r, ds, record { letter = letter; names = e; split = ap (λ b. b ∷ letter ∷ ds) zero_is }) | inr ne ↦ inr (λ r es h. ne (let s = h.split in cc)) ]

-- each text is read in some way
pub each_text : (bytes : List ℕ) → (r : Read) × ReadsLiteral bytes r
each_text bytes = elim (each_base (without_marks bytes)) [ inl b ↦ named b | inr none ↦ (let a = each_decimal (without_marks bytes) in let found : (r : Read) × ReadsLiteral bytes r = (a.0, reads_decimal bytes a.0 none a.1) in found) ]
  where
    named : (r : ℕ) × (ds : List ℕ) × NamesBase (without_marks bytes) r ds → (r : Read) × ReadsLiteral bytes r
    named b = elim (each_numeral b.0 b.1) [ inl n ↦ number n | inr none ↦ (read.NotNumber, λ v h. none (named_value (without_marks bytes) b.0 b.1 b.2 v h).0) ]
      where
        number : IsNumeral b.0 b.1 → (r : Read) × ReadsLiteral bytes r
        number n =
            let v : Scaled = record { mantissa = digits_value b.0 b.1; up = 0; down = 0 } in
            let a = each_value v in
            (a.0, answers_literal bytes v a.0 (names_literal (without_marks bytes) b.0 b.1 b.2 n) a.1)
