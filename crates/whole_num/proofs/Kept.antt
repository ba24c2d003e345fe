-- What is kept of digits, one digit after another, and what a number is that is read so.
use Rattle.std.proofs.Common.{◌≡◌, ℕ, ◌+◌, ◌-◌, ◌*◌, ◌%◌, ◌^◌, ◌<◌, ◌≤◌, ◌≢◌, min, List, [], ◌∷◌, ◌++◌, refl, sym, ap, ◌∙◌, arith, ◌⊎◌, inl, inr, length-append}
use Rattle.std.specs.Char.{digit_value}
use Rattle.std.specs.Str.Parse.{AllDigits, digits_value}
use Rattle.std.proofs.lemmas.Int.Digits.{digits_value_push}
use Rattle.std.proofs.lemmas.Nat.{pow-add}
use Rattle.std.proofs.Math.Nat.{mul_assoc, mul-add-mod_self_right, mod-eq_of_lt}
use Rattle.whole_num.specs.Digits.{cut, Keeps, AnswersDecimal}
use Rattle.whole_num.specs.Literals.{Scaled, IsTheWhole, IsDecimal, IsLiteral, IsPower, unsigned, positive, negative, IsExponent, no_exponent, exponent, Answers, without_marks, ReadsLiteral}
use Rattle.whole_num.specs.declared.literal.Read.{Read}
use Rattle.whole_num.specs.declared.literal.Read.TheVariants as read
use Rattle.whole_num.specs.declared.mantissa.Mantissa.{Mantissa}
use Rattle.whole_num.proofs.Tens.{ten_pos, cut_digit, not_whole, whole_at, up_lacks, up_left, cut_shifted}

-- ---- digits

pub digits_more : (r : ℕ) (xs : List ℕ) (b : ℕ) → AllDigits r xs → digit_value b < r → AllDigits r (xs ++ (b ∷ []))
digits_more r [] b all h = (h, tt)
digits_more r (x ∷ xs) b all h = (all.0, digits_more r xs b all.1 h)

pub digits_behind : (r : ℕ) (xs ys : List ℕ) → AllDigits r (xs ++ ys) → AllDigits r ys
digits_behind r [] ys all = all
digits_behind r (x ∷ xs) ys all = digits_behind r xs ys all.1

-- the number so far, cut, with one digit more
pub value_more : (r : ℕ) (xs : List ℕ) (b v w d : ℕ) → 0 < r → v ≡ cut (digits_value r xs) → d ≡ digit_value b → w ≡ min (min (v * r) (2 ^ 64 - 1) + d) (2 ^ 64 - 1) → w ≡ cut (digits_value r (xs ++ (b ∷ [])))
value_more r xs b v w d pos v_is d_is w_is =
    w_is ∙ (λ i. min (min (v_is i * r) (2 ^ 64 - 1) + d_is i) (2 ^ 64 - 1)) ∙ cut_digit (2 ^ 64 - 1) (digits_value r xs) r (digit_value b) pos ∙ ap cut (sym (digits_value_push r xs b))

-- ---- what is kept

-- a zero more
pub keeps_zero : (m : Mantissa) (digits : List ℕ) (b : ℕ) → digit_value b ≡ 0 → Keeps m digits → Keeps (record { kept = m.kept; zeros = m.zeros + 1; count = m.count + 1 }) (digits ++ (b ∷ []))
keeps_zero m digits b none h = record {
  core = h.core;
  core_is = h.core_is;
  value = digits_value_push 10 digits b ∙ (λ i. h.value i * 10 + none i) ∙ more;
  bare = h.bare;
  count = omega (arith, h.count, length-append digits (b ∷ []));
  zeros = omega (arith, h.zeros);
}
  where
    more : h.core * 10 ^ m.zeros * 10 + 0 ≡ h.core * 10 ^ (m.zeros + 1)
    more =
        let e : h.core * 10 ^ m.zeros * 10 ≡ h.core * 10 ^ (m.zeros + 1) = mul_assoc h.core (10 ^ m.zeros) 10 ∙ ap (λ x. h.core * x) (sym (pow-add 10 m.zeros 1)) in
        omega (arith, e)

-- another digit more
pub keeps_digit : (m : Mantissa) (digits : List ℕ) (b s r : ℕ) → 0 < digit_value b → digit_value b < 10 → s ≡ cut (m.kept * 10 ^ (m.zeros + 1)) → r ≡ min (s + digit_value b) (2 ^ 64 - 1) → Keeps m digits → Keeps (record { kept = r; zeros = 0; count = m.count + 1 }) (digits ++ (b ∷ []))
keeps_digit m digits b s r some small s_is r_is h = record {
  core = core;
  core_is = r_is ∙ ap (λ x. min (x + d) (2 ^ 64 - 1)) (s_is ∙ ap (λ k. cut (k * tens)) h.core_is) ∙ cut_digit (2 ^ 64 - 1) h.core tens d (ten_pos (m.zeros + 1));
  value = digits_value_push 10 digits b ∙ ap (λ n. n * 10 + d) h.value ∙ shifted ∙ once core;
  bare = λ _. omega (arith, last);
  count = omega (arith, h.count, length-append digits (b ∷ []));
  zeros = omega arith;
}
  where
    d : ℕ
    d = digit_value b

    tens : ℕ
    tens = 10 ^ (m.zeros + 1)

    core : ℕ
    core = h.core * tens + d

    ten_more : h.core * 10 ^ m.zeros * 10 ≡ h.core * tens
    ten_more = mul_assoc h.core (10 ^ m.zeros) 10 ∙ ap (λ x. h.core * x) (sym (pow-add 10 m.zeros 1))

    shifted : h.core * 10 ^ m.zeros * 10 + d ≡ core
    shifted = ap (λ x. x + d) ten_more

    once : (n : ℕ) → n ≡ n * 10 ^ 0
    once n = omega arith

    last : core % 10 ≡ d
    last =
        ap (λ x. (x + d) % 10) (sym ten_more) ∙ mul-add-mod_self_right (h.core * 10 ^ m.zeros) 10 d ∙ mod-eq_of_lt small

-- ---- the number

cut_zero : (core : ℕ) → 0 ≡ cut core → core ≡ 0
cut_zero core e = omega arith

-- the number 0
pub scaled_zero : (m : Mantissa) (digits : List ℕ) (u d : ℕ) → Keeps m digits → m.kept ≡ 0 → IsTheWhole (record { mantissa = digits_value 10 digits; up = u; down = d }) 0
scaled_zero m digits u d h none =
    let zero_is : digits_value 10 digits ≡ 0 = h.value ∙ ap (λ c. c * 10 ^ m.zeros) (cut_zero h.core (sym none ∙ h.core_is)) ∙ nothing (10 ^ m.zeros) in
    nothing (10 ^ d) ∙ sym (ap (λ n. n * 10 ^ u) zero_is ∙ nothing (10 ^ u))
  where
    nothing : (n : ℕ) → 0 * n ≡ 0
    nothing n = omega arith

core_some : (core kept : ℕ) → kept ≡ cut core → kept ≢ 0 → 0 < core
core_some core kept e ne = omega arith

-- tens that are lacking
pub scaled_not_whole : (m : Mantissa) (digits : List ℕ) (u d up down : ℕ) → Keeps m digits → m.kept ≢ 0 → m.zeros < 2 ^ 63 → up ≡ cut (cut u + m.zeros) → down ≡ cut d → (u ≡ 0) ⊎ (d < 2 ^ 63) → up < down → (n : ℕ) → IsTheWhole (record { mantissa = digits_value 10 digits; up = u; down = d }) n → ⊥
scaled_not_whole m digits u d up down h some few up_is down_is small less n whole =
    not_whole h.core m.zeros u d n (h.bare (core_some h.core m.kept h.core_is some))
    (up_lacks m.zeros u d up down up_is down_is small few less)
    (whole ∙ ap (λ x. x * 10 ^ u) h.value)

-- tens that are left
pub scaled_whole : (m : Mantissa) (digits : List ℕ) (u d up down power n : ℕ) → Keeps m digits → m.kept ≢ 0 → m.zeros < 2 ^ 63 → up ≡ cut (cut u + m.zeros) → down ≡ cut d → (u ≡ 0) ⊎ (d < 2 ^ 63) → down ≤ up → power ≡ min (up - down) 20 → n ≡ cut (m.kept * 10 ^ power) → (exact : ℕ) × IsTheWhole (record { mantissa = digits_value 10 digits; up = u; down = d }) exact × (n ≡ cut exact)
scaled_whole m digits u d up down power n h some few up_is down_is small more power_is n_is =
    let left = up_left m.zeros u d up down up_is down_is small few more in (
      h.core * 10 ^ left.0,
      whole_at h.core m.zeros u d left.0 left.1 ∙ ap (λ x. x * 10 ^ u) (sym h.value),
      n_is ∙ cut_shifted h.core m.kept power left.0 (core_some h.core m.kept h.core_is some) h.core_is (power_is ∙ left.2),
    )

-- ---- exponents

-- an exponent multiplies or divides, and never both
pub exponent_side : (t : List ℕ) (u d : ℕ) → IsExponent t u d → (u ≡ 0) ⊎ (d ≡ 0)
exponent_side t u d no_exponent = inl refl
exponent_side t u d (exponent {power = p} mark power) = side p u d power
  where
    side : (t : List ℕ) (u d : ℕ) → IsPower t u d → (u ≡ 0) ⊎ (d ≡ 0)
    side t u d (unsigned n) = inr refl
    side t u d (positive n) = inr refl
    side t u d (negative n) = inl refl

-- ---- answers

pub answers_decimal : (text : List ℕ) (v : Scaled) (r : Read) → IsDecimal text v → Answers v r → AnswersDecimal text r
answers_decimal text v read.NotNumber h a = absurd a
answers_decimal text v read.NotWhole h a = (v, h, a)
answers_decimal text v read.OutOfRange h a = (v, h, a)
answers_decimal text v (read.Whole z) h a = (v, h, a)

pub answers_literal : (bytes : List ℕ) (v : Scaled) (r : Read) → IsLiteral (without_marks bytes) v → Answers v r → ReadsLiteral bytes r
answers_literal bytes v read.NotNumber h a = absurd a
answers_literal bytes v read.NotWhole h a = (v, h, a)
answers_literal bytes v read.OutOfRange h a = (v, h, a)
answers_literal bytes v (read.Whole z) h a = (v, h, a)
