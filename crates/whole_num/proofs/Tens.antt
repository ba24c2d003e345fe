-- Numbers that are cut at a greatest one, and products with powers of ten.
use Rattle.std.proofs.Common.{◌≡◌, ℕ, ◌+◌, ◌-◌, ◌*◌, ◌%◌, ◌^◌, ◌<◌, ◌≤◌, min, sym, ap, ◌∙◌, arith, ◌⊎◌, inl, inr}
use Rattle.std.proofs.Math.Nat.{one-le-pow, mul_assoc, mul-mod_left, eq_of_mul-eq-mul_right, mul-le-mul_right, mul-le-mul_left, le-mul_of_pos_right, pow-le-pow_right, min-eq_left, min-eq_right}
use Rattle.std.proofs.lemmas.Nat.{pow-add}
use Rattle.std.proofs.lemmas.Bool.{cases_lt}
use Rattle.whole_num.specs.Digits.{cut}

pub ten_pos : (k : ℕ) → 0 < 10 ^ k
ten_pos k = omega (arith, one-le-pow k 10 (omega arith))

-- ---- cut numbers

-- a cut factor
pub cut_times : (m v r : ℕ) → 0 < r → min (min v m * r) m ≡ min (v * r) m
cut_times m v r pos =
    elim (cases_lt m v) [ inl more ↦ both more | inr few ↦ ap (λ x. min (x * r) m) (min-eq_left few) ]
  where
    both : m < v → min (min v m * r) m ≡ min (v * r) m
    both more =
        let le : m ≤ v = omega arith in
        let a : m ≤ m * r = le-mul_of_pos_right m pos in
        let b : m * r ≤ v * r = mul-le-mul_right r le in
        ap (λ x. min (x * r) m) (min-eq_right le) ∙ min-eq_right a ∙ sym (min-eq_right (omega arith))

-- a cut part of a sum
pub cut_plus : (m x d : ℕ) → min (min x m + d) m ≡ min (x + d) m
cut_plus m x d = omega arith

-- one digit more
pub cut_digit : (m v r d : ℕ) → 0 < r → min (min (min v m * r) m + d) m ≡ min (v * r + d) m
cut_digit m v r d pos = ap (λ x. min (x + d) m) (cut_times m v r pos) ∙ cut_plus m (v * r) d

-- one power of ten more
pub cut_shift : (m n i : ℕ) → min (min (n * 10 ^ i) m * 10) m ≡ min (n * 10 ^ (i + 1)) m
cut_shift m n i =
    cut_times m (n * 10 ^ i) 10 (omega arith)
    ∙ ap (λ x. min x m) (mul_assoc n (10 ^ i) 10 ∙ ap (λ x. n * x) (sym (pow-add 10 i 1)))

-- ---- whole numbers at a power of ten

-- a number is one whole number at most
pub whole_once : (d m n k : ℕ) → n * 10 ^ d ≡ m → k * 10 ^ d ≡ m → n ≡ k
whole_once d m n k a b = eq_of_mul-eq-mul_right (10 ^ d) (ten_pos d) n k (a ∙ sym b)

-- a number that does not end in zero is divided by no more tens than it is multiplied by
pub not_whole : (core z u d n : ℕ) → 0 < core % 10 → z + u < d → n * 10 ^ d ≡ core * 10 ^ z * 10 ^ u → ⊥
not_whole core z u d n bare less e = omega (arith, ap (λ x. x % 10) whole, mul-mod_left (n * 10 ^ j) 10)
  where
    j : ℕ
    j = d - (z + u) - 1

    power : 10 ^ d ≡ 10 ^ j * 10 * 10 ^ (z + u)
    power =
        let d_is : d ≡ (j + 1) + (z + u) = omega arith in
        ap (λ x. 10 ^ x) d_is ∙ pow-add 10 (j + 1) (z + u) ∙ ap (λ x. x * 10 ^ (z + u)) (pow-add 10 j 1)

    whole : n * 10 ^ j * 10 ≡ core
    whole =
        eq_of_mul-eq-mul_right (10 ^ (z + u)) (ten_pos (z + u)) (n * 10 ^ j * 10) core
        (ap (λ x. x * 10 ^ (z + u)) (mul_assoc n (10 ^ j) 10) ∙ mul_assoc n (10 ^ j * 10) (10 ^ (z + u)) ∙ ap (λ x. n * x) (sym power) ∙ e ∙ mul_assoc core (10 ^ z) (10 ^ u) ∙ ap (λ x. core * x) (sym (pow-add 10 z u)))

-- the whole number that it is else
pub whole_at : (core z u d s : ℕ) → s + d ≡ z + u → core * 10 ^ s * 10 ^ d ≡ core * 10 ^ z * 10 ^ u
whole_at core z u d s e =
    mul_assoc core (10 ^ s) (10 ^ d) ∙ ap (λ x. core * x) (sym (pow-add 10 s d) ∙ ap (λ x. 10 ^ x) e ∙ pow-add 10 z u) ∙ sym (mul_assoc core (10 ^ z) (10 ^ u))

-- ---- exponents that were cut

pub up_lacks : (z u d up down : ℕ) → up ≡ cut (cut u + z) → down ≡ cut d → (u ≡ 0) ⊎ (d < 2 ^ 63) → z < 2 ^ 63 → up < down → z + u < d
up_lacks z u d up down a b small few less = elim small [ inl none ↦ omega arith | inr some ↦ omega arith ]

-- the tens that are left, or more than twenty of them
pub up_left : (z u d up down : ℕ) → up ≡ cut (cut u + z) → down ≡ cut d → (u ≡ 0) ⊎ (d < 2 ^ 63) → z < 2 ^ 63 → down ≤ up → (s : ℕ) × (s + d ≡ z + u) × (min (up - down) 20 ≡ min s 20)
up_left z u d up down a b small few less =
    elim small [ inl none ↦ (z + u - d, omega arith, omega arith) | inr some ↦ (z + u - d, omega arith, omega arith) ]

-- twenty tens are as good as more
pub cut_twenty : (core s : ℕ) → 0 < core → cut (core * 10 ^ min s 20) ≡ cut (core * 10 ^ s)
cut_twenty core s pos =
    elim (cases_lt 20 s) [ inl more ↦ great more | inr few ↦ ap (λ x. cut (core * 10 ^ x)) (min-eq_left few) ]
  where
    great : 20 < s → cut (core * 10 ^ min s 20) ≡ cut (core * 10 ^ s)
    great more =
        let le : 20 ≤ s = omega arith in
        let a : 10 ^ 20 ≤ core * 10 ^ 20 = omega (arith, mul-le-mul_right (10 ^ 20) pos) in
        let b : core * 10 ^ 20 ≤ core * 10 ^ s = mul-le-mul_left core (pow-le-pow_right (omega arith) le) in
        ap (λ x. cut (core * 10 ^ x)) (min-eq_right le) ∙ (let c : cut (core * 10 ^ 20) ≡ cut (core * 10 ^ s) = omega arith in c)

-- a shifted number that was cut before
pub cut_shifted : (core kept up s : ℕ) → 0 < core → kept ≡ cut core → up ≡ min s 20 → cut (kept * 10 ^ up) ≡ cut (core * 10 ^ s)
cut_shifted core kept up s pos k u =
    ap (λ x. cut (x * 10 ^ up)) k ∙ cut_times (2 ^ 64 - 1) core (10 ^ up) (ten_pos up) ∙ ap (λ x. cut (core * 10 ^ x)) u ∙ cut_twenty core s pos
