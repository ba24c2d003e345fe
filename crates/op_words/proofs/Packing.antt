-- A word's fields, in each layout, are those that it was packed of.
use Rattle.std.proofs.Common.{◌≡◌, refl, sym, ap, ◌∙◌, ℕ, suc, ◌+◌, ◌-◌, ◌*◌, ◌^◌, ◌<◌, ◌≤◌, ℤ, pos, negsuc, Bool, true, false, nat_lt, if◌then◌else◌, [], ◌∷◌, Option, arith, FitsSigned}
use Rattle.std.specs.Int.{w16, cast_signed, cast_unsigned, from_le_bytes}
use Rattle.std.proofs.lemmas.Bool.{ltb-true, lt-ltb, ltb-false, le-ltb}
use Rattle.std.proofs.lemmas.Int.{to_z-of_z, of_z-to_z}
use Rattle.std.proofs.Math.Facts.{Fits-lt-pow, Fits-of_lt, Fits-of_z, sfits_to_z}
use Rattle.op_words.specs.declared.decoding.Parts.{Parts}
use Rattle.op_words.specs.Encoding.{narrow, wide, whole, low_bits, IsFar}
use Rattle.op_words.specs.Decoding.{signed, far_signed, ArePartsOf}

-- the word's fields A, B and C
pub record HasNarrow (p : Parts) (o x y z : ℕ) : Type 0 where
  pub opcode : o ≡ p.opcode
  pub a : x ≡ p.a
  pub b : y ≡ p.b
  pub c : z ≡ p.c

-- the word's fields A and D
pub record HasWide (p : Parts) (o x : ℕ) (y : ℤ) : Type 0 where
  pub opcode : o ≡ p.opcode
  pub a : x ≡ p.a
  pub d : y ≡ p.d

pub narrow_unpacked : (word : ℕ) (x : Option ℕ) (p : Parts) (o a b c : ℕ) → ArePartsOf word x p → o < 2 ^ 8 → a < 2 ^ 8 → b < 2 ^ 8 → c < 2 ^ 8 → narrow o a b c ≡ word → HasNarrow p o a b c
narrow_unpacked word x p o a b c parts f g h i e =
    record { opcode = omega arith; a = omega arith; b = omega arith; c = omega arith }

pub narrow_packed : (word : ℕ) (x : Option ℕ) (p : Parts) (o a b c : ℕ) → ArePartsOf word x p → HasNarrow p o a b c → narrow o a b c ≡ word
narrow_packed word x p o a b c parts has = omega arith

pub wide_unpacked : (word : ℕ) (x : Option ℕ) (p : Parts) (o a : ℕ) (d : ℤ) → ArePartsOf word x p → o < 2 ^ 8 → a < 2 ^ 8 → FitsSigned w16 d → wide o a d ≡ word → HasWide p o a d
wide_unpacked word x p o a d parts f g fits e =
    let low : cast_unsigned w16 d < 2 ^ 16 = Fits-lt-pow (Fits-of_z fits) in
    let field : from_le_bytes w16 (p.b ∷ p.c ∷ []) ≡ cast_unsigned w16 d = omega arith in
    record {
      opcode = omega arith;
      a = omega arith;
      d = sym (parts.d ∙ ap (cast_signed w16) field ∙ to_z-of_z w16 d fits);
    }

-- the upper half of a word is its signed field
wide_signed : (o a b c : ℕ) → b < 2 ^ 8 → c < 2 ^ 8 → wide o a (signed b c) ≡ narrow o a b c
wide_signed o a b c f g =
    let e = of_z-to_z w16 (from_le_bytes w16 (b ∷ c ∷ [])) (omega arith) in
    omega (arith, e)

pub wide_packed : (word : ℕ) (x : Option ℕ) (p : Parts) (o a : ℕ) (d : ℤ) → ArePartsOf word x p → HasWide p o a d → wide o a d ≡ word
wide_packed word x p o a d parts has =
    let half = wide_signed o a p.b p.c parts.b parts.c in
    let same : wide o a d ≡ wide o a (signed p.b p.c) = ap (wide o a) (has.d ∙ parts.d) in
    same ∙ half ∙ narrow_packed word x p o a p.b p.c parts (record { opcode = has.opcode; a = has.a; b = omega arith; c = omega arith })

-- the signed number of two bytes fits
pub signed_fits : (b c : ℕ) → b < 2 ^ 8 → c < 2 ^ 8 → FitsSigned w16 (signed b c)
signed_fits b c f g = sfits_to_z {w = w16} (Fits-of_lt {w = w16} {n = from_le_bytes w16 (b ∷ c ∷ [])} (omega arith))

-- ---- the field E

-- the word's field E
pub record HasWhole (p : Parts) (o : ℕ) (y : ℤ) : Type 0 where
  pub opcode : o ≡ p.opcode
  pub e : y ≡ p.e

-- so many bits as a signed number
abbrev far_number : (small : Bool) → ℕ → ℤ
far_number small n = if small then pos n else negsuc (2 ^ 24 - suc n)

far_read : (n : ℕ) (e : ℤ) → n < 2 ^ 24 → IsFar e → low_bits e ≡ n → far_number (nat_lt n (2 ^ 23)) n ≡ e
far_read n (pos m) f far same =
    let less : n < 2 ^ 23 = omega (arith, far, same) in
    let is : n ≡ m = omega (arith, far, same) in
    ap (λ t. far_number t n) (lt-ltb n (2 ^ 23) less) ∙ ap pos is
far_read n (negsuc m) f far same =
    let more : 2 ^ 23 ≤ n = omega (arith, far, same) in
    let is : 2 ^ 24 - suc n ≡ m = omega (arith, far, same) in
    ap (λ t. far_number t n) (le-ltb n (2 ^ 23) more) ∙ ap negsuc is

far_written : (small : Bool) (n : ℕ) → n < 2 ^ 24 → low_bits (far_number small n) ≡ n
far_written true n f = omega arith
far_written false n f = omega arith

far_within : (small : Bool) (n : ℕ) → nat_lt n (2 ^ 23) ≡ small → n < 2 ^ 24 → IsFar (far_number small n)
far_within true n e f = ltb-true n (2 ^ 23) e
far_within false n e f = let more : 2 ^ 23 ≤ n = ltb-false n (2 ^ 23) e in omega (arith, more, f)

-- three bytes of a signed number that has 24 bits
far_of : (a b c : ℕ) (e : ℤ) → a < 2 ^ 8 → b < 2 ^ 8 → c < 2 ^ 8 → IsFar e → low_bits e ≡ a + 2 ^ 8 * b + 2 ^ 16 * c → far_signed a b c ≡ e
far_of a b c e f g h far same = far_read (a + 2 ^ 8 * b + 2 ^ 16 * c) e (omega (arith, f, g, h)) far same

far_low : (a b c : ℕ) → a < 2 ^ 8 → b < 2 ^ 8 → c < 2 ^ 8 → low_bits (far_signed a b c) ≡ a + 2 ^ 8 * b + 2 ^ 16 * c
far_low a b c f g h =
    let n = a + 2 ^ 8 * b + 2 ^ 16 * c in
    far_written (nat_lt n (2 ^ 23)) n (omega (arith, f, g, h))

pub far_fits : (a b c : ℕ) → a < 2 ^ 8 → b < 2 ^ 8 → c < 2 ^ 8 → IsFar (far_signed a b c)
far_fits a b c f g h =
    let n = a + 2 ^ 8 * b + 2 ^ 16 * c in
    far_within (nat_lt n (2 ^ 23)) n refl (omega (arith, f, g, h))

low_small : (e : ℤ) → low_bits e < 2 ^ 24
low_small e = omega arith

pub whole_unpacked : (word : ℕ) (x : Option ℕ) (p : Parts) (o : ℕ) (e : ℤ) → ArePartsOf word x p → o < 2 ^ 8 → IsFar e → whole o e ≡ word → HasWhole p o e
whole_unpacked word x p o e parts f far same =
    let small = low_small e in
    let bytes : low_bits e ≡ p.a + 2 ^ 8 * p.b + 2 ^ 16 * p.c = omega arith in
    record { opcode = omega arith; e = sym (parts.e ∙ far_of p.a p.b p.c e parts.a parts.b parts.c far bytes) }

pub whole_packed : (word : ℕ) (x : Option ℕ) (p : Parts) (o : ℕ) (e : ℤ) → ArePartsOf word x p → HasWhole p o e → whole o e ≡ word
whole_packed word x p o e parts has =
    let low : low_bits e ≡ p.a + 2 ^ 8 * p.b + 2 ^ 16 * p.c = ap low_bits (has.e ∙ parts.e) ∙ far_low p.a p.b p.c parts.a parts.b parts.c in
    omega (arith, low, has.opcode)
