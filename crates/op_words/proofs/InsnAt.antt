-- What `insn_at` reads at a place.
use Rattle.std.proofs.Common.{◌≡◌, refl, sym, ap, ◌∙◌, ℕ, ◌+◌, ◌^◌, ◌<◌, ◌/◌, ◌%◌, List, ◌++◌, length, drop, Option, Some, option_map, arith}
use Rattle.std.specs.Prelude.{slice_get}
use Rattle.std.specs.Int.{w16, cast_unsigned}
use Rattle.std.proofs.Math.Facts.{Fits-lt-pow, Fits-of_z}
use Rattle.op_words.specs.declared.insn.Insn.{Insn}
use Rattle.op_words.specs.declared.encoding.Fields.{Fields}
use Rattle.op_words.specs.declared.encoding.Fields.TheVariants.{Abc, Ad, E}
use Rattle.op_words.specs.declared.decoding.Parts.{Parts}
use Rattle.op_words.specs.Encoding.{packed, row, word_of, encoded, FieldsFit, IsFit}
use Rattle.op_words.specs.Decoding.{signed, far_signed, ArePartsOf, parts_of, with_next, insn_of, insn_at}
use Rattle.op_words.proofs.Rows.{same_parts, opcode_fits}
use Rattle.op_words.proofs.Places.{first_get, insn_of-encoded}

-- ---- the parts of a word

parts_are : (word : ℕ) (x : Option ℕ) → word < 2 ^ 32 → ArePartsOf word x (parts_of word x)
parts_are word x f = record {
  bytes = omega arith;
  opcode = omega arith;
  a = omega arith;
  b = omega arith;
  c = omega arith;
  d = refl;
  e = refl;
  aux = refl;
}

second_byte : (p : Parts) (word : ℕ) (x : Option ℕ) → ArePartsOf word x p → word / 2 ^ 16 % 2 ^ 8 ≡ p.b
second_byte p word x parts = omega arith

third_byte : (p : Parts) (word : ℕ) (x : Option ℕ) → ArePartsOf word x p → word / 2 ^ 24 % 2 ^ 8 ≡ p.c
third_byte p word x parts = omega arith

first_byte : (p : Parts) (word : ℕ) (x : Option ℕ) → ArePartsOf word x p → word / 2 ^ 8 % 2 ^ 8 ≡ p.a
first_byte p word x parts = omega arith

far_same : (a b c p q r : ℕ) → a ≡ p → b ≡ q → c ≡ r → far_signed a b c ≡ far_signed p q r
far_same a b c p q r f g h = ap (λ n. far_signed n b c) f ∙ ap (λ n. far_signed p n c) g ∙ ap (far_signed p q) h

pub parts_same : (word : ℕ) (x : Option ℕ) (p : Parts) → ArePartsOf word x p → parts_of word x ≡ p
parts_same word x p parts =
    let a = first_byte p word x parts in
    let b = second_byte p word x parts in
    let c = third_byte p word x parts in
    let q = parts_of word x in
    same_parts p q.opcode q.a q.b q.c q.d q.e x (omega arith) a b c
    (ap (λ n. signed n q.c) b ∙ ap (signed p.b) c ∙ sym parts.d)
    (far_same q.a q.b q.c p.a p.b p.c a b c ∙ sym parts.e)
    (sym parts.aux)

-- ---- at a place

-- a word stands at the place, and these are its parts
pub insn_at-parts : (code : List ℕ) (at word : ℕ) (p : Parts) → slice_get code at ≡ Some word → ArePartsOf word (slice_get code (at + 1)) p → insn_at code at ≡ option_map (with_next at) (insn_of p)
insn_at-parts code at word p e parts =
    let there : insn_at code at ≡ option_map (with_next at) (insn_of (parts_of word (slice_get code (at + 1)))) = rw e refl in
    there ∙ ap (λ q. option_map (with_next at) (insn_of q)) (parts_same word (slice_get code (at + 1)) p parts)

packed_fits : (o : ℕ) (fields : Fields) → o < 2 ^ 8 → FieldsFit fields → packed o fields < 2 ^ 32
packed_fits o (Abc a b c) f fit = omega arith
packed_fits o (Ad a d) f fit =
    let low : cast_unsigned w16 d < 2 ^ 16 = Fits-lt-pow (Fits-of_z fit.1) in
    let first = fit.0 in
    omega (arith, low, first)
packed_fits o (E e) f fit = omega arith

-- an instruction whose words stand at the place is read there
pub insn_at-encoded : (code : List ℕ) (at : ℕ) (i : Insn) (rest : List ℕ) → IsFit i → drop at code ≡ encoded i ++ rest → insn_at code at ≡ Some (i, at + length (encoded i))
insn_at-encoded code at i rest fit spelled =
    let word = word_of (row i) in
    let there : slice_get code at ≡ Some word = first_get code at ∙ ap (λ ws. slice_get ws 0) spelled in
    let parts = parts_are word (slice_get code (at + 1)) (packed_fits (row i).opcode (row i).fields (opcode_fits i) fit.fields) in
    let p = parts_of word (slice_get code (at + 1)) in
    insn_at-parts code at word p there parts
    ∙ ap (option_map (with_next at)) (insn_of-encoded code at word p i rest there parts fit spelled)

-- the same, where what follows is the rest of the code
pub insn_at-stands : (code : List ℕ) (at : ℕ) (i : Insn) → IsFit i → drop at code ≡ encoded i ++ drop (at + length (encoded i)) code → insn_at code at ≡ Some (i, at + length (encoded i))
insn_at-stands code at i fit spelled =
    insn_at-encoded code at i (drop (at + length (encoded i)) code) fit spelled
