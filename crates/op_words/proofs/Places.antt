-- An instruction that stands at a place is read there, and what is read stands there.
use Rattle.std.proofs.Common.{◌≡◌, refl, sym, ap, ◌∙◌, subst, ℕ, zero, suc, add-one, ◌+◌, ◌^◌, ◌<◌, ◌≤◌, List, [], ◌∷◌, ◌++◌, length, drop, Option, Some, None, arith, FitsSigned}
use Rattle.std.specs.Prelude.{slice_get, slice_index, option_to_list, IfSome}
use Rattle.std.specs.Int.{w16}
use Rattle.std.proofs.lemmas.List.{get_or-drop, length-drop, drop-drop}
use Rattle.op_words.specs.declared.insn.Insn.{Insn}
use Rattle.op_words.specs.declared.encoding.Fields.{Fields}
use Rattle.op_words.specs.declared.encoding.Fields.TheVariants.{Abc, Ad, E}
use Rattle.op_words.specs.declared.decoding.Parts.{Parts}
use Rattle.op_words.specs.Encoding.{packed, row, word_of, encoded, FieldsFit, IsFar, IsFit}
use Rattle.op_words.specs.Decoding.{signed, ArePartsOf, insn_of, StandsAt}
use Rattle.op_words.proofs.Packing.{narrow_unpacked, narrow_packed, wide_unpacked, wide_packed, whole_unpacked, whole_packed, signed_fits, far_fits}
use Rattle.op_words.proofs.Rows.{following, parts_with, same_parts, insn_of-parts, parts-insn_of, opcode_fits}

-- the parts of a word are the fields that it was packed of
unpacked : (word : ℕ) (x : Option ℕ) (p : Parts) (o : ℕ) (fields : Fields) (aux : Option ℕ) → ArePartsOf word x p → o < 2 ^ 8 → FieldsFit fields → packed o fields ≡ word → following aux x ≡ x → parts_with o fields aux p ≡ p
unpacked word x p o (Abc a b c) aux parts f fit e n =
    let has = narrow_unpacked word x p o a b c parts f fit.0 fit.1 fit.2 e in
    same_parts p o a b c p.d p.e (following aux p.aux) has.opcode has.a has.b has.c refl refl (ap (following aux) parts.aux ∙ n ∙ sym parts.aux)
unpacked word x p o (Ad a d) aux parts f fit e n =
    let has = wide_unpacked word x p o a d parts f fit.0 fit.1 e in
    same_parts p o a p.b p.c d p.e (following aux p.aux) has.opcode has.a refl refl has.d refl (ap (following aux) parts.aux ∙ n ∙ sym parts.aux)
unpacked word x p o (E e) aux parts f fit same n =
    let has = whole_unpacked word x p o e parts f fit same in
    same_parts p o p.a p.b p.c p.d e (following aux p.aux) has.opcode refl refl refl refl has.e (ap (following aux) parts.aux ∙ n ∙ sym parts.aux)

-- the fields that are a word's parts are packed into it, and fit
repacked : (word : ℕ) (x : Option ℕ) (p : Parts) (o : ℕ) (fields : Fields) (aux : Option ℕ) → ArePartsOf word x p → parts_with o fields aux p ≡ p → packed o fields ≡ word
repacked word x p o (Abc a b c) aux parts e =
    narrow_packed word x p o a b c parts (record {
      opcode = ap (λ q. q.opcode) e;
      a = ap (λ q. q.a) e;
      b = ap (λ q. q.b) e;
      c = ap (λ q. q.c) e;
    })
repacked word x p o (Ad a d) aux parts e =
    wide_packed word x p o a d parts (record { opcode = ap (λ q. q.opcode) e; a = ap (λ q. q.a) e; d = ap (λ q. q.d) e })
repacked word x p o (E n) aux parts e =
    whole_packed word x p o n parts (record { opcode = ap (λ q. q.opcode) e; e = ap (λ q. q.e) e })

fields_fit : (word : ℕ) (x : Option ℕ) (p : Parts) (o : ℕ) (fields : Fields) (aux : Option ℕ) → ArePartsOf word x p → parts_with o fields aux p ≡ p → FieldsFit fields
fields_fit word x p o (Abc a b c) aux parts e =
    let first = ap (λ q. q.a) e in
    let second = ap (λ q. q.b) e in
    let third = ap (λ q. q.c) e in
    (omega (arith, first), omega (arith, second), omega (arith, third))
fields_fit word x p o (Ad a d) aux parts e =
    let first = ap (λ q. q.a) e in
    let half : d ≡ signed p.b p.c = ap (λ q. q.d) e ∙ parts.d in
    (omega (arith, first), subst (λ z. FitsSigned w16 z) (sym half) (signed_fits p.b p.c parts.b parts.c))
fields_fit word x p o (E n) aux parts e =
    subst (λ z. IsFar z) (sym (ap (λ q. q.e) e ∙ parts.e)) (far_fits p.a p.b p.c parts.a parts.b parts.c)

-- ---- the words behind the first

heads : (x y : ℕ) (xs ys : List ℕ) → x ∷ xs ≡ y ∷ ys → x ≡ y
heads x y xs ys e = cc

tails : (x y : ℕ) (xs ys : List ℕ) → x ∷ xs ≡ y ∷ ys → xs ≡ ys
tails x y xs ys e = cc

-- the second word follows where one is spelled
aux_follows : (aux : Option ℕ) (tail rest : List ℕ) → tail ≡ option_to_list aux ++ rest → following aux (slice_get tail 0) ≡ slice_get tail 0
aux_follows None tail rest e = refl
aux_follows (Some x) tail rest e = sym (ap (λ ws. slice_get ws 0) e)

-- a second word that follows is spelled there, and fits
pub record Spells (aux : Option ℕ) (tail : List ℕ) : Type 0 where
  pub fits : IfSome aux (λ x. x < 2 ^ 32)
  pub spelled : tail ≡ option_to_list aux ++ drop (length (option_to_list aux)) tail
  pub within : length (option_to_list aux) ≤ length tail

aux_spelled : (aux : Option ℕ) (tail : List ℕ) → ((i : ℕ) → slice_index tail i < 2 ^ 32) → following aux (slice_get tail 0) ≡ slice_get tail 0 → Spells aux tail
aux_spelled None tail f e = record { fits = tt; spelled = refl; within = omega arith }
aux_spelled (Some x) [] f e = cc
aux_spelled (Some x) (w ∷ ws) f e =
    let same : w ≡ x = cc in
    record {
      fits = let small = f 0 in omega (arith, small);
      spelled = ap (λ v. v ∷ ws) same;
      within = omega arith;
    }

aux_with : (o : ℕ) (fields : Fields) (aux : Option ℕ) (p : Parts) → (parts_with o fields aux p).aux ≡ following aux p.aux
aux_with o (Abc a b c) aux p = refl
aux_with o (Ad a d) aux p = refl
aux_with o (E e) aux p = refl

-- ---- in front

pub first_read : (word : ℕ) (tail rest : List ℕ) (p : Parts) (insn : Insn) → ArePartsOf word (slice_get tail 0) p → IsFit insn → word ∷ tail ≡ encoded insn ++ rest → insn_of p ≡ Some insn
first_read word tail rest p insn parts fit e =
    let r = row insn in
    let more = option_to_list r.aux ++ rest in
    let first : word_of r ≡ word = sym (heads word (word_of r) tail more e) in
    let behind : tail ≡ more = tails word (word_of r) tail more e in
    insn_of-parts insn p (unpacked word (slice_get tail 0) p r.opcode r.fields r.aux parts (opcode_fits insn) fit.fields first (aux_follows r.aux tail rest behind))

-- the instruction stands in front, in so many words
pub record StandsFirst (words : List ℕ) (insn : Insn) : Type 0 where
  pub fit : IsFit insn
  pub spelled : words ≡ encoded insn ++ drop (length (encoded insn)) words
  pub within : length (encoded insn) ≤ length words

pub first_stands : (word : ℕ) (tail : List ℕ) (p : Parts) (insn : Insn) → ArePartsOf word (slice_get tail 0) p → ((i : ℕ) → slice_index tail i < 2 ^ 32) → insn_of p ≡ Some insn → StandsFirst (word ∷ tail) insn
first_stands word tail p insn parts f e =
    let r = row insn in
    let has = parts-insn_of p insn e in
    let first : word_of r ≡ word = repacked word (slice_get tail 0) p r.opcode r.fields r.aux parts has in
    let follows : following r.aux (slice_get tail 0) ≡ slice_get tail 0 = ap (following r.aux) (sym parts.aux) ∙ sym (aux_with r.opcode r.fields r.aux p) ∙ ap (λ q. q.aux) has ∙ parts.aux in
    let second = aux_spelled r.aux tail f follows in
    record {
      fit = record {
        fields = fields_fit word (slice_get tail 0) p r.opcode r.fields r.aux parts has;
        aux = second.fits;
      };
      spelled = ap (λ w. w ∷ tail) (sym first) ∙ ap (λ ws. word_of r ∷ ws) second.spelled;
      within = let rest = second.within in omega (arith, rest);
    }

-- ---- at a place

pub first_get : (words : List ℕ) (at : ℕ) → slice_get words at ≡ slice_get (drop at words) 0
first_get [] zero = refl
first_get [] (suc at) = refl
first_get (w ∷ ws) zero = refl
first_get (w ∷ ws) (suc at) = first_get ws at

drop_get : (words : List ℕ) (at word : ℕ) → slice_get words at ≡ Some word → drop at words ≡ word ∷ drop (suc at) words
drop_get [] at word e = cc
drop_get (w ∷ ws) zero word e = let h : w ≡ word = cc in ap (λ x. x ∷ ws) h
drop_get (w ∷ ws) (suc at) word e = drop_get ws at word e

-- what follows a word's place stands in front of what is left
behind : (words : List ℕ) (at word : ℕ) (p : Parts) → ArePartsOf word (slice_get words (at + 1)) p → ArePartsOf word (slice_get (drop (suc at) words) 0) p
behind words at word p parts =
    subst (λ x. ArePartsOf word x p) (first_get words (at + 1) ∙ ap (λ n. slice_get (drop n words) 0) (add-one at)) parts

-- no instruction stands where no word does
pub none_encoded : (words : List ℕ) (at : ℕ) (insn : Insn) (rest : List ℕ) → slice_get words at ≡ None → drop at words ≡ encoded insn ++ rest → ⊥
none_encoded words at insn rest e spelled =
    let gone : slice_get (encoded insn ++ rest) 0 ≡ None = ap (λ ws. slice_get ws 0) (sym spelled) ∙ sym (first_get words at) ∙ e in
    cc

-- an instruction that stands at a place is read there
pub insn_of-encoded : (words : List ℕ) (at word : ℕ) (p : Parts) (insn : Insn) (rest : List ℕ) → slice_get words at ≡ Some word → ArePartsOf word (slice_get words (at + 1)) p → IsFit insn → drop at words ≡ encoded insn ++ rest → insn_of p ≡ Some insn
insn_of-encoded words at word p insn rest e parts fit spelled =
    first_read word (drop (suc at) words) rest p insn (behind words at word p parts) fit (sym (drop_get words at word e) ∙ spelled)

-- what is read at a place stands there
pub stands-insn_of : (words : List ℕ) (at word : ℕ) (p : Parts) (insn : Insn) → ((i : ℕ) → slice_index words i < 2 ^ 32) → slice_get words at ≡ Some word → ArePartsOf word (slice_get words (at + 1)) p → insn_of p ≡ Some insn → StandsAt words at insn (at + length (encoded insn))
stands-insn_of words at word p insn f e parts read =
    let first = first_stands word (drop (suc at) words) p insn (behind words at word p parts) (λ i. rw get_or-drop (f (suc at + i))) read in
    let there : StandsFirst (drop at words) insn = subst (λ ws. StandsFirst ws insn) (sym (drop_get words at word e)) first in
    record {
      fit = there.fit;
      spelled = there.spelled ∙ ap (λ ws. encoded insn ++ ws) (drop-drop (length (encoded insn)) at words);
      there = refl;
      within = omega (arith, there.within, length-drop at words);
    }
