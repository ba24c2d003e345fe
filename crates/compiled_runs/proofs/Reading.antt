-- What the machine reads in linked code: each item's instruction, with the place behind it, and where each jump leads.
use Rattle.std.proofs.Common.{◌≡◌, ℕ, ◌+◌, ◌≤◌, ℤ, pos, negsuc, ◌+ℤ◌, List, [], ◌∷◌, ◌++◌, length, Option, Some, refl, sym, ap, ◌∙◌, arith, subst}
use Rattle.std.specs.Prelude.{FitsSigned, IsTrue}
use Rattle.std.specs.Int.{w16}
use Rattle.std.proofs.lemmas.Int.{ints}
use Rattle.std.proofs.lemmas.Option.{same_Some}
use Rattle.op_words.specs.declared.insn.Insn.{Insn as Instruction}
use Rattle.op_words.specs.declared.insn.Insn.TheVariants.{Jump, JumpBack, JumpIf, JumpIfNot, JumpIfEq, JumpIfLe, JumpIfLt, JumpIfNotEq, JumpIfNotLe, JumpIfNotLt, ForNPrep, ForNLoop, ForGPrep, ForGLoop, JumpXEqKNil, JumpXEqKB, JumpXEqKN, JumpXEqKS}
use Rattle.op_words.specs.Encoding.{encoded, IsFit}
use Rattle.op_words.specs.Decoding.{insn_at}
use Rattle.op_words.proofs.InsnAt.{insn_at-stands}
use Rattle.code_link.specs.declared.item.Item.{Item}
use Rattle.code_link.specs.declared.item.Item.TheVariants.{Insn, Branch, Label}
use Rattle.code_link.specs.Labels.{is_jump, word_count, place_in}
use Rattle.code_link.specs.Linking.{jumping, JumpsTo, Stands, IsLinked}
use Rattle.code_link.proofs.Placing.{length-jumping}
use Rattle.code_simulation.proofs.Parts.{Forward}
use Rattle.code_simulation.proofs.Blocks.{Backward}

-- each field of each instruction fits its bits, of a branch with the distance that it names before it is linked
abbrev pub AllFit : List Item → Type 0
AllFit [] = Unit {0}
AllFit (Insn i ∷ is) = IsFit i × AllFit is
AllFit (Branch i l ∷ is) = IsFit i × AllFit is
AllFit (Label l ∷ is) = AllFit is

-- a jump is read there, and it leads to the label's place
pub record ReadsJump (words : List ℕ) (at : ℕ) (i : Instruction) (to : Option ℕ) : Type 0 where
  pub by : ℤ
  pub target : ℕ
  pub placed : to ≡ Some target
  pub reaches : pos (at + 1) +ℤ by ≡ pos target
  pub read : insn_at words at ≡ Some (jumping i by, at + length (encoded i))

-- the items are read from a place on
abbrev pub AreRead : List ℕ → (place : ℕ → Option ℕ) → (from : ℕ) → List Item → Type 0
AreRead words place from [] = Unit {0}
AreRead words place from (Insn i ∷ is) =
    (insn_at words from ≡ Some (i, from + length (encoded i))) × AreRead words place (from + length (encoded i)) is
AreRead words place from (Branch i l ∷ is) =
    ReadsJump words from i (place l) × AreRead words place (from + length (encoded i)) is
AreRead words place from (Label l ∷ is) = (place l ≡ Some from) × AreRead words place from is

fits_jumping : (i : Instruction) (by : ℤ) → IsTrue (is_jump i) → IsFit i → FitsSigned w16 by → IsFit (jumping i by)
fits_jumping (Jump _) by jump fit f = record { fields = (fit.fields.0, f); aux = fit.aux }
fits_jumping (JumpBack _) by jump fit f = record { fields = (fit.fields.0, f); aux = fit.aux }
fits_jumping (JumpIf value _) by jump fit f = record { fields = (fit.fields.0, f); aux = fit.aux }
fits_jumping (JumpIfNot value _) by jump fit f = record { fields = (fit.fields.0, f); aux = fit.aux }
fits_jumping (JumpIfEq left _ right) by jump fit f = record { fields = (fit.fields.0, f); aux = fit.aux }
fits_jumping (JumpIfLe left _ right) by jump fit f = record { fields = (fit.fields.0, f); aux = fit.aux }
fits_jumping (JumpIfLt left _ right) by jump fit f = record { fields = (fit.fields.0, f); aux = fit.aux }
fits_jumping (JumpIfNotEq left _ right) by jump fit f = record { fields = (fit.fields.0, f); aux = fit.aux }
fits_jumping (JumpIfNotLe left _ right) by jump fit f = record { fields = (fit.fields.0, f); aux = fit.aux }
fits_jumping (JumpIfNotLt left _ right) by jump fit f = record { fields = (fit.fields.0, f); aux = fit.aux }
fits_jumping (ForNPrep base _) by jump fit f = record { fields = (fit.fields.0, f); aux = fit.aux }
fits_jumping (ForNLoop base _) by jump fit f = record { fields = (fit.fields.0, f); aux = fit.aux }
fits_jumping (ForGPrep base _) by jump fit f = record { fields = (fit.fields.0, f); aux = fit.aux }
fits_jumping (ForGLoop base _ variables) by jump fit f = record { fields = (fit.fields.0, f); aux = fit.aux }
fits_jumping (JumpXEqKNil value _ test) by jump fit f = record { fields = (fit.fields.0, f); aux = fit.aux }
fits_jumping (JumpXEqKB value _ test) by jump fit f = record { fields = (fit.fields.0, f); aux = fit.aux }
fits_jumping (JumpXEqKN value _ test) by jump fit f = record { fields = (fit.fields.0, f); aux = fit.aux }
fits_jumping (JumpXEqKS value _ test) by jump fit f = record { fields = (fit.fields.0, f); aux = fit.aux }
fits_jumping i by jump fit f = cc

reads_jump : (words : List ℕ) (at : ℕ) (i : Instruction) (to : Option ℕ) → IsFit i → JumpsTo words at i to → ReadsJump words at i to
reads_jump words at i to fit j =
    record {
      by = j.by;
      target = j.target;
      placed = j.placed;
      reaches = j.reaches;
      read = insn_at-stands words at (jumping i j.by) (fits_jumping i j.by j.jump fit j.fits) j.words
          ∙ ap (λ n. Some (jumping i j.by, at + n)) (length-jumping i j.by);
    }

-- what stands in the code is read
are_read : (words : List ℕ) (place : ℕ → Option ℕ) (from : ℕ) (items : List Item) (to : ℕ) → AllFit items
    → Stands words place from items to → AreRead words place from items
are_read words place from [] to fit st = tt
are_read words place from (Insn i ∷ is) to fit st =
    (insn_at-stands words from i fit.0 st.0, are_read words place (from + length (encoded i)) is to fit.1 st.1)
are_read words place from (Branch i l ∷ is) to fit st =
    (reads_jump words from i (place l) fit.0 st.0, are_read words place (from + length (encoded i)) is to fit.1 st.1)
are_read words place from (Label l ∷ is) to fit st = (st.0, are_read words place from is to fit st.1)

pub linked_read : (items : List Item) (words : List ℕ) → AllFit items → IsLinked items words → AreRead words (place_in items 0) 0 items
linked_read items words fit st = are_read words (place_in items 0) 0 items (length words) fit st

-- behind the first of some items
pub read_behind : (words : List ℕ) (place : ℕ → Option ℕ) (a b : List Item) (from : ℕ) → AreRead words place from (a ++ b)
    → AreRead words place (from + word_count a) b
read_behind words place [] b from r = let e : from ≡ from + 0 = omega arith in subst (λ n. AreRead words place n b) e r
read_behind words place (Insn i ∷ a) b from r =
    let e : from + length (encoded i) + word_count a ≡ from + (length (encoded i) + word_count a) = omega arith in
    subst (λ n. AreRead words place n b) e (read_behind words place a b (from + length (encoded i)) r.1)
read_behind words place (Branch i l ∷ a) b from r =
    let e : from + length (encoded i) + word_count a ≡ from + (length (encoded i) + word_count a) = omega arith in
    subst (λ n. AreRead words place n b) e (read_behind words place a b (from + length (encoded i)) r.1)
read_behind words place (Label l ∷ a) b from r = read_behind words place a b from r.1

pub words_more : (a b : List Item) → word_count (a ++ b) ≡ word_count a + word_count b
words_more [] b = omega arith
words_more (Insn i ∷ a) b = omega (arith, words_more a b)
words_more (Branch i l ∷ a) b = omega (arith, words_more a b)
words_more (Label l ∷ a) b = words_more a b

-- two names of a label's place
pub same_place : (o : Option ℕ) (p q : ℕ) → o ≡ Some p → o ≡ Some q → p ≡ q
same_place o p q e d = same_Some p q (sym e ∙ d)

-- ---- where a jump leads

-- a jump to a place behind it
pub leads_on : (words : List ℕ) (at : ℕ) (i : Instruction) (to : Option ℕ) (target : ℕ) (j : ReadsJump words at i to) → to ≡ Some target
    → at + 1 ≤ target → Forward at j.by target
leads_on words at i to target j e le = on j.by refl
  where
    there : j.target ≡ target
    there = same_place to j.target target j.placed e

    on : (z : ℤ) → j.by ≡ z → Forward at j.by target
    on (pos k) is = record {
      words = k;
      by_words = is;
      reaches =
          let r : pos (at + 1) +ℤ pos k ≡ pos target = ap (λ x. pos (at + 1) +ℤ x) (sym is) ∙ j.reaches ∙ ap pos there in omega (arith, ints, r);
    }
    on (negsuc k) is =
        let r : pos (at + 1) +ℤ negsuc k ≡ pos target = ap (λ x. pos (at + 1) +ℤ x) (sym is) ∙ j.reaches ∙ ap pos there in
        absurd (omega (arith, ints, r, le))

-- a jump to any place
pub leads_to : (words : List ℕ) (at : ℕ) (i : Instruction) (to : Option ℕ) (target : ℕ) (j : ReadsJump words at i to) → to ≡ Some target
    → Backward at j.by target
leads_to words at i to target j e = j.reaches ∙ ap pos (same_place to j.target target j.placed e)
