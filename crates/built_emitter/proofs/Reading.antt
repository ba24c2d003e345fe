-- What the machine reads in linked code: each item's instruction, with the place behind it, and where each jump leads.
use Rattle.std.proofs.Common.{◌≡◌, ℕ, ◌+◌, ◌≤◌, ℤ, pos, negsuc, ◌+ℤ◌, List, [], ◌∷◌, ◌++◌, length, map, Option, Some, refl, sym, ap, ◌∙◌, arith}
use Rattle.std.proofs.lemmas.Int.{ints}
use Rattle.std.proofs.lemmas.Option.{same_Some}
use Rattle.op_words.specs.declared.insn.Insn.{Insn as Instruction}
use Rattle.op_words.specs.Encoding.{encoded, IsFit}
use Rattle.op_words.specs.Decoding.{insn_at}
use Rattle.op_words.proofs.InsnAt.{insn_at-stands}
use Rattle.code_link.specs.declared.item.Item.{Item}
use Rattle.code_link.specs.declared.item.Item.TheVariants.{Insn, Branch, Label}
use Rattle.code_link.specs.Linking.{jumping, JumpsTo, Stands}
use Rattle.code_link.proofs.Placing.{length-jumping}
use Rattle.code_link.proofs.Reading.{IsFit-jumping}
use Rattle.built_machine.specs.States.{Registers}
use Rattle.built_machine.specs.Steps as machine
use Rattle.built_emitter.specs.Fits.{AllFit}

-- a jump is read there, and it leads to the label's place
pub record ReadsJump (words : List ℕ) (at : ℕ) (i : Instruction) (to : Option ℕ) : Type 0 where
  pub by : ℤ
  pub target : ℕ
  pub placed : to ≡ Some target
  pub reaches : pos (at + 1) +ℤ by ≡ pos target
  pub read : insn_at words at ≡ Some (jumping i by, at + length (encoded i))

-- the items are read from one place to another
abbrev pub Reads : List ℕ → (place : ℕ → Option ℕ) → (from : ℕ) → List Item → (to : ℕ) → Type 0
Reads words place from [] to = from ≡ to
Reads words place from (Insn i ∷ is) to =
    (insn_at words from ≡ Some (i, from + length (encoded i))) × Reads words place (from + length (encoded i)) is to
Reads words place from (Branch i l ∷ is) to =
    ReadsJump words from i (place l) × Reads words place (from + length (encoded i)) is to
Reads words place from (Label l ∷ is) to = (place l ≡ Some from) × Reads words place from is to

reads_jump : (words : List ℕ) (at : ℕ) (i : Instruction) (to : Option ℕ) → IsFit i → JumpsTo words at i to → ReadsJump words at i to
reads_jump words at i to fit j =
    record {
      by = j.by;
      target = j.target;
      placed = j.placed;
      reaches = j.reaches;
      read = insn_at-stands words at (jumping i j.by) (IsFit-jumping i j.by fit j.fits) j.words
          ∙ ap (λ n. Some (jumping i j.by, at + n)) (length-jumping i j.by);
    }

-- what stands in the code is read
pub reads : (words : List ℕ) (place : ℕ → Option ℕ) (from : ℕ) (items : List Item) (to : ℕ) → AllFit items →
    Stands words place from items to → Reads words place from items to
reads words place from [] to fit st = st
reads words place from (Insn i ∷ is) to fit st =
    (insn_at-stands words from i fit.0 st.0, reads words place (from + length (encoded i)) is to fit.1 st.1)
reads words place from (Branch i l ∷ is) to fit st =
    (reads_jump words from i (place l) fit.0 st.0, reads words place (from + length (encoded i)) is to fit.1 st.1)
reads words place from (Label l ∷ is) to fit st = (st.0, reads words place from is to fit st.1)

-- the first items of a list, and the others
pub split : (words : List ℕ) (place : ℕ → Option ℕ) (a b : List Item) (from to : ℕ) → Reads words place from (a ++ b) to →
    (mid : ℕ) × Reads words place from a mid × Reads words place mid b to
split words place [] b from to r = (from, refl, r)
split words place (Insn i ∷ a) b from to r =
    let s = split words place a b (from + length (encoded i)) to r.1 in (s.0, (r.0, s.1), s.2)
split words place (Branch i l ∷ a) b from to r =
    let s = split words place a b (from + length (encoded i)) to r.1 in (s.0, (r.0, s.1), s.2)
split words place (Label l ∷ a) b from to r =
    let s = split words place a b from to r.1 in (s.0, (r.0, s.1), s.2)

-- the first of some instructions, and the others
pub split_insns : (words : List ℕ) (place : ℕ → Option ℕ) (a b : List Instruction) (from to : ℕ) →
    Reads words place from (map Insn (a ++ b)) to → (mid : ℕ) × Reads words place from (map Insn a) mid × Reads words place mid (map Insn b) to
split_insns words place [] b from to r = (from, refl, r)
split_insns words place (i ∷ a) b from to r =
    let s = split_insns words place a b (from + length (encoded i)) to r.1 in (s.0, (r.0, s.1), s.2)

-- code leads on
pub on : (words : List ℕ) (place : ℕ → Option ℕ) (items : List Item) (from to : ℕ) → Reads words place from items to → from ≤ to
on words place [] from to r = omega (arith, r)
on words place (Insn i ∷ is) from to r =
    let h = on words place is (from + length (encoded i)) to r.1 in omega (arith, h)
on words place (Branch i l ∷ is) from to r =
    let h = on words place is (from + length (encoded i)) to r.1 in omega (arith, h)
on words place (Label l ∷ is) from to r = on words place is from to r.1

-- a jump that leads on is made
pub ahead : (by : ℤ) (at target : ℕ) (regs : Registers) → pos (at + 1) +ℤ by ≡ pos target → at + 1 ≤ target → machine.jump by at regs ≡ machine.at target regs
ahead (pos k) at target regs e le =
    let same : at + 1 + k ≡ target = omega (arith, ints, e) in
    ap (λ p. machine.at p regs) same
ahead (negsuc k) at target regs e le = absurd (omega (arith, ints, e, le))

-- two names of a label's place
pub same_place : (o : Option ℕ) (p q : ℕ) → o ≡ Some p → o ≡ Some q → p ≡ q
same_place o p q e d = same_Some p q (sym e ∙ d)
