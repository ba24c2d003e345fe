-- The lines of linked code are the instructions of its items, each in its place.
use Rattle.std.proofs.Common.{◌≡◌, ℕ, zero, suc, ◌+◌, ◌≤◌, ℤ, pos, ◌+ℤ◌, List, [], ◌∷◌, length, Option, Some, None, refl, sym, ap, ◌∙◌, subst, arith, ⊎_elim}
use Rattle.std.specs.Prelude.{slice_get, option_and_then, option_map}
use Rattle.std.proofs.lemmas.Option.{slice_get_past}
use Rattle.op_words.specs.declared.insn.Insn.{Insn as Instruction}
use Rattle.op_words.specs.Encoding.{encoded}
use Rattle.op_words.specs.Decoding.{insn_at, insn_of, parts_of, with_next}
use Rattle.code_link.specs.declared.item.Item.{Item}
use Rattle.code_link.specs.declared.item.Item.TheVariants.{Insn, Branch, Label}
use Rattle.code_link.specs.Labels.{word_count, labels}
use Rattle.code_link.specs.Linking.{jumping}
use Rattle.machine_meaning.specs.Needs.{Line, lines_from, then_line, behind}
use Rattle.compiled_runs.proofs.Reading.{AreRead}
use Rattle.shape_laws.specs.Jumps.{Among}

-- the line of a jump
pub record JumpLine (place : ℕ → Option ℕ) (from : ℕ) (i : Instruction) (l : ℕ) (line : Line) : Type 0 where
  pub by : ℤ
  pub target : ℕ
  pub placed : place l ≡ Some target
  pub reaches : pos (from + 1) +ℤ by ≡ pos target
  pub is : line ≡ record { place = from; insn = jumping i by; next = from + length (encoded i) }

-- these are the lines of the items from a place on
abbrev pub LinesOf : (place : ℕ → Option ℕ) → (from : ℕ) → List Item → List Line → Type 0
LinesOf place from [] [] = Unit {0}
LinesOf place from [] (line ∷ ls) = ⊥
LinesOf place from (Insn i ∷ is) [] = ⊥
LinesOf place from (Insn i ∷ is) (line ∷ ls) =
    (line ≡ record { place = from; insn = i; next = from + length (encoded i) }) × LinesOf place (from + length (encoded i)) is ls
LinesOf place from (Branch i l ∷ is) [] = ⊥
LinesOf place from (Branch i l ∷ is) (line ∷ ls) = JumpLine place from i l line × LinesOf place (from + length (encoded i)) is ls
LinesOf place from (Label l ∷ is) ls = (place l ≡ Some from) × LinesOf place from is ls

none_at : (code : List ℕ) (at : ℕ) → length code ≤ at → insn_at code at ≡ None
none_at code at le =
    ap (option_and_then (λ word. option_map (with_next at) (insn_of (parts_of word (slice_get code (at + 1)))))) (slice_get_past code at le)

nothing_left : (n : ℕ) (code : List ℕ) (at : ℕ) → length code ≤ at → lines_from n code at ≡ []
nothing_left zero code at le = refl
nothing_left (suc n) code at le = ap (λ o. then_line at o (λ next. lines_from n code next)) (none_at code at le)

pub lines_are : (place : ℕ → Option ℕ) (code : List ℕ) (is : List Item) (n from : ℕ) → word_count is ≤ n → from + word_count is ≡ length code
    → AreRead code place from is → LinesOf place from is (lines_from n code from)
lines_are place code [] n from le end r = subst (λ ls. LinesOf place from [] ls) (sym (nothing_left n code from (omega (arith, end)))) tt
lines_are place code (Insn i ∷ is) zero from le end r = absurd (omega (arith, le))
lines_are place code (Insn i ∷ is) (suc n) from le end r =
    subst (λ ls. LinesOf place from (Insn i ∷ is) ls) (sym (ap (λ o. then_line from o (λ next. lines_from n code next)) r.0))
    (refl, lines_are place code is n (from + length (encoded i)) (omega (arith, le)) (omega (arith, end)) r.1)
lines_are place code (Branch i l ∷ is) zero from le end r = absurd (omega (arith, le))
lines_are place code (Branch i l ∷ is) (suc n) from le end r =
    let j = r.0 in
    subst (λ ls. LinesOf place from (Branch i l ∷ is) ls) (sym (ap (λ o. then_line from o (λ next. lines_from n code next)) j.read)) (
      record { by = j.by; target = j.target; placed = j.placed; reaches = j.reaches; is = refl },
      lines_are place code is n (from + length (encoded i)) (omega (arith, le)) (omega (arith, end)) r.1,
    )
lines_are place code (Label l ∷ is) n from le end r = (r.0, lines_are place code is n from le end r.1)

-- the words end where the lines do
pub lines_behind : (place : ℕ → Option ℕ) (is : List Item) (from : ℕ) (ls : List Line) → LinesOf place from is ls → behind ls from ≡ from + word_count is
lines_behind place [] from [] h = omega arith
lines_behind place [] from (line ∷ ls) h = absurd h
lines_behind place (Insn i ∷ is) from [] h = absurd h
lines_behind place (Insn i ∷ is) from (line ∷ ls) h =
    let next = ap (λ (x : Line). behind ls x.next) h.0 in
    let r = lines_behind place is (from + length (encoded i)) ls h.1 in
    omega (arith, next, r)
lines_behind place (Branch i l ∷ is) from [] h = absurd h
lines_behind place (Branch i l ∷ is) from (line ∷ ls) h =
    let next = ap (λ (x : Line). behind ls x.next) h.0.is in
    let r = lines_behind place is (from + length (encoded i)) ls h.1 in
    omega (arith, next, r)
lines_behind place (Label l ∷ is) from ls h = lines_behind place is from ls h.1

-- a label that stands among the items has its place there
pub label_from : (place : ℕ → Option ℕ) (is : List Item) (from : ℕ) (ls : List Line) → LinesOf place from is ls → (l : ℕ) → Among l (labels is) → (t : ℕ)
    → place l ≡ Some t → from ≤ t
label_from place [] from ls h l a t e = absurd a
label_from place (Insn i ∷ is) from [] h l a t e = absurd h
label_from place (Insn i ∷ is) from (line ∷ ls) h l a t e = let r = label_from place is (from + length (encoded i)) ls h.1 l a t e in omega (arith, r)
label_from place (Branch i m ∷ is) from [] h l a t e = absurd h
label_from place (Branch i m ∷ is) from (line ∷ ls) h l a t e = let r = label_from place is (from + length (encoded i)) ls h.1 l a t e in omega (arith, r)
label_from place (Label m ∷ is) from ls h l a t e =
    ⊎_elim (λ same. let there : Some from ≡ Some t = sym h.0 ∙ ap place (sym same) ∙ e in let at : from ≡ t = cc in omega (arith, at))
    (λ r. label_from place is from ls h.1 l r t e) a
