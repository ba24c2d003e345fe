-- Where jumps may lead in linked code: to each label that stands before an instruction.
use Rattle.std.proofs.Common.{◌≡◌, ℕ, zero, ◌+◌, Bool, true, false, ◌||◌, nat_eq, List, [], ◌∷◌, ◌++◌, length, Option, Some, None, is_some, if◌then◌else◌, refl, sym, ap, ◌∙◌, subst, ◌⊎◌, inl, inr, ⊎_elim}
use Rattle.std.specs.Prelude.{option_and_then}
use Rattle.std.specs.List.{list_any}
use Rattle.std.proofs.lemmas.Bool.{eq-eqb}
use Rattle.op_words.specs.declared.insn.Insn.{Insn as Instruction}
use Rattle.op_words.specs.declared.insn.Insn.TheVariants as i
use Rattle.op_words.specs.Encoding.{encoded}
use Rattle.code_link.specs.declared.item.Item.{Item}
use Rattle.code_link.specs.declared.item.Item.TheVariants.{Insn, Branch, Label}
use Rattle.code_link.specs.Labels.{labels, is_jump}
use Rattle.code_link.specs.Linking.{jumping}
use Rattle.machine_meaning.specs.Needs.{Line, is_capture, reads_top, is_fast, bound_by}
use Rattle.machine_meaning.specs.WellFormed.{landings}
use Rattle.shape_laws.specs.Order.{Owed, Nothing, AList, Captures, AWord, is_load, owed_by, unless_bound, step, step_item, past_label, walk}
use Rattle.shape_laws.specs.Jumps.{Among}
use Rattle.chunk_laws.proofs.Distances.{same_jump}
use Rattle.chunk_laws.proofs.Lines.{LinesOf}

-- none is a fast call, and each branch is a jump
abbrev pub AllSlow : List Item → Type 0
AllSlow [] = Unit {0}
AllSlow (Insn y ∷ is) = (is_fast y ≡ false) × AllSlow is
AllSlow (Branch y l ∷ is) = ((is_fast y ≡ false) × (is_jump y ≡ true)) × AllSlow is
AllSlow (Label l ∷ is) = AllSlow is

-- a return is last
pub record Ends (is : List Item) : Type 0 where
  pub front : List Item
  pub last : is ≡ front ++ Insn (i.Return 0 1) ∷ []

pub ends_rest : (x : Item) (is : List Item) → Ends (x ∷ is) → ((is ≡ []) × (x ≡ Insn (i.Return 0 1))) ⊎ Ends is
ends_rest x is e = by e.front e.last
  where
    by : (front : List Item) → x ∷ is ≡ front ++ Insn (i.Return 0 1) ∷ [] → ((is ≡ []) × (x ≡ Insn (i.Return 0 1))) ⊎ Ends is
    by [] p = let one : x ≡ Insn (i.Return 0 1) = cc in let none : is ≡ [] = cc in inl (none, one)
    by (y ∷ front) p = let rest : is ≡ front ++ Insn (i.Return 0 1) ∷ [] = cc in inr (record { front = front; last = rest })

pub label_ends : (l : ℕ) (is : List Item) → Ends (Label l ∷ is) → Ends is
label_ends l is e = ⊎_elim (λ p. let wrong = p.1 in cc) (λ r. r) (ends_rest (Label l) is e)

pub branch_ends : (y : Instruction) (l : ℕ) (is : List Item) → Ends (Branch y l ∷ is) → Ends is
branch_ends y l is e = ⊎_elim (λ p. let wrong = p.1 in cc) (λ r. r) (ends_rest (Branch y l) is e)

no_end : Ends [] → ⊥
no_end e = by e.front e.last
  where
    by : (front : List Item) → [] ≡ front ++ Insn (i.Return 0 1) ∷ [] → ⊥
    by [] p = cc
    by (y ∷ front) p = cc

-- ---- what may stand behind a label

load_plain : (y : Instruction) → is_load y ≡ true → (is_capture y ≡ false) × (reads_top y ≡ None)
load_plain (i.LoadB a v zero) e = (refl, refl)
load_plain y e = cc

pub not_bound : (cs : List ℕ) (o p : Owed) (y : Instruction) → past_label o ≡ Some o → step cs o y ≡ Some p → (is_capture y ≡ false) × (reads_top y ≡ None)
not_bound cs Nothing p y past e = by (is_capture y) (reads_top y) e
  where
    by : (c : Bool) (r : Option ℕ) → unless_bound c r (owed_by cs y) ≡ Some p → (c ≡ false) × (r ≡ None)
    by true r f = cc
    by false (Some n) f = cc
    by false None f = (refl, refl)
not_bound cs AWord p y past e = by (is_load y) refl e
  where
    by : (t : Bool) → is_load y ≡ t → (if t then Some Nothing else None) ≡ Some p → (is_capture y ≡ false) × (reads_top y ≡ None)
    by true f g = load_plain y f
    by false f g = cc
not_bound cs (AList from) p y past e = cc
not_bound cs (Captures m) p y past e = cc

-- the first step of a walk
pub record Step (cs : List ℕ) (o : Owed) (x : Item) (is : List Item) : Type 0 where
  pub owes : Owed
  pub here : step_item cs o x ≡ Some owes
  pub rest : walk cs owes is ≡ Some Nothing

pub first_step : (cs : List ℕ) (o : Owed) (x : Item) (is : List Item) → walk cs o (x ∷ is) ≡ Some Nothing → Step cs o x is
first_step cs o x is e = by (step_item cs o x) refl e
  where
    by : (r : Option Owed) → step_item cs o x ≡ r → option_and_then (λ (q : Owed). walk cs q is) r ≡ Some Nothing → Step cs o x is
    by None f g = cc
    by (Some q) f g = record { owes = q; here = f; rest = g }

pub same_owed : (o q : Owed) → past_label o ≡ Some q → (past_label o ≡ Some o) × (q ≡ o)
same_owed Nothing q e = let s : q ≡ Nothing = cc in (refl, s)
same_owed AWord q e = let s : q ≡ AWord = cc in (refl, s)
same_owed (AList f) q e = cc
same_owed (Captures m) q e = cc

-- ---- landings

itself : (n : ℕ) → nat_eq n n ≡ true
itself n = eq-eqb n n refl

unbound : (y : Instruction) → is_capture y ≡ false → reads_top y ≡ None → bound_by false false y ≡ false
unbound y c r = ap (λ t. t || is_some (reads_top y)) c ∙ ap is_some r

here_lands : (from next : ℕ) (y : Instruction) (ls : List Line) → is_capture y ≡ false → reads_top y ≡ None
    → list_any (nat_eq from) (landings false false (record { place = from; insn = y; next = next } ∷ ls)) ≡ true
here_lands from next y ls c r =
    ap (λ t. list_any (nat_eq from) (if t then landings (is_fast y) false ls else from ∷ landings (is_fast y) false ls)) (unbound y c r)
    ∙ ap (λ t. t || list_any (nat_eq from) (landings (is_fast y) false ls)) (itself from)

pub later_lands : (t : ℕ) (line : Line) (ls : List Line) → is_fast line.insn ≡ false → list_any (nat_eq t) (landings false false ls) ≡ true
    → list_any (nat_eq t) (landings false false (line ∷ ls)) ≡ true
later_lands t line ls slow e = by (bound_by false false line.insn)
  where
    rest : list_any (nat_eq t) (landings (is_fast line.insn) false ls) ≡ true
    rest = ap (λ f. list_any (nat_eq t) (landings f false ls)) slow ∙ e

    by : (z : Bool) → list_any (nat_eq t) (if z then landings (is_fast line.insn) false ls else line.place ∷ landings (is_fast line.insn) false ls) ≡ true
    by true = rest
    by false = which (nat_eq t line.place)
      where
        which : (z : Bool) → (z || list_any (nat_eq t) (landings (is_fast line.insn) false ls)) ≡ true
        which true = refl
        which false = rest

module _ (cs : List ℕ) (place : ℕ → Option ℕ) where
  -- where a label may stand, a jump may lead
  pub first_lands : (is : List Item) (from : ℕ) (ls : List Line) (o : Owed) → past_label o ≡ Some o → walk cs o is ≡ Some Nothing → AllSlow is → Ends is
      → LinesOf place from is ls
      → list_any (nat_eq from) (landings false false ls) ≡ true
  first_lands [] from ls o past w s e h = absurd (no_end e)
  first_lands (Insn y ∷ is) from [] o past w s e h = absurd h
  first_lands (Insn y ∷ is) from (line ∷ ls) o past w s e h =
      let f = first_step cs o (Insn y) is w in
      let n = not_bound cs o f.owes y past f.here in
      subst (λ (x : Line). list_any (nat_eq from) (landings false false (x ∷ ls)) ≡ true) (sym h.0) (here_lands from (from + length (encoded y)) y ls n.0 n.1)
  first_lands (Branch y l ∷ is) from [] o past w s e h = absurd h
  first_lands (Branch y l ∷ is) from (line ∷ ls) o past w s e h =
      let f = first_step cs o (Branch y l) is w in
      let n = not_bound cs o f.owes y past f.here in
      let j = h.0 in
      let same = same_jump y j.by s.0.1 in
      subst (λ (x : Line). list_any (nat_eq from) (landings false false (x ∷ ls)) ≡ true) (sym j.is)
      (here_lands from (from + length (encoded y)) (jumping y j.by) ls (same.capture ∙ n.0) (same.reads ∙ n.1))
  first_lands (Label l ∷ is) from ls o past w s e h =
      let f = first_step cs o (Label l) is w in
      let q = same_owed o f.owes f.here in
      first_lands is from ls o past (subst (λ p. walk cs p is ≡ Some Nothing) q.1 f.rest) s (label_ends l is e) h.1

  -- so may it to each label
  pub labels_land : (is : List Item) (from : ℕ) (ls : List Line) (o : Owed) → walk cs o is ≡ Some Nothing → AllSlow is → Ends is → LinesOf place from is ls
      → (l : ℕ) → Among l (labels is)
      → (t : ℕ) → place l ≡ Some t → list_any (nat_eq t) (landings false false ls) ≡ true
  labels_land [] from ls o w s e h l a t at = absurd a
  labels_land (Insn y ∷ is) from [] o w s e h l a t at = absurd h
  labels_land (Insn y ∷ is) from (line ∷ ls) o w s e h l a t at =
      let f = first_step cs o (Insn y) is w in
      later_lands t line ls (ap (λ (x : Line). is_fast x.insn) h.0 ∙ s.0)
      (⊎_elim (λ p. absurd (subst (λ js. Among l (labels js)) p.0 a)) (λ r. labels_land is (from + length (encoded y)) ls f.owes f.rest s.1 r h.1 l a t at)
      (ends_rest (Insn y) is e))
  labels_land (Branch y m ∷ is) from [] o w s e h l a t at = absurd h
  labels_land (Branch y m ∷ is) from (line ∷ ls) o w s e h l a t at =
      let f = first_step cs o (Branch y m) is w in
      let j = h.0 in
      let same = same_jump y j.by s.0.1 in
      later_lands t line ls (ap (λ (x : Line). is_fast x.insn) j.is ∙ same.fast ∙ s.0.0)
      (labels_land is (from + length (encoded y)) ls f.owes f.rest s.1 (branch_ends y m is e) h.1 l a t at)
  labels_land (Label m ∷ is) from ls o w s e h l a t at =
      let f = first_step cs o (Label m) is w in
      let q = same_owed o f.owes f.here in
      let rest : walk cs o is ≡ Some Nothing = subst (λ p. walk cs p is ≡ Some Nothing) q.1 f.rest in
      let ends = label_ends m is e in
      ⊎_elim
      (λ same.
      let there : Some from ≡ Some t = sym h.0 ∙ ap place (sym same) ∙ at in
      let is_from : from ≡ t = cc in
      subst (λ n. list_any (nat_eq n) (landings false false ls) ≡ true) is_from (first_lands is from ls o q.0 rest s ends h.1))
      (λ r. labels_land is from ls o rest s ends h.1 l r t at) a
