-- Where the jumps of linked code lead: ahead or back as their instructions do, and from the head of a numeric loop behind its end.
use Rattle.std.proofs.Common.{◌≡◌, ℕ, zero, suc, ◌+◌, ◌<◌, ◌≤◌, ℤ, pos, Bool, true, false, ◌&&◌, not, nat_eq, List, [], ◌∷◌, length, Option, Some, None, if◌then◌else◌, refl, sym, ap, ◌∙◌, subst, arith, ⊎_elim}
use Rattle.std.specs.Prelude.{int_le}
use Rattle.std.specs.List.{list_any}
use Rattle.std.proofs.lemmas.Bool.{eqb-true}
use Rattle.std.proofs.lemmas.Int.{ints}
use Rattle.std.proofs.lemmas.Bool.Decides.{nat_tests}
use Rattle.op_words.specs.declared.insn.Insn.{Insn as Instruction}
use Rattle.op_words.specs.declared.insn.Insn.TheVariants as i
use Rattle.op_words.specs.Encoding.{encoded}
use Rattle.code_link.specs.declared.item.Item.{Item}
use Rattle.code_link.specs.declared.item.Item.TheVariants.{Insn, Branch, Label}
use Rattle.code_link.specs.Labels.{is_jump}
use Rattle.code_link.specs.Linking.{jumping}
use Rattle.machine_meaning.specs.Needs.{Line, target, goes_back, is_fast, jump_of}
use Rattle.machine_meaning.specs.WellFormed.{landings, lands, may_land, line_before, is_numeric_loop, same_truth, turns_well}
use Rattle.shape_laws.specs.Order.{Owed, Nothing, AWord, is_load, step, walk}
use Rattle.shape_laws.specs.Jumps.{labelled, ends_loop, Closes}
use Rattle.shape_laws.specs.Named.{leap}
use Rattle.chunk_laws.proofs.Lines.{LinesOf}
use Rattle.chunk_laws.proofs.Landings.{AllSlow, Ends, ends_rest, label_ends, first_step, same_owed, first_lands, later_lands}
use Rattle.chunk_laws.proofs.Steps.{owes}

-- ---- ahead and back

not_less : (t from : ℕ) → from < t → not (int_le (pos t) (pos from)) ≡ true
not_less t from lt = grind (arith, ints, nat_tests, lt)

less : (t from : ℕ) → t ≤ from → int_le (pos t) (pos from) ≡ true
less t from le = grind (arith, ints, nat_tests, le)

pub turn_ahead : (y : Instruction) (from : ℕ) (by : ℤ) (t : ℕ) → goes_back y ≡ false → target from by ≡ pos t → from < t
    → same_truth (goes_back y) (int_le (target from by) (pos from)) ≡ true
turn_ahead y from by t e r lt =
    ap (λ g. same_truth g (int_le (target from by) (pos from))) e ∙ ap (λ z. not (int_le z (pos from))) r ∙ not_less t from lt

pub turn_back : (y : Instruction) (from : ℕ) (by : ℤ) (t : ℕ) → goes_back y ≡ true → target from by ≡ pos t → t ≤ from
    → same_truth (goes_back y) (int_le (target from by) (pos from)) ≡ true
turn_back y from by t e r le =
    ap (λ g. same_truth g (int_le (target from by) (pos from))) e ∙ ap (λ z. int_le z (pos from)) r ∙ less t from le

module _ (vararg : Bool) (places : List ℕ) where
  inside : (t : ℕ) → (vararg ≡ true → t ≡ 0 → ⊥) → not (vararg && nat_eq t 0) ≡ true
  inside t h = by vararg (nat_eq t 0) h (λ e. eqb-true t 0 e)
    where
      by : (v z : Bool) → (v ≡ true → t ≡ 0 → ⊥) → (z ≡ true → t ≡ 0) → not (v && z) ≡ true
      by false z h g = refl
      by true false h g = refl
      by true true h g = absurd (h refl (g refl))

  pub lands_there : (z : ℤ) (t : ℕ) → z ≡ pos t → list_any (nat_eq t) places ≡ true → (vararg ≡ true → t ≡ 0 → ⊥) → lands vararg places z ≡ true
  lands_there z t e a h = ap (lands vararg places) e ∙ ap (λ u. u && not (vararg && nat_eq t 0)) a ∙ inside t h

  -- ---- a load that skips a word

  word_lands : (cs : List ℕ) (place : ℕ → Option ℕ) (is : List Item) (from : ℕ) (ls : List Line) → walk cs AWord is ≡ Some Nothing → AllSlow is → Ends is
      → LinesOf place from is ls
      → list_any (nat_eq (from + 1)) (landings false false ls) ≡ true
  word_lands cs place [] from ls w s e h = cc
  word_lands cs place (Insn y ∷ is) from [] w s e h = absurd h
  word_lands cs place (Insn y ∷ is) from (line ∷ ls) w s e h =
      let f = first_step cs AWord (Insn y) is w in
      let l = loads y f.owes f.here in
      let rest : Ends is = ⊎_elim (λ p. let wrong = p.1 in absurd (l.1 wrong)) (λ r. r) (ends_rest (Insn y) is e) in
      let one = l.2 in
      let next : from + length (encoded y) ≡ from + 1 = omega (arith, one) in
      later_lands (from + 1) line ls (ap (λ (x : Line). is_fast x.insn) h.0 ∙ s.0)
      (subst (λ n. list_any (nat_eq n) (landings false false ls) ≡ true) next
      (first_lands cs place is (from + length (encoded y)) ls Nothing refl (subst (λ (q : Owed). walk cs q is ≡ Some Nothing) l.0 f.rest) s.1 rest h.1))
    where
      by : (z : Instruction) → is_load z ≡ true → (Insn z ≡ Insn (i.Return 0 1) → ⊥) × (length (encoded z) ≡ 1)
      by (i.LoadB a v zero) e = ((λ w. cc), refl)
      by z e = cc

      loads : (z : Instruction) (p : Owed) → step cs AWord z ≡ Some p → (p ≡ Nothing) × (Insn z ≡ Insn (i.Return 0 1) → ⊥) × (length (encoded z) ≡ 1)
      loads z p e = which (is_load z) refl e
        where
          which : (t : Bool) → is_load z ≡ t → (if t then Some Nothing else None) ≡ Some p → (p ≡ Nothing) × (Insn z ≡ Insn (i.Return 0 1)
              → ⊥) × (length (encoded z) ≡ 1)
          which true l g = let same : p ≡ Nothing = cc in let r = by z l in (same, r.0, r.1)
          which false l g = cc
  word_lands cs place (Branch y l ∷ is) from [] w s e h = absurd h
  word_lands cs place (Branch y l ∷ is) from (line ∷ ls) w s e h =
      let f = first_step cs AWord (Branch y l) is w in
      absurd (which (is_load y) refl f.owes f.here)
    where
      no_load : (z : Instruction) → is_load z ≡ true → is_jump z ≡ true → ⊥
      no_load (i.LoadB a v zero) e j = cc
      no_load z e j = cc

      which : (t : Bool) → is_load y ≡ t → (p : Owed) → (if t then Some Nothing else None) ≡ Some p → ⊥
      which true e p g = no_load y e s.0.1
      which false e p g = cc
  word_lands cs place (Label l ∷ is) from ls w s e h =
      let f = first_step cs AWord (Label l) is w in
      let q = same_owed AWord f.owes f.here in
      word_lands cs place is from ls (subst (λ (p : Owed). walk cs p is ≡ Some Nothing) q.1 f.rest) s (label_ends l is e) h.1

  -- an instruction that is no branch leads to what may be led to
  pub leaps : (cs : List ℕ) (place : ℕ → Option ℕ) (y : Instruction) (from : ℕ) (is : List Item) (ls : List Line) (o p : Owed) → jump_of y ≡ leap y
      → step cs o y ≡ Some p → walk cs p is ≡ Some Nothing
      → AllSlow is → Ends (Insn y ∷ is) → LinesOf place (from + length (encoded y)) is ls → ((t : ℕ) → list_any (nat_eq t) (landings false false ls) ≡ true
      → list_any (nat_eq t) places ≡ true)
      → (may_land vararg places from (jump_of y) ≡ true) × (turns_well from y (jump_of y) ≡ true)
  leaps cs place (i.LoadB a v zero) from is ls o p e s w slow ends lines sub =
      let none : p ≡ Nothing = ⊎_elim (λ f. let same : p ≡ Nothing = cc in same) (λ c. cc) (owes cs o p (i.LoadB a v 0) s) in
      let rest : Ends is = ⊎_elim (λ x. let wrong = x.1 in cc) (λ r. r) (ends_rest (Insn (i.LoadB a v 0)) is ends) in
      let there = sub (from + 1) (first_lands cs place is (from + 1) ls Nothing refl (subst (λ
      (q : Owed). walk cs q is ≡ Some Nothing) none w) slow rest lines) in
      let at : target from (pos 0) ≡ pos (from + 1) = omega (arith, ints) in (
        lands_there (target from (pos 0)) (from + 1) at there (λ u z. omega (arith, z)),
        turn_ahead (i.LoadB a v 0) from (pos 0) (from + 1) refl at
            (omega arith),
      )
  leaps cs place (i.LoadB a v (suc zero)) from is ls o p e s w slow ends lines sub =
      let word : p ≡ AWord = ⊎_elim (λ f. let same : p ≡ AWord = cc in same) (λ c. cc) (owes cs o p (i.LoadB a v 1) s) in
      let rest : Ends is = ⊎_elim (λ x. let wrong = x.1 in cc) (λ r. r) (ends_rest (Insn (i.LoadB a v 1)) is ends) in
      let there = sub (from + 1 + 1) (word_lands cs place is (from + 1) ls (subst (λ (q : Owed). walk cs q is ≡ Some Nothing) word w) slow rest lines) in
      let at : target from (pos 1) ≡ pos (from + 1 + 1) = omega (arith, ints) in (
        lands_there (target from (pos 1)) (from + 1 + 1) at there (λ u z. omega (arith, z)),
        turn_ahead (i.LoadB a v 1) from (pos 1) (from + 1 + 1) refl at
            (omega arith),
      )
  leaps cs place (i.LoadB a v (suc (suc m))) from is ls o p e s w slow ends lines sub =
      ⊎_elim (λ f. cc) (λ c. cc) (owes cs o p (i.LoadB a v (suc (suc m))) s)
  leaps cs place y from is ls o p e s w slow ends lines sub = (ap (may_land vararg places from) e, ap (turns_well from y) e)

-- ---- numeric loops

skipped : (t : ℕ) (line : Line) (ls : List Line) → line.next < t → line_before (line ∷ ls) (pos t) ≡ line_before ls (pos t)
skipped t line ls lt = by (int_le (pos line.next) (pos t)) (int_le (pos t) (pos line.next)) no
  where
    no : int_le (pos t) (pos line.next) ≡ false
    no = let n = not_less t line.next lt in flip (int_le (pos t) (pos line.next)) n
      where
        flip : (z : Bool) → not z ≡ true → z ≡ false
        flip true e = cc
        flip false e = refl

    by : (u v : Bool) → v ≡ false → (if u && v then Some line.insn else line_before ls (pos t)) ≡ line_before ls (pos t)
    by true false e = refl
    by false false e = refl
    by true true e = cc
    by false true e = cc

pub skip_more : (all : List Line) (from next : ℕ) (line : Line) (ls : List Line) → from ≤ next → line.next ≡ next → ((t : ℕ) → from < t
    → line_before all (pos t) ≡ line_before (line ∷ ls) (pos t))
    → (t : ℕ) → next < t → line_before all (pos t) ≡ line_before ls (pos t)
skip_more all from next line ls le is h t lt = h t (omega (arith, le, lt)) ∙ skipped t line ls (omega (arith, is, lt))

here_found : (t : ℕ) (line : Line) (ls : List Line) → line.next ≡ t → line_before (line ∷ ls) (pos t) ≡ Some line.insn
here_found t line ls e =
    let u : int_le (pos line.next) (pos t) ≡ true = less line.next t (omega (arith, e)) in
    let v : int_le (pos t) (pos line.next) ≡ true = less t line.next (omega (arith, e)) in
    ap (λ z. if z && int_le (pos t) (pos line.next) then Some line.insn else line_before ls (pos t)) u ∙ ap (λ z. if z then Some line.insn else line_before ls
    (pos t)) v

labelled_at : (place : ℕ → Option ℕ) (l t from : ℕ) (is : List Item) (ls : List Line) → labelled l is → LinesOf place from is ls → place l ≡ Some t → from ≡ t
labelled_at place l t from [] ls e h at = absurd e
labelled_at place l t from (Insn y ∷ is) ls e h at = absurd e
labelled_at place l t from (Branch y m ∷ is) ls e h at = absurd e
labelled_at place l t from (Label m ∷ is) ls e h at = let there : Some from ≡ Some t = sym h.0 ∙ ap place (sym e) ∙ at in cc

-- the label behind a loop's end stands behind what is before
pub closes_from : (place : ℕ → Option ℕ) (a l t : ℕ) (is : List Item) (from : ℕ) (ls : List Line) → Closes a l is → LinesOf place from is ls
    → place l ≡ Some t → from < t
closes_from place a l t [] from ls c h at = absurd c
closes_from place a l t (Insn y ∷ is) from [] c h at = absurd h
closes_from place a l t (Insn y ∷ is) from (line ∷ ls) c h at = ⊎_elim (λ x. absurd x) (λ r. let lt = closes_from place a l t is (from + length
    (encoded y)) ls r h.1 at in omega (arith, lt)) c
closes_from place a l t (Branch y m ∷ is) from [] c h at = absurd h
closes_from place a l t (Branch y m ∷ is) from (line ∷ ls) c h at =
    ⊎_elim (λ x. let e = labelled_at place l t (from + length (encoded y)) is ls x.1 h.1 at in omega (arith, e))
    (λ r. let lt = closes_from place a l t is (from + length (encoded y)) ls r h.1 at in omega (arith, lt)) c
closes_from place a l t (Label m ∷ is) from ls c h at = ⊎_elim (λ x. absurd x) (λ r. closes_from place a l t is from ls r h.1 at) c

loop_found : (a : ℕ) (y : Instruction) (by : ℤ) → ends_loop a y → is_numeric_loop a (Some (jumping y by)) ≡ true
loop_found a (i.ForNLoop c z) by e = grind (arith, nat_tests, e)
loop_found a y by e = absurd e

-- the line before that label is the loop's end
pub loop_before : (place : ℕ → Option ℕ) (a l t : ℕ) (is : List Item) (from : ℕ) (ls : List Line) → Closes a l is → LinesOf place from is ls → place l ≡ Some t
    → is_numeric_loop a (line_before ls (pos t)) ≡ true
loop_before place a l t [] from ls c h at = absurd c
loop_before place a l t (Insn y ∷ is) from [] c h at = absurd h
loop_before place a l t (Insn y ∷ is) from (line ∷ ls) c h at =
    ⊎_elim (λ x. absurd x)
    (λ r.
    let lt = closes_from place a l t is (from + length (encoded y)) ls r h.1 at in
    let next = ap (λ (x : Line). x.next) h.0 in
    ap (is_numeric_loop a) (skipped t line ls (omega (arith, lt, next))) ∙ loop_before place a l t is (from + length (encoded y)) ls r h.1 at) c
loop_before place a l t (Branch y m ∷ is) from [] c h at = absurd h
loop_before place a l t (Branch y m ∷ is) from (line ∷ ls) c h at =
    let next = ap (λ (x : Line). x.next) h.0.is in
    ⊎_elim
    (λ x.
    let e = labelled_at place l t (from + length (encoded y)) is ls x.1 h.1 at in
    ap (is_numeric_loop a) (here_found t line ls (next ∙ e)) ∙ ap (λ (z : Line). is_numeric_loop a (Some z.insn)) h.0.is ∙ loop_found a y h.0.by x.0)
    (λ r.
    let lt = closes_from place a l t is (from + length (encoded y)) ls r h.1 at in
    ap (is_numeric_loop a) (skipped t line ls (omega (arith, lt, next))) ∙ loop_before place a l t is (from + length (encoded y)) ls r h.1 at) c
loop_before place a l t (Label m ∷ is) from ls c h at = ⊎_elim (λ x. absurd x) (λ r. loop_before place a l t is from ls r h.1 at) c
