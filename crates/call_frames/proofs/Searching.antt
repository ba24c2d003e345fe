-- What a search through the open cells finds.
use Rattle.std.proofs.Common.{◌≡◌, ℕ, zero, suc, ◌+◌, ◌-◌, ◌<◌, ◌≤◌, Bool, true, false, cond, nat_lt, nat_eq, List, [], ◌∷◌, ◌++◌, length, get_or, insert, Option, Some, None, slice_get, refl, sym, ◌∙◌, ap, subst, arith, lt-ltb, le-ltb}
use Rattle.std.proofs.lemmas.Grind.{common_steps}
use Rattle.value_model.specs.declared.ids.CellId.{CellId}
use Rattle.call_frames.specs.declared.frame.OpenCell.{OpenCell}
use Rattle.call_frames.specs.Stacks.{Rises}
use Rattle.call_frames.specs.Cells.{same, or_else, register_of, cell_on, opened, lower, on, on_place}

choose : (b : Bool) (r : ℕ) (q x : Option ℕ) → or_else (cond b (Some r) q) x ≡ cond b (Some r) (or_else q x)
choose true r q x = refl
choose false r q x = refl

-- the last is looked at first
pub register_push : (c : CellId) (os : List OpenCell) (o : OpenCell) → register_of c (os ++ o ∷ []) ≡ cond (same o.cell c) (Some o.register) (register_of c os)
register_push c [] o = refl
register_push c (p ∷ os) o =
    ap (λ r. or_else r (cond (same p.cell c) (Some p.register) None)) (register_push c os o)
    ∙ choose (same o.cell c) o.register (register_of c os) (cond (same p.cell c) (Some p.register) None)

-- an open cell stands for a register that is there
one_within : (b : Bool) (q r end : ℕ) → q < end → cond b (Some q) None ≡ Some r → r < end
one_within true q r end h e = let same : q ≡ r = cc in subst (λ r. r < end) same h
one_within false q r end h e = absurd (cc)

either_within : (p q : Option ℕ) (r end : ℕ) → (p ≡ Some r → r < end) → (q ≡ Some r → r < end) → or_else p q ≡ Some r → r < end
either_within (Some p) q r end first rest e = first e
either_within None q r end first rest e = rest e

pub register_within : (c : CellId) (first end : ℕ) (os : List OpenCell) (r : ℕ) → Rises first end os → register_of c os ≡ Some r → r < end
register_within c first end [] r rises e = absurd (cc)
register_within c first end (o ∷ os) r rises e =
    either_within (register_of c os) (cond (same o.cell c) (Some o.register) None) r end
    (λ e. register_within c (o.register + 1) end os r rises.2 e)
    (λ e. one_within (same o.cell c) o.register r end rises.1 e) e

-- ---- places

-- a cell behind the first stands for a register as high at least
pub rises_at : (first end : ℕ) (os : List OpenCell) (i : ℕ) (d : OpenCell) → Rises first end os → i < length os → first ≤ (get_or os i d).register
rises_at first end [] i d rises h = absurd (omega arith)
rises_at first end (o ∷ os) zero d rises h = rises.0
rises_at first end (o ∷ os) (suc i) d rises h =
    let later : o.register + 1 ≤ (get_or os i d).register = rises_at (o.register + 1) end os i d rises.2 (omega arith) in
    omega (arith, rises.0, later)

pub lower_is : (r first end : ℕ) (os : List OpenCell) (at : ℕ) (d : OpenCell) → Rises first end os → at ≤ length os → (at < length os → r ≤ (get_or os at d).register) → (0 < at → (get_or os (at - 1) d).register < r) → lower r os ≡ at
lower_is r first end [] at d rises within here before = omega arith
lower_is r first end (o ∷ os) zero d rises within here before =
    let not_lower : r ≤ o.register = here (omega arith) in
    ap (λ b. cond b (suc (lower r os)) 0) (le-ltb o.register r not_lower)
lower_is r first end (o ∷ os) (suc zero) d rises within here before =
    let lower_one : o.register < r = before (omega arith) in
    ap (λ b. cond b (suc (lower r os)) 0) (lt-ltb o.register r lower_one)
    ∙ ap suc (lower_is r (o.register + 1) end os zero d rises.2 (omega arith) (λ h. here (omega arith)) (λ h. absurd (omega arith)))
lower_is r first end (o ∷ os) (suc (suc n)) d rises within here before =
    let back : n ≡ suc n - 1 = omega arith in
    let one : suc (suc n) - 1 ≡ suc n = omega arith in
    let last : (get_or os n d).register < r = subst (λ k. (get_or (o ∷ os) k d).register < r) one (before (omega arith)) in
    let later : o.register + 1 ≤ (get_or os n d).register = rises_at (o.register + 1) end os n d rises.2 (omega arith) in
    ap (λ b. cond b (suc (lower r os)) 0) (lt-ltb o.register r (omega arith))
    ∙ ap suc (lower_is r (o.register + 1) end os (suc n) d rises.2 (omega arith) (λ h. here (omega arith)) (λ h. subst (λ k. (get_or os k d).register < r) back last))

insert_by : (b : Bool) (r : ℕ) (c : CellId) (o : OpenCell) (os : List OpenCell) → insert os (lower r os) (record { register = r; cell = c }) ≡ opened r c os → insert (o ∷ os) (cond b (suc (lower r os)) 0) (record { register = r; cell = c }) ≡ cond b (o ∷ opened r c os) (record { register = r; cell = c } ∷ o ∷ os)
insert_by true r c o os e = ap (λ l. o ∷ l) e
insert_by false r c o os e = refl

pub opened_is : (r : ℕ) (c : CellId) (os : List OpenCell) → insert os (lower r os) (record { register = r; cell = c }) ≡ opened r c os
opened_is r c [] = refl
opened_is r c (o ∷ os) = insert_by (nat_lt o.register r) r c o os (opened_is r c os)

-- no cell behind a higher register stands for this one
none_behind : (r first end : ℕ) (os : List OpenCell) → Rises first end os → r < first → cell_on r os ≡ None
none_behind r first end [] rises h = refl
none_behind r first end (o ∷ os) rises h =
    ap (λ b. cond b (Some o.cell) (cell_on r os)) (eqb_apart o.register r (omega (arith, rises.0)))
    ∙ none_behind r (o.register + 1) end os rises.2 (omega (arith, rises.0))
  where
    eqb_apart : (m n : ℕ) → n < m → nat_eq m n ≡ false
    eqb_apart m n h = grind (arith, common_steps)

apart : (m n : ℕ) → nat_lt m n ≡ true → nat_eq m n ≡ false
apart m n h = grind (arith, common_steps)

above : (m n : ℕ) → nat_lt m n ≡ false → nat_eq m n ≡ false → n < m
above m n h k = grind (arith, common_steps)

same_on : (b : Bool) (r end : ℕ) (o : OpenCell) (os : List OpenCell) → Rises (o.register + 1) end os → nat_lt o.register r ≡ false → nat_eq o.register r ≡ b → cond b (Some o.cell) None ≡ cond b (Some o.cell) (cell_on r os)
same_on true r end o os rises lt e = refl
same_on false r end o os rises lt e = sym (none_behind r (o.register + 1) end os rises (omega (arith, above o.register r lt e)))

on_by : (b : Bool) (r end : ℕ) (o : OpenCell) (os : List OpenCell) → Rises (o.register + 1) end os → on_place r os (lower r os) ≡ cell_on r os → nat_lt o.register r ≡ b → on r (slice_get (o ∷ os) (cond b (suc (lower r os)) 0)) ≡ cond (nat_eq o.register r) (Some o.cell) (cell_on r os)
on_by true r end o os rises e lt = e ∙ sym (ap (λ b. cond b (Some o.cell) (cell_on r os)) (apart o.register r lt))
on_by false r end o os rises e lt = same_on (nat_eq o.register r) r end o os rises lt refl

pub on_place_is : (r first end : ℕ) (os : List OpenCell) → Rises first end os → on_place r os (lower r os) ≡ cell_on r os
on_place_is r first end [] rises = refl
on_place_is r first end (o ∷ os) rises =
    on_by (nat_lt o.register r) r end o os rises.2 (on_place_is r (o.register + 1) end os rises.2) refl
