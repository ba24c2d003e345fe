-- What closing cells does, from the last on.
use Rattle.std.proofs.Common.{◌≡◌, ℕ, zero, suc, ◌+◌, ◌-◌, ◌<◌, ◌≤◌, Bool, true, false, cond, nat_lt, nat_eq, List, [], ◌∷◌, ◌++◌, length, take, get_or, Option, Some, None, IfSome, IsSomeAnd, slice_get, refl, sym, ◌∙◌, ap, subst, arith, lt-ltb, le-ltb}
use Rattle.value_model.specs.declared.ids.CellId.{CellId}
use Rattle.value_model.specs.declared.value.Value.{Value}
use Rattle.value_model.specs.declared.value.Value.TheVariants.{Nil}
use Rattle.value_arena.specs.Arenas.{ArenaView, HasCell, with_cell}
use Rattle.value_arena.specs.Growing.{Grows}
use Rattle.value_arena.proofs.Growing.{cell_stays, with_cell_grows, grows_self, grows_on}
use Rattle.call_frames.specs.declared.frame.OpenCell.{OpenCell}
use Rattle.std.specs.Option.{option_map_or}
use Rattle.std.proofs.lemmas.List.{same_from_push}
use Rattle.call_frames.specs.Stacks.{StackView, Rises, AreBelow, AreFrom, AreApart}
use Rattle.call_frames.specs.declared.frame.Frame.{Frame}
use Rattle.call_frames.specs.Cells.{Both, kept, closed, AreIn, EndsBelow, cell_on, opened, low, without, popped, innermost, HasLocal, place_in, place_of}
use Rattle.std.proofs.lemmas.Grind.{common_steps}
use borrow.Author.Tests.{ltb-true}

pub kept_push : (r : ℕ) (os : List OpenCell) (o : OpenCell) → r ≤ o.register → kept r (os ++ o ∷ []) ≡ kept r os
kept_push r [] o h = ap (λ b. cond b (o ∷ []) []) (le-ltb o.register r h)
kept_push r (p ∷ os) o h = ap (λ l. cond (nat_lt p.register r) (p ∷ l) l) (kept_push r os o h)

pub closed_push : (r : ℕ) (regs : List Value) (os : List OpenCell) (o : OpenCell) (a : ArenaView) → r ≤ o.register → closed r regs (os ++ o ∷ []) a ≡ closed r regs os (with_cell a o.cell (get_or regs o.register Nil))
closed_push r regs [] o a h = ap (λ b. cond b a (with_cell a o.cell (get_or regs o.register Nil))) (le-ltb o.register r h)
closed_push r regs (p ∷ os) o a h =
    ap (λ a. cond (nat_lt p.register r) a (with_cell a p.cell (get_or regs p.register Nil))) (closed_push r regs os o a h)

pub rises_front : (first end : ℕ) (os : List OpenCell) (o : OpenCell) → Rises first end (os ++ o ∷ []) → Rises first end os
rises_front first end [] o h = tt
rises_front first end (p ∷ os) o h = (h.0, h.1, rises_front (p.register + 1) end os o h.2)

pub rises_last : (first end : ℕ) (os : List OpenCell) (o : OpenCell) → Rises first end (os ++ o ∷ []) → o.register < end
rises_last first end [] o h = h.1
rises_last first end (p ∷ os) o h = rises_last (p.register + 1) end os o h.2

pub in_front : (a : ArenaView) (os : List OpenCell) (o : OpenCell) → AreIn a (os ++ o ∷ []) → AreIn a os
in_front a [] o h = tt
in_front a (p ∷ os) o h = (h.0, in_front a os o h.1)

pub in_last : (a : ArenaView) (os : List OpenCell) (o : OpenCell) → AreIn a (os ++ o ∷ []) → HasCell a o.cell
in_last a [] o h = h.0
in_last a (p ∷ os) o h = in_last a os o h.1

pub in_stays : (a : ArenaView) (c : CellId) (v : Value) (os : List OpenCell) → AreIn a os → AreIn (with_cell a c v) os
in_stays a c v [] h = tt
in_stays a c v (o ∷ os) h = (cell_stays a (with_cell a c v) o.cell (with_cell_grows a c v) h.0, in_stays a c v os h.1)

-- where the last is below, all are
first_below : (r first end : ℕ) (o : OpenCell) (os : List OpenCell) → Rises first end (o ∷ os) → EndsBelow r (o ∷ os) → o.register < r
first_below r first end o [] h e = e
first_below r first end o (p ∷ os) h e =
    let next : p.register < r = first_below r (o.register + 1) end p os h.2 (subst (λ n. IfSome (slice_get (o ∷ p ∷ os) n) (λ o. o.register < r)) count e) in
    omega (arith, h.2.0, next)
  where
    count : length (o ∷ p ∷ os) - 1 ≡ suc (length (p ∷ os) - 1)
    count = omega arith

rest_below : (r : ℕ) (o : OpenCell) (os : List OpenCell) → EndsBelow r (o ∷ os) → EndsBelow r os
rest_below r o [] e = tt
rest_below r o (p ∷ os) e = subst (λ n. IfSome (slice_get (o ∷ p ∷ os) n) (λ o. o.register < r)) count e
  where
    count : length (o ∷ p ∷ os) - 1 ≡ suc (length (p ∷ os) - 1)
    count = omega arith

pub kept_all : (r first end : ℕ) (os : List OpenCell) → Rises first end os → EndsBelow r os → kept r os ≡ os
kept_all r first end [] h e = refl
kept_all r first end (o ∷ os) h e =
    ap (λ b. cond b (o ∷ kept r os) (kept r os)) (lt-ltb o.register r (first_below r first end o os h e))
    ∙ ap (λ l. o ∷ l) (kept_all r (o.register + 1) end os h.2 (rest_below r o os e))

pub closed_none : (r first end : ℕ) (regs : List Value) (os : List OpenCell) (a : ArenaView) → Rises first end os → EndsBelow r os → closed r regs os a ≡ a
closed_none r first end regs [] a h e = refl
closed_none r first end regs (o ∷ os) a h e =
    ap (λ b. cond b (closed r regs os a) (with_cell (closed r regs os a) o.cell (get_or regs o.register Nil))) (lt-ltb o.register r (first_below r first end o os h e))
    ∙ closed_none r (o.register + 1) end regs os a h.2 (rest_below r o os e)

-- ---- what stays true of the cells

above : (m n : ℕ) → nat_lt m n ≡ false → nat_eq m n ≡ false → n < m
above m n h k = grind (arith, common_steps)

not_on : (m n : ℕ) (c : CellId) (q : Option CellId) → cond (nat_eq m n) (Some c) q ≡ None → nat_eq m n ≡ false
not_on m n c q e = by (nat_eq m n) e
  where
    by : (b : Bool) → cond b (Some c) q ≡ None → b ≡ false
    by true e = absurd (cc)
    by false e = refl

rest_none : (m n : ℕ) (c : CellId) (q : Option CellId) → cond (nat_eq m n) (Some c) q ≡ None → q ≡ None
rest_none m n c q e = by (nat_eq m n) e
  where
    by : (b : Bool) → cond b (Some c) q ≡ None → q ≡ None
    by true e = absurd (cc)
    by false e = e

pub rises_weaker : (f g end : ℕ) (os : List OpenCell) → g ≤ f → Rises f end os → Rises g end os
rises_weaker f g end [] le h = tt
rises_weaker f g end (o ∷ os) le h = (omega (arith, h.0), h.1, h.2)

kept_by : (b : Bool) (r first end : ℕ) (o : OpenCell) (os : List OpenCell) → first ≤ o.register → o.register < end → Rises (o.register + 1) end (kept r os) → Rises first end (cond b (o ∷ kept r os) (kept r os))
kept_by true r first end o os low high h = (low, high, h)
kept_by false r first end o os low high h = rises_weaker (o.register + 1) first end (kept r os) (omega (arith, low)) h

pub rises_kept : (r first end : ℕ) (os : List OpenCell) → Rises first end os → Rises first end (kept r os)
rises_kept r first end [] h = tt
rises_kept r first end (o ∷ os) h =
    kept_by (nat_lt o.register r) r first end o os h.0 h.1 (rises_kept r (o.register + 1) end os h.2)

-- more registers
pub rises_further : (first end more : ℕ) (os : List OpenCell) → end ≤ more → Rises first end os → Rises first more os
rises_further first end more [] le h = tt
rises_further first end more (o ∷ os) le h = (h.0, omega (arith, h.1), rises_further (o.register + 1) end more os le h.2)

pub below_further : (n m : ℕ) (fs : List Frame) → n ≤ m → AreBelow n fs → AreBelow m fs
below_further n m [] le h = tt
below_further n m (f ∷ fs) le h = (omega (arith, h.0), below_further n m fs le h.1)

pub below_push : (n : ℕ) (fs : List Frame) (f : Frame) → AreBelow n fs → f.base + f.registers ≤ n → AreBelow n (fs ++ f ∷ [])
below_push n [] f h le = (le, tt)
below_push n (g ∷ fs) f h le = (h.0, below_push n fs f h.1 le)

pub below_take : (n k : ℕ) (fs : List Frame) → AreBelow n fs → AreBelow n (take k fs)
below_take n zero fs h = tt
below_take n (suc k) [] h = tt
below_take n (suc k) (f ∷ fs) h = (h.0, below_take n k fs h.1)

-- one more cell is open
opened_by : (b : Bool) (r first end : ℕ) (c : CellId) (o : OpenCell) (os : List OpenCell) → nat_lt o.register r ≡ b → r < end → first ≤ r → cell_on r (o ∷ os) ≡ None → Rises first end (o ∷ os) → (o.register < r → Rises (o.register + 1) end (opened r c os)) → Rises first end (cond b (o ∷ opened r c os) (record { register = r; cell = c } ∷ o ∷ os))
opened_by true r first end c o os lt high low none h rest = (h.0, h.1, rest (omega (arith, ltb-true o.register r lt)))
opened_by false r first end c o os lt high low none h rest = (low, high, (omega (arith, above o.register r lt (not_on o.register r o.cell (cell_on r os) none)), h.1, h.2))

pub rises_opened : (r first end : ℕ) (c : CellId) (os : List OpenCell) → r < end → first ≤ r → cell_on r os ≡ None → Rises first end os → Rises first end (opened r c os)
rises_opened r first end c [] high low none h = (low, high, tt)
rises_opened r first end c (o ∷ os) high low none h =
    opened_by (nat_lt o.register r) r first end c o os refl high low none h
    (λ lt. rises_opened r (o.register + 1) end c os high (omega arith) (rest_none o.register r o.cell (cell_on r os) none) h.2)

-- ---- the last of a list

pub split_last : {A : Type 0} (xs : List A) (o : A) → slice_get xs (length xs - 1) ≡ Some o → xs ≡ take (length xs - 1) xs ++ o ∷ []
split_last [] o e = absurd (cc)
split_last (x ∷ []) o e = let same : x ≡ o = cc in ap (λ x. x ∷ []) same
split_last (x ∷ y ∷ xs) o e =
    let count : length (x ∷ y ∷ xs) - 1 ≡ suc (length (y ∷ xs) - 1) = omega arith in
    ap (λ l. x ∷ l) (split_last (y ∷ xs) o (subst (λ n. slice_get (x ∷ y ∷ xs) n ≡ Some o) count e))
    ∙ ap (λ n. take n (x ∷ y ∷ xs) ++ o ∷ []) (sym count)

pub last_got : {A : Type 0} (xs ys : List A) (o : A) → xs ≡ ys ++ o ∷ [] → slice_get xs (length xs - 1) ≡ Some o
last_got xs ys o e = subst (λ l. slice_get l (length l - 1) ≡ Some o) (sym e) (at_end ys o)
  where
    at_end : {A : Type 0} (ys : List A) (o : A) → slice_get (ys ++ o ∷ []) (length (ys ++ o ∷ []) - 1) ≡ Some o
    at_end [] o = refl
    at_end (y ∷ []) o = refl
    at_end (y ∷ z ∷ ys) o =
        let count : length (y ∷ z ∷ ys ++ o ∷ []) - 1 ≡ suc (length (z ∷ ys ++ o ∷ []) - 1) = omega arith in
        ap (slice_get (y ∷ z ∷ ys ++ o ∷ [])) count ∙ at_end (z ∷ ys) o

pub front_is : {A : Type 0} (xs ys : List A) (o : A) → xs ≡ ys ++ o ∷ [] → take (length xs - 1) xs ≡ ys
front_is xs ys o e =
    let split : xs ≡ take (length xs - 1) xs ++ o ∷ [] = split_last xs o (last_got xs ys o e) in
    (same_from_push (take (length xs - 1) xs) ys o o (sym split ∙ e)).0

pub below_front : (n : ℕ) (fs : List Frame) (f : Frame) → AreBelow n (fs ++ f ∷ []) → AreBelow n fs
below_front n [] f h = tt
below_front n (g ∷ fs) f h = (h.0, below_front n fs f h.1)

-- ---- what closing leaves

kept_in : (b : Bool) (a : ArenaView) (o : OpenCell) (os : List OpenCell) → HasCell a o.cell → AreIn a os → AreIn a (cond b (o ∷ os) os)
kept_in true a o os h k = (h, k)
kept_in false a o os h k = k

pub in_kept : (r : ℕ) (a : ArenaView) (os : List OpenCell) → AreIn a os → AreIn a (kept r os)
in_kept r a [] h = tt
in_kept r a (o ∷ os) h = kept_in (nat_lt o.register r) a o (kept r os) h.0 (in_kept r a os h.1)

closed_by : (b : Bool) (a : ArenaView) (c : CellId) (v : Value) (xs : List OpenCell) → AreIn a xs → AreIn (cond b a (with_cell a c v)) xs
closed_by true a c v xs h = h
closed_by false a c v xs h = in_stays a c v xs h

pub in_closed : (r : ℕ) (regs : List Value) (os : List OpenCell) (a : ArenaView) (xs : List OpenCell) → AreIn a xs → AreIn (closed r regs os a) xs
in_closed r regs [] a xs h = h
in_closed r regs (o ∷ os) a xs h =
    closed_by (nat_lt o.register r) (closed r regs os a) o.cell (get_or regs o.register Nil) xs (in_closed r regs os a xs h)

-- ---- frames that are taken off

pub popped_is : (b : Both) (f : Frame) → slice_get b.0.frames (length b.0.frames - 1) ≡ Some f → popped b ≡ without b f
unfolding popped
popped_is b f e = ap (λ q. option_map_or (without b) q b) e

pub popped_made : (s : StackView) (a a' : ArenaView) (f : Frame) (fs : List Frame) (cells : List OpenCell) (r : ℕ) → s.frames ≡ fs ++ f ∷ [] → r ≡ low f → cells ≡ kept r s.cells → a' ≡ closed r s.registers s.cells a → (record s { frames = fs; cells = cells }, a') ≡ popped (s, a)
popped_made s a a' f fs cells r e i is is' =
    ap (λ fs. (record s { frames = fs; cells = cells }, a')) (sym (front_is s.frames fs f e))
    ∙ ap (λ cells. (record s { frames = take (length s.frames - 1) s.frames; cells = cells }, a')) (is ∙ ap (λ r. kept r s.cells) i)
    ∙ ap (λ a'. (record s { frames = take (length s.frames - 1) s.frames; cells = kept (low f) s.cells }, a')) (is' ∙ ap (λ r. closed r s.registers s.cells a) i)
    ∙ sym (popped_is (s, a) f (last_got s.frames fs f e))

pub popped_in : (b : Both) (f : Frame) → slice_get b.0.frames (length b.0.frames - 1) ≡ Some f → AreIn b.1 b.0.cells → AreIn (popped b).1 (popped b).0.cells
popped_in b f e h =
    subst (λ p. AreIn p.1 p.0.cells) (sym (popped_is b f e))
    (in_closed (low f) b.0.registers b.0.cells b.1 (kept (low f) b.0.cells) (in_kept (low f) b.1 b.0.cells h))

pub popped_frames : (b : Both) (f : Frame) → slice_get b.0.frames (length b.0.frames - 1) ≡ Some f → (popped b).0.frames ≡ take (length b.0.frames - 1) b.0.frames
popped_frames b f e = ap (λ p. p.0.frames) (popped_is b f e)

-- ---- registers of the innermost frame

pub last_below : (n : ℕ) (fs gs : List Frame) (f : Frame) → fs ≡ gs ++ f ∷ [] → AreBelow n fs → f.base + f.registers ≤ n
last_below n fs gs f e h = at_end n gs f (subst (AreBelow n) e h)
  where
    at_end : (n : ℕ) (gs : List Frame) (f : Frame) → AreBelow n (gs ++ f ∷ []) → f.base + f.registers ≤ n
    at_end n [] f h = h.0
    at_end n (g ∷ gs) f h = at_end n gs f h.1

-- the innermost frame, as it is read
pub record Local (s : StackView) (r : ℕ) (f : Frame) : Type 0 where
  pub place : f.base + r ≡ place_of s r
  pub within : f.base + r < length s.registers

none_last : (s : StackView) (r : ℕ) (q : Option Frame) → slice_get s.frames (length s.frames - 1) ≡ q → IsSomeAnd q (λ f. r < f.registers) → 0 < length s.frames
none_last s r None e h = absurd h
none_last s r (Some f) e h = by s.frames e
  where
    by : (fs : List Frame) → slice_get fs (length fs - 1) ≡ Some f → 0 < length fs
    by [] e = absurd (cc)
    by (g ∷ fs) e = omega arith

pub some_frame : (s : StackView) (r : ℕ) → HasLocal s r → 0 < length s.frames
some_frame s r h = none_last s r (innermost s) refl h

pub read_last : (fs : List Frame) (i : ℕ) (f : Frame) → i < length fs → f ≡ get_or fs i f → slice_get fs i ≡ Some f
read_last [] i f h e = absurd (omega arith)
read_last (g ∷ fs) zero f h e = ap Some (sym e)
read_last (g ∷ fs) (suc i) f h e = read_last fs i f (omega arith) e

pub local_is : (s : StackView) (r : ℕ) (f : Frame) → HasLocal s r → AreBelow (length s.registers) s.frames → f ≡ get_or s.frames (length s.frames - 1) f → Local s r f
local_is s r f h below e =
    let some : 0 < length s.frames = some_frame s r h in
    let at : innermost s ≡ Some f = read_last s.frames (length s.frames - 1) f (omega arith) e in
    let low : r < f.registers = subst (λ q. IsSomeAnd q (λ f. r < f.registers)) at h in
    let high : f.base + f.registers ≤ length s.registers = last_below (length s.registers) s.frames (take (length s.frames - 1) s.frames) f (split_last s.frames f at) below in
    record { place = sym (ap (λ q. place_in q r) at); within = omega arith }

-- ---- frames apart

from_push : (n : ℕ) (fs : List Frame) (f : Frame) → AreFrom n fs → n ≤ f.base - f.extra → AreFrom n (fs ++ f ∷ [])
from_push n [] f h le = (le, tt)
from_push n (g ∷ fs) f h le = (h.0, from_push n fs f h.1 le)

pub apart_push : (fs : List Frame) (f : Frame) → AreApart fs → AreBelow (f.base - f.extra) fs → AreApart (fs ++ f ∷ [])
apart_push [] f h b = (tt, tt)
apart_push (g ∷ fs) f h b = (from_push (g.base + g.registers) fs f h.0 b.0, apart_push fs f h.1 b.1)

from_front : (n : ℕ) (fs : List Frame) (f : Frame) → AreFrom n (fs ++ f ∷ []) → AreFrom n fs
from_front n [] f h = tt
from_front n (g ∷ fs) f h = (h.0, from_front n fs f h.1)

pub apart_front : (fs : List Frame) (f : Frame) → AreApart (fs ++ f ∷ []) → AreApart fs
apart_front [] f h = tt
apart_front (g ∷ fs) f h = (from_front (g.base + g.registers) fs f h.0, apart_front fs f h.1)

from_last : (n : ℕ) (fs : List Frame) (f : Frame) → AreFrom n (fs ++ f ∷ []) → n ≤ f.base - f.extra
from_last n [] f h = h.0
from_last n (g ∷ fs) f h = from_last n fs f h.1

-- the frames outside the innermost lie below it
pub outer_below : (fs : List Frame) (f : Frame) → AreApart (fs ++ f ∷ []) → AreBelow (f.base - f.extra) fs
outer_below [] f h = tt
outer_below (g ∷ fs) f h = (from_last (g.base + g.registers) fs f h.0, outer_below fs f h.1)

-- ---- the arena grows

grows_by : (b : Bool) (a a' : ArenaView) (c : CellId) (v : Value) → Grows a a' → Grows a (cond b a' (with_cell a' c v))
grows_by true a a' c v g = g
grows_by false a a' c v g = grows_on a a' (with_cell a' c v) g (with_cell_grows a' c v)

pub closed_grows : (r : ℕ) (regs : List Value) (os : List OpenCell) (a : ArenaView) → Grows a (closed r regs os a)
closed_grows r regs [] a = grows_self a
closed_grows r regs (o ∷ os) a =
    grows_by (nat_lt o.register r) a (closed r regs os a) o.cell (get_or regs o.register Nil) (closed_grows r regs os a)
