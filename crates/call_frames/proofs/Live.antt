-- Which registers the open cells stand for, and that no cell is open twice.
use Rattle.std.proofs.Common.{◌≡◌, ◌≢◌, ℕ, ◌+◌, ◌-◌, ◌<◌, ◌≤◌, Bool, true, false, cond, nat_eq, nat_lt, List, [], ◌∷◌, ◌++◌, length, take, Option, Some, None, IsSomeAnd, refl, sym, subst, arith}
use Rattle.std.proofs.lemmas.Bool.{ltb-true}
use Rattle.value_model.specs.declared.ids.CellId.{CellId}
use Rattle.value_model.specs.declared.ids.Owner.{Owner}
use Rattle.value_arena.specs.Arenas.{ArenaView, HasCell, next_cell}
use Rattle.value_arena.specs.Growing.{Grows}
use Rattle.value_arena.proofs.Growing.{cell_fresh, cell_stays}
use Rattle.call_frames.specs.declared.frame.Frame.{Frame}
use Rattle.call_frames.specs.declared.frame.OpenCell.{OpenCell}
use Rattle.call_frames.specs.Stacks.{StackView, AreBelow, IsOf, IsLive, here, there, AreLive, AreOther, Once}
use Rattle.call_frames.specs.Cells.{AreIn, IsOwn, cell_on, innermost, kept, low, opened}
use Rattle.call_frames.proofs.Closing.{split_last, last_below}

-- ---- live registers

live_push : (fs : List Frame) (f : Frame) (r : ℕ) → IsLive fs r → IsLive (fs ++ f ∷ []) r
live_push [] f r h = elim h [ ]
live_push (g ∷ fs) f r (here h) = here h
live_push (g ∷ fs) f r (there h) = there (live_push fs f r h)

pub are_live_push : (fs : List Frame) (f : Frame) (os : List OpenCell) → AreLive fs os → AreLive (fs ++ f ∷ []) os
are_live_push fs f [] h = tt
are_live_push fs f (o ∷ os) h = (live_push fs f o.register h.0, are_live_push fs f os h.1)

live_front : (fs : List Frame) (f : Frame) (r : ℕ) → r < low f → IsLive (fs ++ f ∷ []) r → IsLive fs r
live_front [] f r lt (here h) = absurd (omega (arith, lt, h.0))
live_front [] f r lt (there h) = elim h [ ]
live_front (g ∷ fs) f r lt (here h) = here h
live_front (g ∷ fs) f r lt (there h) = there (live_front fs f r lt h)

popped_by : (b : Bool) (fs : List Frame) (f : Frame) (o : OpenCell) (os : List OpenCell) → nat_lt o.register (low f) ≡ b → IsLive (fs ++ f ∷ []) o.register → AreLive fs os → AreLive fs (cond b (o ∷ os) os)
popped_by true fs f o os e h k = (live_front fs f o.register (ltb-true o.register (low f) e) h, k)
popped_by false fs f o os e h k = k

-- the innermost frame is taken off, and the cells of its registers with it
pub live_popped : (fs : List Frame) (f : Frame) (os : List OpenCell) → AreLive (fs ++ f ∷ []) os → AreLive fs (kept (low f) os)
live_popped fs f [] h = tt
live_popped fs f (o ∷ os) h =
    popped_by (nat_lt o.register (low f)) fs f o (kept (low f) os) refl h.0 (live_popped fs f os h.1)

live_kept_by : (b : Bool) (fs : List Frame) (o : OpenCell) (os : List OpenCell) → IsLive fs o.register → AreLive fs os → AreLive fs (cond b (o ∷ os) os)
live_kept_by true fs o os h k = (h, k)
live_kept_by false fs o os h k = k

pub live_kept : (fs : List Frame) (r : ℕ) (os : List OpenCell) → AreLive fs os → AreLive fs (kept r os)
live_kept fs r [] h = tt
live_kept fs r (o ∷ os) h = live_kept_by (nat_lt o.register r) fs o (kept r os) h.0 (live_kept fs r os h.1)

live_opened_by : (b : Bool) (fs : List Frame) (r : ℕ) (c : CellId) (o : OpenCell) (os ps : List OpenCell) → IsLive fs r → IsLive fs o.register → AreLive fs os → AreLive fs ps → AreLive fs (cond b (o ∷ ps) (record { register = r; cell = c } ∷ o ∷ os))
live_opened_by true fs r c o os ps l h k p = (h, p)
live_opened_by false fs r c o os ps l h k p = (l, (h, k))

pub live_opened : (fs : List Frame) (r : ℕ) (c : CellId) (os : List OpenCell) → IsLive fs r → AreLive fs os → AreLive fs (opened r c os)
live_opened fs r c [] l h = (l, tt)
live_opened fs r c (o ∷ os) l h =
    live_opened_by (nat_lt o.register r) fs r c o os (opened r c os) l h.0 h.1 (live_opened fs r c os l h.1)

live_last : (fs : List Frame) (f : Frame) (r : ℕ) → IsOf f r → IsLive (fs ++ f ∷ []) r
live_last [] f r h = here h
live_last (g ∷ fs) f r h = there (live_last fs f r h)

-- a register of the innermost frame is live
pub own_live : (s : StackView) (r : ℕ) → IsOwn s r → IsLive s.frames r
own_live s r h = by (innermost s) refl h
  where
    by : (q : Option Frame) → innermost s ≡ q → IsSomeAnd q (λ f. (f.base ≤ r) × (r < f.base + f.registers)) → IsLive s.frames r
    by None e k = absurd k
    by (Some f) e k =
        subst (λ fs. IsLive fs r) (sym (split_last s.frames f e))
        (live_last (take (length s.frames - 1) s.frames) f r (omega (arith, k.0), k.1))

-- ---- cells that are open once

other_kept_by : (b : Bool) (c : CellId) (o : OpenCell) (os : List OpenCell) → c ≢ o.cell → AreOther c os → AreOther c (cond b (o ∷ os) os)
other_kept_by true c o os h k = (h, k)
other_kept_by false c o os h k = k

pub other_kept : (r : ℕ) (c : CellId) (os : List OpenCell) → AreOther c os → AreOther c (kept r os)
other_kept r c [] h = tt
other_kept r c (o ∷ os) h = other_kept_by (nat_lt o.register r) c o (kept r os) h.0 (other_kept r c os h.1)

once_kept_by : (b : Bool) (o : OpenCell) (os : List OpenCell) → AreOther o.cell os → Once os → Once (cond b (o ∷ os) os)
once_kept_by true o os h k = (h, k)
once_kept_by false o os h k = k

pub once_kept : (r : ℕ) (os : List OpenCell) → Once os → Once (kept r os)
once_kept r [] h = tt
once_kept r (o ∷ os) h =
    once_kept_by (nat_lt o.register r) o (kept r os) (other_kept r o.cell os h.0) (once_kept r os h.1)

other_opened_by : (b : Bool) (r : ℕ) (c d : CellId) (o : OpenCell) (os ps : List OpenCell) → c ≢ d → c ≢ o.cell → AreOther c os → AreOther c ps → AreOther c (cond b (o ∷ ps) (record { register = r; cell = d } ∷ o ∷ os))
other_opened_by true r c d o os ps n h k p = (h, p)
other_opened_by false r c d o os ps n h k p = (n, (h, k))

other_opened : (r : ℕ) (c d : CellId) (os : List OpenCell) → c ≢ d → AreOther c os → AreOther c (opened r d os)
other_opened r c d [] n h = (n, tt)
other_opened r c d (o ∷ os) n h =
    other_opened_by (nat_lt o.register r) r c d o os (opened r d os) n h.0 h.1 (other_opened r c d os n h.1)

once_opened_by : (b : Bool) (r : ℕ) (c : CellId) (o : OpenCell) (os ps : List OpenCell) → AreOther c (o ∷ os) → Once (o ∷ os) → AreOther o.cell ps → Once ps → Once (cond b (o ∷ ps) (record { register = r; cell = c } ∷ o ∷ os))
once_opened_by true r c o os ps n h k p = (k, p)
once_opened_by false r c o os ps n h k p = (n, h)

pub once_opened : (r : ℕ) (c : CellId) (os : List OpenCell) → AreOther c os → Once os → Once (opened r c os)
once_opened r c [] n h = (tt, tt)
once_opened r c (o ∷ os) n h =
    once_opened_by (nat_lt o.register r) r c o os (opened r c os) n h
    (other_opened r o.cell c os (λ e. n.0 (sym e)) h.0) (once_opened r c os n.1 h.1)

-- a new cell is none of those that are open
pub fresh_other : (a : ArenaView) (w : Owner) (os : List OpenCell) → AreIn a os → AreOther (next_cell a w) os
fresh_other a w [] h = tt
fresh_other a w (o ∷ os) h =
    ((λ e. cell_fresh a w (subst (HasCell a) (sym e) h.0)), fresh_other a w os h.1)

-- a register of the innermost frame is there
pub own_within : (s : StackView) (r : ℕ) → IsOwn s r → AreBelow (length s.registers) s.frames → r < length s.registers
own_within s r h below = by (innermost s) refl h
  where
    by : (q : Option Frame) → innermost s ≡ q → IsSomeAnd q (λ f. (f.base ≤ r) × (r < f.base + f.registers)) → r < length s.registers
    by None e k = absurd k
    by (Some f) e k =
        omega (arith, k.1, last_below (length s.registers) s.frames (take (length s.frames - 1) s.frames) f (split_last s.frames f e) below)

-- ---- open cells are of the arena

pub in_grown : (a b : ArenaView) (os : List OpenCell) → Grows a b → AreIn a os → AreIn b os
in_grown a b [] g h = tt
in_grown a b (o ∷ os) g h = (cell_stays a b o.cell g h.0, in_grown a b os g h.1)

in_opened_by : (b : Bool) (a : ArenaView) (r : ℕ) (c : CellId) (o : OpenCell) (os ps : List OpenCell) → HasCell a c → HasCell a o.cell → AreIn a os → AreIn a ps → AreIn a (cond b (o ∷ ps) (record { register = r; cell = c } ∷ o ∷ os))
in_opened_by true a r c o os ps n h k p = (h, p)
in_opened_by false a r c o os ps n h k p = (n, (h, k))

pub in_opened : (a : ArenaView) (r : ℕ) (c : CellId) (os : List OpenCell) → HasCell a c → AreIn a os → AreIn a (opened r c os)
in_opened a r c [] n h = (n, tt)
in_opened a r c (o ∷ os) n h =
    in_opened_by (nat_lt o.register r) a r c o os (opened r c os) n h.0 h.1 (in_opened a r c os n h.1)

in_found_by : (b : Bool) (a : ArenaView) (d c : CellId) (q : Option CellId) → HasCell a d → (q ≡ Some c → HasCell a c) → cond b (Some d) q ≡ Some c → HasCell a c
in_found_by true a d c q h k e = let one : d ≡ c = cc in subst (HasCell a) one h
in_found_by false a d c q h k e = k e

pub in_found : (a : ArenaView) (r : ℕ) (c : CellId) (os : List OpenCell) → AreIn a os → cell_on r os ≡ Some c → HasCell a c
in_found a r c [] h e = cc
in_found a r c (o ∷ os) h e =
    in_found_by (nat_eq o.register r) a o.cell c (cell_on r os) h.0 (in_found a r c os h.1) e
