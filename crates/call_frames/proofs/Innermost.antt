-- The innermost frame is changed.
use Rattle.std.proofs.Common.{◌≡◌, ℕ, suc, ◌+◌, ◌-◌, ◌<◌, ◌≤◌, List, [], ◌∷◌, ◌++◌, length, take, set, Option, Some, None, IsSomeAnd, slice_get, refl, sym, ◌∙◌, ap, subst, arith}
use Rattle.std.specs.Option.{option_map_or}
use Rattle.call_frames.specs.declared.frame.Frame.{Frame}
use Rattle.call_frames.specs.declared.frame.ReturnKind.{ReturnKind}
use Rattle.call_frames.specs.declared.frame.OpenCell.{OpenCell}
use Rattle.call_frames.specs.Stacks.{StackView, Layout, AreBelow, AreApart, IsOf, IsLive, here, there, AreLive, pushed}
use Rattle.call_frames.specs.Cells.{innermost, outer, low, with_innermost, MayHaveExtra, HasLocal, IsOwn, place_in, place_of}
use Rattle.call_frames.proofs.Closing.{split_last, last_got, front_is, below_front, below_further, below_push, last_below, apart_front, apart_push, outer_below}

-- the last of a list is replaced
pub replaced : (fs : List Frame) (f g : Frame) → slice_get fs (length fs - 1) ≡ Some f → set fs (length fs - 1) g ≡ take (length fs - 1) fs ++ g ∷ []
replaced [] f g e = absurd (cc)
replaced (x ∷ []) f g e = refl
replaced (x ∷ y ∷ fs) f g e =
    let count : length (x ∷ y ∷ fs) - 1 ≡ suc (length (y ∷ fs) - 1) = omega arith in
    let last : slice_get (y ∷ fs) (length (y ∷ fs) - 1) ≡ Some f = subst (λ n. slice_get (x ∷ y ∷ fs) n ≡ Some f) count e in
    ap (λ n. set (x ∷ y ∷ fs) n g) count ∙ ap (λ l. x ∷ l) (replaced (y ∷ fs) f g last)
    ∙ sym (ap (λ n. take n (x ∷ y ∷ fs) ++ g ∷ []) count)

live_changed : (fs : List Frame) (f g : Frame) (r : ℕ) → (IsOf f r → IsOf g r) → IsLive (fs ++ f ∷ []) r → IsLive (fs ++ g ∷ []) r
live_changed [] f g r of (here h) = here (of h)
live_changed [] f g r of (there h) = elim h [ ]
live_changed (x ∷ fs) f g r of (here h) = here h
live_changed (x ∷ fs) f g r of (there h) = there (live_changed fs f g r of h)

all_live_changed : (fs : List Frame) (f g : Frame) (os : List OpenCell) → ((r : ℕ) → IsOf f r → IsOf g r) → AreLive (fs ++ f ∷ []) os → AreLive (fs ++ g ∷ []) os
all_live_changed fs f g [] of h = tt
all_live_changed fs f g (o ∷ os) of h = (live_changed fs f g o.register (of o.register) h.0, all_live_changed fs f g os of h.1)

-- how frames lie, with the cells that are open
pub record Lie (end : ℕ) (fs : List Frame) (os : List OpenCell) : Type 0 where
  pub below : AreBelow end fs
  pub apart : AreApart fs
  pub live : AreLive fs os

-- the registers of the one frame are the other's too, and reach no higher
pub record Covers (f g : Frame) : Type 0 where
  pub low : g.base - g.extra ≤ f.base - f.extra
  pub high : g.base + g.registers ≡ f.base + f.registers

pub lie_changed : (end : ℕ) (fs : List Frame) (os : List OpenCell) (f g : Frame) → slice_get fs (length fs - 1) ≡ Some f → Covers f g → AreBelow (low g) (take (length fs - 1) fs) → Lie end fs os → Lie end (set fs (length fs - 1) g) os
lie_changed end fs os f g e covers apart h =
    let gs : List Frame = take (length fs - 1) fs in
    let split : fs ≡ gs ++ f ∷ [] = split_last fs f e in
    let high : f.base + f.registers ≤ end = last_below end fs gs f split h.below in
    subst (λ l. Lie end l os) (sym (replaced fs f g e))
    (record {
      below = below_push end gs g (below_front end gs f (subst (AreBelow end) split h.below)) (omega (arith, high, covers.high));
      apart = apart_push gs g (apart_front gs f (subst AreApart split h.apart)) apart;
      live = all_live_changed gs f g os (λ r of. (omega (arith, of.0, covers.low), omega (arith, of.1, covers.high))) (subst (λ l. AreLive l os) split h.live);
    })

-- it goes on at another instruction
pub lie_placed : (end : ℕ) (fs : List Frame) (os : List OpenCell) (f : Frame) (place : ℕ) → slice_get fs (length fs - 1) ≡ Some f → Lie end fs os → Lie end (set fs (length fs - 1) (record f { place = place })) os
lie_placed end fs os f place e h =
    lie_changed end fs os f (record f { place = place }) e (record { low = omega arith; high = refl })
    (outer_below (take (length fs - 1) fs) f (subst AreApart (split_last fs f e) h.apart)) h

-- what it waits for is given to it otherwise
pub lie_kind : (end : ℕ) (fs : List Frame) (os : List OpenCell) (f : Frame) (kind : ReturnKind) → slice_get fs (length fs - 1) ≡ Some f → Lie end fs os → Lie end (set fs (length fs - 1) (record f { kind = kind })) os
lie_kind end fs os f kind e h =
    lie_changed end fs os f (record f { kind = kind }) e (record { low = omega arith; high = refl })
    (outer_below (take (length fs - 1) fs) f (subst AreApart (split_last fs f e) h.apart)) h

-- it has so many variable arguments
pub lie_extended : (end : ℕ) (s : StackView) (f : Frame) (extra : ℕ) → innermost s ≡ Some f → MayHaveExtra s extra → Lie end s.frames s.cells → Lie end (set s.frames (length s.frames - 1) (record f { extra = extra })) s.cells
lie_extended end s f extra e may h =
    let here : (extra ≤ f.base) × (f.extra ≤ extra) × AreBelow (f.base - extra) (outer s) = subst (λ q. IsSomeAnd q (λ f. (extra ≤ f.base) × (f.extra ≤ extra) × AreBelow (f.base - extra) (outer s))) e may in
    lie_changed end s.frames s.cells f (record f { extra = extra }) e (record { low = omega (arith, here.1); high = refl }) here.2 h

-- what the definition comes to
pub with_innermost_is : (change : Frame → Frame) (s : StackView) (f : Frame) → innermost s ≡ Some f → record s { frames = set s.frames (length s.frames - 1) (change f) } ≡ with_innermost change s
unfolding with_innermost
with_innermost_is change s f e =
    sym (ap (λ q. option_map_or (λ f. record s { frames = set s.frames (length s.frames - 1) (change f) }) q s) e)

-- there is an innermost frame
pub some_last : (fs : List Frame) (P : Frame → Type 0) → IsSomeAnd (slice_get fs (length fs - 1)) P → 0 < length fs
some_last [] P h = absurd h
some_last (x ∷ fs) P h = omega arith

-- ---- for those who push frames

-- a frame is pushed behind the innermost one
pub all_below : (n : ℕ) (s : StackView) (f : Frame) → Layout s → innermost s ≡ Some f → f.base + f.registers ≤ n → AreBelow n s.frames
all_below n s f layout e le =
    let gs : List Frame = outer s in
    let split : s.frames ≡ gs ++ f ∷ [] = split_last s.frames f e in
    let outside : AreBelow (f.base - f.extra) gs = outer_below gs f (subst AreApart split layout.apart) in
    subst (AreBelow n) (sym split)
    (below_push n gs f (below_further (f.base - f.extra) n gs (omega (arith, le)) outside) le)

-- a frame that was pushed is the innermost one
pub pushed_innermost : (s : StackView) (f : Frame) → innermost (pushed s f) ≡ Some f
pushed_innermost s f = last_got (s.frames ++ f ∷ []) s.frames f refl

pub pushed_outer : (s : StackView) (f : Frame) → outer (pushed s f) ≡ s.frames
pushed_outer s f = front_is (s.frames ++ f ∷ []) s.frames f refl

may_have : (s : StackView) (f : Frame) (extra : ℕ) → innermost s ≡ Some f → (extra ≤ f.base) × (f.extra ≤ extra) × AreBelow (f.base - extra) (outer s) → MayHaveExtra s extra
may_have s f extra e h =
    subst (λ q. IsSomeAnd q (λ f. (extra ≤ f.base) × (f.extra ≤ extra) × AreBelow (f.base - extra) (outer s))) (sym e) h

-- and has the variable arguments for which there was room
pub pushed_extra : (s : StackView) (f : Frame) (extra : ℕ) → extra ≤ f.base → f.extra ≤ extra → AreBelow (f.base - extra) s.frames → MayHaveExtra (pushed s f) extra
pushed_extra s f extra room more below =
    may_have (pushed s f) f extra (pushed_innermost s f) (room, more, subst (AreBelow (f.base - extra)) (sym (pushed_outer s f)) below)

-- ---- registers of the innermost frame

-- each of them may be captured
pub local_own : (s : StackView) (r : ℕ) → HasLocal s r → IsOwn s (place_of s r)
local_own s r h = by (innermost s) h
  where
    by : (q : Option Frame) → IsSomeAnd q (λ f. r < f.registers) → IsSomeAnd q (λ f. (f.base ≤ place_in q r) × (place_in q r < f.base + f.registers))
    by None h = h
    by (Some f) h = (omega arith, omega (arith, h))
