-- Where the registers of the innermost frame end.
use Rattle.std.proofs.Common.{◌≡◌, ℕ, suc, ◌+◌, ◌-◌, ◌<◌, ◌≤◌, List, [], ◌∷◌, ◌++◌, length, take, get_or, replicate, Option, Some, None, IsSomeAnd, slice_get, refl, sym, ◌∙◌, ap, subst, arith}
use Rattle.std.proofs.lemmas.List.{length-append, length-take, length-replicate}
use Rattle.value_model.specs.declared.value.Value.{Value}
use Rattle.value_model.specs.declared.value.Value.TheVariants.{Nil}
use Rattle.call_frames.specs.declared.frame.Frame.{Frame}
use Rattle.call_frames.specs.declared.frame.OpenCell.{OpenCell}
use Rattle.call_frames.specs.Stacks.{StackView, Layout, Rises, AreBelow, AreApart, IsLive, here, there, AreLive, Once}
use Rattle.call_frames.specs.Cells.{innermost, end_in, end_of, entered_frame, library_frame, place_in, place_of, HasPlace}
use Rattle.call_frames.proofs.Closing.{split_last, last_below, read_last, below_push, apart_push}
use Rattle.call_frames.proofs.Live.{are_live_push}
use Rattle.value_model.specs.declared.ids.ClosureId.{ClosureId}
use Rattle.call_frames.specs.declared.frame.ReturnKind.{ReturnKind}
use Rattle.call_frames.proofs.Innermost.{all_below}

nothing_last : {A : Type 0} (y : A) (xs : List A) → y ∷ xs ≡ [] → ⊥
nothing_last y xs e = absurd (cc)

pub no_last : {A : Type 0} (xs : List A) → slice_get xs (length xs - 1) ≡ None → xs ≡ []
no_last [] e = refl
no_last (x ∷ []) e = absurd (cc)
no_last (x ∷ y ∷ xs) e =
    let count : length (x ∷ y ∷ xs) - 1 ≡ suc (length (y ∷ xs) - 1) = omega arith in
    absurd (nothing_last y xs (no_last (y ∷ xs) (subst (λ n. slice_get (x ∷ y ∷ xs) n ≡ None) count e)))

-- the innermost frame, as it is read
pub record EndsAt (s : StackView) (f : Frame) : Type 0 where
  pub is : innermost s ≡ Some f
  pub at : end_of s ≡ f.base + f.registers
  pub within : f.base + f.registers ≤ length s.registers

pub ends_at : (s : StackView) (f : Frame) → 0 < length s.frames → f ≡ get_or s.frames (length s.frames - 1) f →
    AreBelow (length s.registers) s.frames → EndsAt s f
ends_at s f some e below =
    let is : innermost s ≡ Some f = read_last s.frames (length s.frames - 1) f (omega (arith, some)) e in
    record {
      is = is;
      at = ap end_in is;
      within = last_below (length s.registers) s.frames (take (length s.frames - 1) s.frames) f (split_last s.frames f is) below;
    }

pub end_none : (s : StackView) → length s.frames ≡ 0 → end_of s ≡ 0
end_none s e = by s.frames e
  where
    by : (fs : List Frame) → length fs ≡ 0 → end_in (slice_get fs (length fs - 1)) ≡ 0
    by [] e = refl
    by (f ∷ fs) e = absurd (omega (arith, e))

pub below_end : (s : StackView) → Layout s → AreBelow (end_of s) s.frames
below_end s layout = by (innermost s) refl
  where
    by : (q : Option Frame) → slice_get s.frames (length s.frames - 1) ≡ q → AreBelow (end_in q) s.frames
    by None e = subst (AreBelow 0) (sym (no_last s.frames e)) tt
    by (Some f) e = all_below (f.base + f.registers) s f layout e (omega arith)

live_low : (n r : ℕ) (fs : List Frame) → AreBelow n fs → IsLive fs r → r < n
live_low n r [] below is = elim is [ ]
live_low n r (f ∷ fs) below (here h) = omega (arith, below.0, h.1)
live_low n r (f ∷ fs) below (there is) = live_low n r fs below.1 is

rises_low : (first end n : ℕ) (fs : List Frame) (os : List OpenCell) → AreBelow n fs → AreLive fs os → Rises first end os → Rises first n os
rises_low first end n fs [] below live h = tt
rises_low first end n fs (o ∷ os) below live h =
    (h.0, live_low n o.register fs below live.0, rises_low (o.register + 1) end n fs os below live.1 h.2)

below_on : (n m : ℕ) (fs : List Frame) → n ≤ m → AreBelow n fs → AreBelow m fs
below_on n m [] le h = tt
below_on n m (f ∷ fs) le h = (omega (arith, le, h.0), below_on n m fs le h.1)

-- what lies behind the end may go, and other registers come there
pub lies_on : (s : StackView) (m : ℕ) → Layout s → end_of s ≤ m → Rises 0 m s.cells × AreBelow m s.frames
lies_on s m layout le =
    let below : AreBelow m s.frames = below_on (end_of s) m s.frames le (below_end s layout) in
    (rises_low 0 (length s.registers) m s.frames s.cells below layout.live layout.rises, below)

-- the frame that has a place
pub placed_at : (s : StackView) (f : Frame) (to : ℕ) → innermost s ≡ Some f → HasPlace s to → (place_of s to ≡ f.base + to) × (to ≤ f.registers)
placed_at s f to e h = (ap (λ q. place_in q to) e, subst (λ q. IsSomeAnd q (λ f. to ≤ f.registers)) e h)

pub some_place : (s : StackView) (to : ℕ) → HasPlace s to → 0 < length s.frames
some_place s to h = by s.frames h
  where
    by : (fs : List Frame) → IsSomeAnd (slice_get fs (length fs - 1)) (λ f. to ≤ f.registers) → 0 < length fs
    by [] h = absurd h
    by (f ∷ fs) h = omega arith

-- ---- a function is entered

-- as the invariant of a stack has it
abbrev pub Lying : StackView → Type 0
Lying s =
    Rises 0 (length s.registers) s.cells × (s.top ≤ length s.registers) × AreBelow (length s.registers) s.frames × AreApart s.frames × AreLive s.frames s.cells × Once s.cells

pub lying_on : (s : StackView) (regs : List Value) (top : ℕ) (fs : List Frame) → Layout s → end_of s ≤ length regs → top ≤ length regs → fs ≡ s.frames → Lying (record s { registers = regs; top = top; frames = fs })
lying_on s regs top fs layout le high e =
    let on = lies_on s (length regs) layout le in
    (on.0, high, subst (AreBelow (length regs)) (sym e) on.1, subst AreApart (sym e) layout.apart, subst (λ fs. AreLive fs s.cells) (sym e) layout.live, layout.once)

called_long : (s : StackView) (n : ℕ) (given extra : List Value) → end_of s ≤ length s.registers → length given ≤ n →
    length (take (end_of s) s.registers ++ extra ++ given ++ replicate (n - length given) Nil) ≡ end_of s + length extra + n
called_long s n given extra le few =
    let low : List Value = take (end_of s) s.registers in
    let nils : List Value = replicate (n - length given) Nil in
    omega (arith, le, few, length-append (low ++ extra ++ given) nils, length-append (low ++ extra) given, length-append low extra, length-take (end_of s) s.registers, length-replicate (n - length given) Nil)

pub called_lies : (s : StackView) (c : ClosureId) (n : ℕ) (given extra regs : List Value) (fs : List Frame) → Layout s → end_of s ≤ length s.registers → length given ≤ n → regs ≡ take (end_of s) s.registers ++ extra ++ given ++ replicate (n - length given) Nil → fs ≡ s.frames ++ entered_frame c (end_of s + length extra) n (length extra) ∷ [] → Lying (record s { registers = regs; top = end_of s + length extra + length given; frames = fs })
called_lies s c n given extra regs fs layout le few is frames =
    let f : Frame = entered_frame c (end_of s + length extra) n (length extra) in
    let long : length regs ≡ end_of s + length extra + n = ap length is ∙ called_long s n given extra le few in
    let on = lies_on s (length regs) layout (omega (arith, long)) in
    let low : AreBelow (f.base - f.extra) s.frames = subst (λ k. AreBelow k s.frames) (back (end_of s) (length extra)) (below_end s layout) in (
      on.0,
      omega (arith, long, few),
      subst (AreBelow (length regs)) (sym frames) (below_push (length regs) s.frames f on.1 (omega (arith, long))),
      subst AreApart (sym frames) (apart_push s.frames f layout.apart low),
      subst (λ fs. AreLive fs s.cells) (sym frames) (are_live_push s.frames f s.cells layout.live),
      layout.once,
    )
  where
    back : (e k : ℕ) → e ≡ e + k - k
    back e k = omega arith

-- ---- a library function waits

pub library_lies : (s : StackView) (kind : ReturnKind) (fs : List Frame) → Layout s → end_of s ≤ length s.registers → fs ≡ s.frames ++ library_frame (end_of s) kind ∷ [] → Lying (record s { frames = fs })
library_lies s kind fs layout le e =
    let f : Frame = library_frame (end_of s) kind in
    let low : AreBelow (f.base - f.extra) s.frames = subst (λ k. AreBelow k s.frames) (none (end_of s)) (below_end s layout) in (
      layout.rises,
      layout.top,
      subst (AreBelow (length s.registers)) (sym e) (below_push (length s.registers) s.frames f layout.below (omega (arith, le))),
      subst AreApart (sym e) (apart_push s.frames f layout.apart low),
      subst (λ fs. AreLive fs s.cells) (sym e) (are_live_push s.frames f s.cells layout.live),
      layout.once,
    )
  where
    none : (e : ℕ) → e ≡ e - 0
    none e = omega arith
