-- What is carried from one result to the next.
use Rattle.std.proofs.Common.{◌≡◌, ℕ, zero, suc, ◌<◌, ◌≤◌, List, [], ◌∷◌, length, map, get_or, slice_get, Option, Some, None, Result, Ok, Err, IfOk, OnOk, refl, sym, ◌∙◌, ap, subst, arith, inl, inr}
use Rattle.std.specs.List.{AllByRecursion}
use Rattle.std.specs.Option.{option_map_or}
use Rattle.value_model.specs.Owners.{wide}
use Rattle.value_model.specs.Parts.{meant}
use Rattle.value_model.specs.declared.event.Reply.{Reply}
use Rattle.value_model.specs.declared.ids.CellId.{CellId}
use Rattle.value_model.specs.declared.ids.ClosureId.{ClosureId}
use Rattle.value_model.specs.declared.ids.Owner.{Owner}
use Rattle.value_model.specs.declared.ids.Owner.TheVariants.{Frozen}
use Rattle.value_model.specs.declared.value.Value.{Value}
use Rattle.value_model.specs.declared.value.Value.TheVariants as value
use Rattle.value_arena.specs.declared.closure.Closure.{Closure}
use Rattle.value_arena.specs.Arenas.{ArenaView, HasCell, HasClosure, objects_of, next_cell, new_cell}
use Rattle.value_arena.specs.Owning.{MaySee}
use Rattle.luau_tables.specs.Worlds.{MayUseIn}
use Rattle.luau_tables.specs.declared.globals.LibWorld.{LibWorld}
use Rattle.call_frames.specs.declared.frame.Frame.{Frame}
use Rattle.call_frames.specs.Stacks.{StackView, Layout}
use Rattle.call_frames.specs.Cells.{AreIn, place_of, end_of, called, cell_on, opened, register_at}
use Rattle.call_frames.specs.Cells as opens
use Rattle.machine_meaning.specs.States.{Focus}
use Rattle.machine_code.specs.declared.code.Code.{Code}
use Rattle.machine_world.specs.Parts.{Becomes, changed, captured, captured_cell, read_of, part, entered}
use Rattle.machine_world.specs.Sound.{IsCell, HasRegister, IsMachine}
use Rattle.machine_world.proofs.Captured.{Three, part_capture, keeps_capture}
use Rattle.machine_world.proofs.Calling.{part_called, keeps_called}

pub if_ok : {A E : Type 0} (P Q : A → Type 0) (q : Result A E) → ((x : A) → P x → Q x) → IfOk q P → IfOk q Q
if_ok P Q (Ok x) f h = f x h
if_ok P Q (Err e) f h = tt

pub ok_then : {A E : Type 0} (P : A → Type 0) (Q : Type 0) (q : Result A E) → ((x : A) → P x → Q) → IfOk q P → OnOk q Q
ok_then P Q (Ok x) f h = f x h
ok_then P Q (Err e) f h = tt

pub on_ok : {A E : Type 0} (P Q : Type 0) (q : Result A E) → (P → Q) → OnOk q P → OnOk q Q
on_ok P Q (Ok x) f h = f h
on_ok P Q (Err e) f h = tt

pub some_at : {A : Type 0} (xs : List A) (i : ℕ) (d : A) → i < length xs → slice_get xs i ≡ Some (get_or xs i d)
some_at [] i d lt = absurd (omega (arith, lt))
some_at (x ∷ xs) zero d lt = refl
some_at (x ∷ xs) (suc i) d lt = some_at xs i d (omega (arith, lt))

-- ---- captures

-- what comes of a capture
pub record Captures (w : LibWorld) (code : Code) (s s' : StackView) (a' : ArenaView) (r : ℕ) (c : CellId) : Type 0 where
  pub becomes : Becomes (changed (λ i. (captured r i).inside)) w code s (record w { arena = a' }) s'
  pub place : (x : Focus) (replies : List Reply) → c.place ≡ read_of 0 (captured_cell r) (part w code s x replies)
  pub own : IsCell w.owner a' c
  pub sound : IsMachine (record w { arena = a' }) s'

one_captures : (w : LibWorld) (code : Code) (s s' : StackView) (a' : ArenaView) (r place : ℕ) (c : CellId) →
    (c, s', a') ≡ opens.captured s w.arena w.owner place → HasCell a' c × AreIn a' s'.cells → place ≡ place_of s r → HasRegister s r → Layout s →
    IsMachine w s → Captures w code s s' a' r c
one_captures w code s s' a' r place c e has at h layout is =
    let t : Three = (c, s', a') in
    let is_t : t ≡ opens.captured s w.arena w.owner (place_of s r) = e ∙ ap (opens.captured s w.arena w.owner) at in
    let kept = keeps_capture w s r t is_t has.0 h layout is in
    record {
      becomes = λ x replies. ap (λ p. p.1) (part_capture w code s r x replies t is_t has.0 h layout is);
      place = λ x replies. ap (λ p. p.0) (part_capture w code s r x replies t is_t has.0 h layout is);
      own = kept.1;
      sound = kept.0;
    }

pub captures : {E : Type 0} (w : LibWorld) (code : Code) (s s' : StackView) (a' : ArenaView) (r place : ℕ) (q : Result CellId E) →
    IfOk q (λ c. (c, s', a') ≡ opens.captured s w.arena w.owner place) → IfOk q (λ c. HasCell a' c × AreIn a' s'.cells) → place ≡ place_of s r →
    HasRegister s r → Layout s → IsMachine w s → IfOk q (λ c. Captures w code s s' a' r c)
captures w code s s' a' r place (Ok c) e has at h layout is = one_captures w code s s' a' r place c e has at h layout is
captures w code s s' a' r place (Err x) e has at h layout is = tt

-- the frames stay
pub captured_frames : (s : StackView) (a : ArenaView) (u : Owner) (r : ℕ) → (opens.captured s a u r).1.frames ≡ s.frames
unfolding opens.captured
captured_frames s a u r = by (cell_on r s.cells)
  where
    new : Three
    new = (next_cell a u, record s { cells = opened r (next_cell a u) s.cells }, new_cell a u (register_at s r))

    frames_of : Three → List Frame
    frames_of t = t.1.frames

    by : (q : Option CellId) → frames_of (option_map_or (λ c. (c, s, a)) q new) ≡ s.frames
    by None = refl
    by (Some c) = refl

-- ---- calls

-- nobody has a function
pub own_closure : (w : LibWorld) (c : ClosureId) → (objects_of w.arena Frozen).closures ≡ [] → MaySee w.owner (wide c.owner) × HasClosure w.arena c →
    (wide c.owner ≡ w.owner) × HasClosure w.arena c
unfolding HasClosure
own_closure w c none (inl e, has) = (e, has)
own_closure w c none (inr e, has) =
    let low : c.place < length (objects_of w.arena Frozen).closures = subst (λ u. c.place < length (objects_of w.arena u).closures) e has in
    let empty : List Closure = [] in
    let no : c.place < length empty = subst (λ (cs : List Closure). c.place < length cs) none low in
    absurd (omega (arith, no))

pub enters : (w : LibWorld) (code : Code) (s s' : StackView) (c : ClosureId) (n : ℕ) (given extra : List Value) → s' ≡ called c n given extra s →
    s.top ≡ 0 → length given ≤ n → end_of s ≤ length s.registers → Layout s → IsMachine w s →
    Becomes (entered c.place n (map (meant w.names) given) (map (meant w.names) extra)) w code s w s'
enters w code s s' c n given extra e none le high layout is =
    λ x replies. ap (λ (s : StackView). part w code s x replies) e ∙ part_called w code s c n given extra x replies none le high layout is

pub keeps_enter : (w : LibWorld) (s s' : StackView) (c : ClosureId) (n : ℕ) (given extra : List Value) → s' ≡ called c n given extra s →
    MayUseIn w (value.Closure c) → AllByRecursion (MayUseIn w) given → AllByRecursion (MayUseIn w) extra → IsMachine w s → IsMachine w s'
keeps_enter w s s' c n given extra e may h k is =
    subst (IsMachine w) (sym e) (keeps_called w s c n given extra (own_closure w c is.world.own.shared.closures may.0) h k is)
