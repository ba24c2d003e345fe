-- The innermost frame goes on at another place, or waits.
use Rattle.std.proofs.Common.{◌≡◌, ℕ, zero, suc, ◌+◌, ◌-◌, ◌<◌, ◌≤◌, max, Bool, true, false, cond, nat_lt, List, [], ◌∷◌, ◌++◌, map, reverse, replicate, length, set, Some, slice_get, IsSomeAnd, refl, sym, ◌∙◌, ap, subst, arith, lt-ltb, le-ltb}
use Rattle.std.specs.List.{AllByRecursion}
use Rattle.std.proofs.lemmas.Bool.{ltb-true, ltb-false}
use mathlib.Core.Path.{fun_ext}
use Rattle.value_model.specs.Values as m
use Rattle.value_model.specs.declared.event.Reply.{Reply}
use Rattle.value_model.specs.declared.ids.ClosureId.{ClosureId}
use Rattle.value_arena.specs.declared.closure.Closure.{Closure}
use Rattle.value_arena.specs.Arenas.{objects_of}
use Rattle.luau_tables.specs.declared.globals.LibWorld.{LibWorld}
use Rattle.call_frames.specs.declared.frame.Frame.{Frame}
use Rattle.call_frames.specs.declared.frame.OpenCell.{OpenCell}
use Rattle.call_frames.specs.declared.frame.ReturnKind.{ReturnKind}
use Rattle.call_frames.specs.declared.frame.ReturnKind.TheVariants.{Idle}
use Rattle.call_frames.specs.Stacks.{StackView}
use Rattle.call_frames.specs.Cells.{innermost, outer, with_innermost}
use Rattle.call_frames.specs.Cells as opens
use Rattle.call_frames.proofs.Closing.{split_last, last_got, front_is}
use Rattle.call_frames.proofs.Innermost.{replaced, with_innermost_is}
use Rattle.machine_meaning.specs.States as machine
use Rattle.machine_meaning.specs.States.{Register, Val, Registers, Focus, State}
use Rattle.machine_code.specs.declared.code.Code.{Code}
use Rattle.machine_world.specs.Functions.{register, window, function_of, waiting, running, functions_of, cells_of, wait_of, wait_in, purpose_of}
use Rattle.machine_world.specs.Parts.{world_with, state_with, part, waits_in, changed_in, changed, placed, awake, waits}
use Rattle.machine_world.specs.Sound.{IsOwnOf, first, later, AreOwn, IsFunctionOf, MayWaitInCode, MayWaitIn, MayWait, IsLuau, Runs, GoesOn, IsMachine}
use Rattle.machine_world.proofs.Frames.{inner, of_frame, functions_split}
use Rattle.machine_world.proofs.Written.{all_set}
use Rattle.machine_world.proofs.Calling.{reverse_last}

-- the innermost frame, with another place and another kind, and where its list of values ends
abbrev pub framed : StackView → Frame → (place : ℕ) → ReturnKind → (top : ℕ) → StackView
framed s f place kind top =
    record s { frames = set s.frames (length s.frames - 1) (record f { place = place; kind = kind }); top = top }

pub part_framed : (w : LibWorld) (code : Code) (s : StackView) (f : Frame) (c : ClosureId) (place top : ℕ) (kind : ReturnKind) (x : Focus) (replies : List Reply) → innermost s ≡ Some f → f.closure ≡ Some c → part w code (framed s f place kind top) x replies ≡ state_with w code s.frames x replies (record (running w.names (objects_of w.arena w.owner).closures s c f) { place = place; purpose = purpose_of w.names kind; top = top - f.base; registers = window w.names s.registers s.cells (max f.registers (top - f.base)) f.base } ∷ waiting w.names (objects_of w.arena w.owner).closures s.registers s.cells (reverse (outer s))) (cells_of w.names w.owner s w.arena)
unfolding part cells_of
part_framed w code s f c place top kind x replies e of =
    let g : Frame = record f { place = place; kind = kind } in
    let s' : StackView = framed s f place kind top in
    let cs : List Closure = (objects_of w.arena w.owner).closures in
    let cells : List m.Value = cells_of w.names w.owner s w.arena in
    let new : s'.frames ≡ outer s ++ g ∷ [] = replaced s.frames f g e in
    let now : machine.Frame = function_of w.names cs s.registers s.cells (max f.registers (top - f.base)) (top - f.base) c g in
    let functions : functions_of w.names cs s' ≡ now ∷ waiting w.names cs s.registers s.cells (reverse (outer s)) =
    functions_split w.names cs s' g c (last_got s'.frames (outer s) g new) of
    ∙ ap (λ fs. now ∷ waiting w.names cs s.registers s.cells (reverse fs)) (front_is s'.frames (outer s) g new) in
    let wait_g : wait_of w.names g ≡ wait_of w.names f = one g of ∙ sym (one f of) in
    let all : waits_in w s'.frames ≡ waits_in w s.frames =
    ap (λ l. map (wait_of w.names) l ∷ replicate (length (objects_of w.arena w.owner).threads - 1) []) (reverse_last s'.frames (outer s) g new)
    ∙ ap (λ k. (k ∷ map (wait_of w.names) (reverse (outer s))) ∷ replicate (length (objects_of w.arena w.owner).threads - 1) []) wait_g
    ∙ sym (ap (λ l. map (wait_of w.names) l ∷ replicate (length (objects_of w.arena w.owner).threads - 1) []) (reverse_last s.frames (outer s) f (split_last s.frames f e))) in
    ap (λ fs. state_with w code s'.frames x replies fs cells) functions
    ∙ ap (λ ws. record { focus = x; functions = now ∷ waiting w.names cs s.registers s.cells (reverse (outer s)); world = record (world_with w code s.frames replies cells) { waits = ws } }) all
  where
    one : (h : Frame) → h.closure ≡ Some c → wait_of w.names h ≡ wait_in w.names (Some c) h.kind
    one h k = ap (λ q. wait_in w.names q h.kind) k

-- ---- the place

pub part_placed : (w : LibWorld) (code : Code) (s : StackView) (place : ℕ) (x : Focus) (replies : List Reply) → Runs s →
    part w code (opens.placed place s) x replies ≡ changed (placed place) (part w code s x replies)
unfolding part
part_placed w code s place x replies runs =
    let i = inner s runs in
    let f = i.frame in
    let cs : List Closure = (objects_of w.arena w.owner).closures in
    ap (λ (t : StackView). part w code t x replies) (sym (with_innermost_is (λ f. record f { place = place }) s f i.is))
    ∙ part_framed w code s f i.closure place s.top f.kind x replies i.is i.of
    ∙ sym (ap (λ fs. changed_in (placed place) x fs (world_with w code s.frames replies (cells_of w.names w.owner s w.arena))) (functions_split w.names cs s f i.closure i.is i.of))

-- ---- a wait

cut_by : (b : Bool) (n t base q : ℕ) (r : Register) → nat_lt q n ≡ b →
    cond (nat_lt q (max n (0 - base))) r (Val m.Nil) ≡ cond b (cond (nat_lt q (max n t)) r (Val m.Nil)) (cond (nat_lt q 0) (cond (nat_lt q (max n t)) r (Val m.Nil)) (Val m.Nil))
cut_by true n t base q r e =
    let low : q < n = ltb-true q n e in
    ap (λ b. cond b r (Val m.Nil)) (lt-ltb q (max n (0 - base)) (omega (arith, low))) ∙ sym (ap (λ b. cond b r (Val m.Nil)) (lt-ltb q (max n t) (omega (arith, low))))
cut_by false n t base q r e =
    let high : n ≤ q = ltb-false q n e in
    ap (λ b. cond b r (Val m.Nil)) (le-ltb q (max n (0 - base)) (omega (arith, high)))
    ∙ sym (ap (λ b. cond b (cond (nat_lt q (max n t)) r (Val m.Nil)) (Val m.Nil)) (le-ltb q 0 (omega arith)))

pub part_waits : (w : LibWorld) (code : Code) (s : StackView) (kind : ReturnKind) (x : Focus) (replies : List Reply) → Runs s → part w code (record (opens.waiting kind s) { top = 0 }) x replies ≡ changed (waits (purpose_of w.names kind)) (part w code s x replies)
unfolding part
part_waits w code s kind x replies runs =
    let i = inner s runs in
    let f = i.frame in
    let cs : List Closure = (objects_of w.arena w.owner).closures in
    let run : machine.Frame = running w.names cs s i.closure f in
    let others : List machine.Frame = waiting w.names cs s.registers s.cells (reverse (outer s)) in
    let cells : List m.Value = cells_of w.names w.owner s w.arena in
    let none : 0 - f.base ≡ 0 = omega arith in
    ap (λ (t : StackView). part w code (record t { top = 0 }) x replies) (sym (with_innermost_is (λ f. record f { kind = kind }) s f i.is))
    ∙ part_framed w code s f i.closure f.place 0 kind x replies i.is i.of
    ∙ ap (λ rs. state_with w code s.frames x replies (record run { purpose = purpose_of w.names kind; top = 0 - f.base; registers = rs } ∷ others) cells)
    (fun_ext (λ q. cut_by (nat_lt q f.registers) f.registers (s.top - f.base) f.base q (register w.names s.registers s.cells (f.base + q)) refl))
    ∙ ap (λ t. state_with w code s.frames x replies (record run { purpose = purpose_of w.names kind; top = t; registers = machine.trimmed f.registers 0 run.registers } ∷ others) cells) none
    ∙ sym (ap (λ fs. changed_in (waits (purpose_of w.names kind)) x fs (world_with w code s.frames replies cells)) (functions_split w.names cs s f i.closure i.is i.of))

-- ---- what goes on to hold

own_changed : (fs : List Frame) (f g : Frame) (r : ℕ) → (f.base ≤ r → r < f.base + f.registers → (g.base ≤ r) × (r < g.base + g.registers)) →
    IsOwnOf (fs ++ f ∷ []) r → IsOwnOf (fs ++ g ∷ []) r
own_changed [] f g r of (first le lt) = let h = of le lt in first h.0 h.1
own_changed [] f g r of (later is) = elim is [ ]
own_changed (h ∷ fs) f g r of (first le lt) = first le lt
own_changed (h ∷ fs) f g r of (later is) = later (own_changed fs f g r of is)

are_own_changed : (fs : List Frame) (f g : Frame) (os : List OpenCell) →
    ((r : ℕ) → f.base ≤ r → r < f.base + f.registers → (g.base ≤ r) × (r < g.base + g.registers)) → AreOwn (fs ++ f ∷ []) os →
    AreOwn (fs ++ g ∷ []) os
are_own_changed fs f g [] of h = tt
are_own_changed fs f g (o ∷ os) of h = (own_changed fs f g o.register (of o.register) h.0, are_own_changed fs f g os of h.1)

pub all_last : {A : Type 0} (P : A → Type 0) (xs : List A) (i : ℕ) (x : A) → slice_get xs i ≡ Some x → AllByRecursion P xs → P x
all_last P [] i x e h = absurd (cc)
all_last P (y ∷ xs) zero x e h = let same : y ≡ x = cc in subst P same h.0
all_last P (y ∷ xs) (suc i) x e h = all_last P xs i x e h.1

pub keeps_framed : (w : LibWorld) (s : StackView) (f : Frame) (place top : ℕ) (kind : ReturnKind) → innermost s ≡ Some f →
    MayWaitIn w f.closure kind → IsMachine w s → IsMachine w (framed s f place kind top)
keeps_framed w s f place top kind e may is =
    let g : Frame = record f { place = place; kind = kind } in
    record {
      world = is.world;
      cells = is.cells;
      own = subst (λ fs. AreOwn fs s.cells) (sym (replaced s.frames f g e)) (are_own_changed (outer s) f g s.cells (λ r le lt. (le, lt)) (subst (λ fs. AreOwn fs s.cells) (split_last s.frames f e) is.own));
      values = is.values;
      functions = all_set (IsFunctionOf w.owner w.arena) s.frames (length s.frames - 1) g is.functions (all_last (IsFunctionOf w.owner w.arena) s.frames (length s.frames - 1) f e is.functions);
      kinds = all_set (MayWait w) s.frames (length s.frames - 1) g is.kinds may;
      shared = is.shared;
      main = is.main;
      marks = is.marks;
    }

pub keeps_placed : (w : LibWorld) (s : StackView) (place : ℕ) → Runs s → IsMachine w s → IsMachine w (opens.placed place s)
keeps_placed w s place runs is =
    let i = inner s runs in
    subst (IsMachine w) (with_innermost_is (λ f. record f { place = place }) s i.frame i.is) (keeps_framed w s i.frame place s.top i.frame.kind i.is (all_last (MayWait w) s.frames (length s.frames - 1) i.frame i.is is.kinds) is)

pub keeps_waits : (w : LibWorld) (s : StackView) (kind : ReturnKind) → Runs s → MayWaitInCode w kind → IsMachine w s →
    IsMachine w (record (opens.waiting kind s) { top = 0 })
keeps_waits w s kind runs may is =
    let i = inner s runs in
    subst (λ (t : StackView). IsMachine w (record t { top = 0 })) (with_innermost_is (λ f. record f { kind = kind }) s i.frame i.is) (keeps_framed w s i.frame i.frame.place 0 kind i.is (subst (λ q. MayWaitIn w q kind) (sym i.of) may) is)

pub some_frame : (s : StackView) → Runs s → 0 < length s.frames
some_frame s runs = let i = inner s runs in by s.frames i.is
  where
    by : {f : Frame} (fs : List Frame) → slice_get fs (length fs - 1) ≡ Some f → 0 < length fs
    by [] e = absurd (cc)
    by (g ∷ fs) e = omega arith

-- it still waits for no call
pub goes_placed : (s : StackView) (place : ℕ) → Runs s → GoesOn s → GoesOn (opens.placed place s)
goes_placed s place runs h =
    let i = inner s runs in
    let f = i.frame in
    let g : Frame = record f { place = place } in
    let s' : StackView = framed s f place f.kind s.top in
    let here : IsLuau f × (f.kind ≡ Idle) = of_frame s (λ f. IsLuau f × (f.kind ≡ Idle)) f i.is h in
    let now : innermost s' ≡ Some g = last_got s'.frames (outer s) g (replaced s.frames f g i.is) in
    subst GoesOn (with_innermost_is (λ f. record f { place = place }) s f i.is)
    (subst (λ q. IsSomeAnd q (λ f. IsLuau f × (f.kind ≡ Idle))) (sym now) here)

-- it waits for no call any more
pub part_awake : (w : LibWorld) (code : Code) (s : StackView) (x : Focus) (replies : List Reply) → Runs s →
    part w code (opens.waiting Idle s) x replies ≡ changed awake (part w code s x replies)
unfolding part
part_awake w code s x replies runs =
    let i = inner s runs in
    let f = i.frame in
    let cs : List Closure = (objects_of w.arena w.owner).closures in
    ap (λ (t : StackView). part w code t x replies) (sym (with_innermost_is (λ f. record f { kind = Idle }) s f i.is))
    ∙ part_framed w code s f i.closure f.place s.top Idle x replies i.is i.of
    ∙ sym (ap (λ fs. changed_in awake x fs (world_with w code s.frames replies (cells_of w.names w.owner s w.arena))) (functions_split w.names cs s f i.closure i.is i.of))

pub keeps_awake : (w : LibWorld) (s : StackView) → Runs s → IsMachine w s → IsMachine w (opens.waiting Idle s)
keeps_awake w s runs is =
    let i = inner s runs in
    subst (IsMachine w) (with_innermost_is (λ f. record f { kind = Idle }) s i.frame i.is) (keeps_framed w s i.frame i.frame.place s.top Idle i.is (subst (λ q. MayWaitIn w q Idle) (sym i.of) tt) is)

pub goes_awake : (s : StackView) → Runs s → GoesOn (opens.waiting Idle s)
goes_awake s runs =
    let i = inner s runs in
    let f = i.frame in
    let g : Frame = record f { kind = Idle } in
    let s' : StackView = framed s f f.place Idle s.top in
    let now : innermost s' ≡ Some g = last_got s'.frames (outer s) g (replaced s.frames f g i.is) in
    subst GoesOn (with_innermost_is (λ f. record f { kind = Idle }) s f i.is)
    (subst (λ q. IsSomeAnd q (λ f. IsLuau f × (f.kind ≡ Idle))) (sym now) (of_frame s IsLuau f i.is runs, refl))
