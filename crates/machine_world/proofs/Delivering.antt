-- Values are delivered to the function that runs.
use Rattle.std.proofs.Common.{◌≡◌, ◌≢◌, ℕ, zero, suc, ◌+◌, ◌-◌, ◌<◌, ◌≤◌, max, Bool, true, false, cond, nat_eq, nat_lt, List, [], ◌∷◌, ◌++◌, map, reverse, replicate, length, take, drop, get_or, set, Option, Some, None, IsSomeAnd, refl, sym, ◌∙◌, ap, subst, arith, lt-ltb, le-ltb, ◌⊎◌, inl, inr, ⊎_elim, length-append, append-nil, append_assoc}
use Rattle.std.specs.List.{AllByRecursion}
use Rattle.std.proofs.lemmas.List.{length-map, length-set, length-take, length-replicate, take-append-drop, take-append-le, take-take, take_at, take_more_set, drop-set-lt, drop_all, get_or-append_right}
use Rattle.std.proofs.lemmas.Bool.{ltb-true, ltb-false, cases_lt}
use Rattle.std.proofs.lemmas.Bool.Decides.{eqb_tells}
use mathlib.Core.Path.{fun_ext}
use Rattle.value_model.specs.Parts.{meant}
use Rattle.value_model.specs.Values as m
use Rattle.value_model.specs.declared.event.Reply.{Reply}
use Rattle.value_model.specs.declared.ids.ClosureId.{ClosureId}
use Rattle.value_model.specs.declared.value.Value.{Value}
use Rattle.value_model.specs.declared.value.Value.TheVariants as value
use Rattle.value_arena.specs.declared.closure.Closure.{Closure}
use Rattle.value_arena.specs.Arenas.{objects_of}
use Rattle.luau_tables.specs.Worlds.{MayUseIn}
use Rattle.luau_tables.specs.declared.globals.LibWorld.{LibWorld}
use Rattle.luau_tables.proofs.Sameness.{nil_is}
use Rattle.call_frames.specs.declared.frame.Frame.{Frame}
use Rattle.call_frames.specs.Stacks.{StackView, Layout, Rises, AreBelow}
use Rattle.call_frames.specs.Cells.{cell_on, HasPlace, innermost, outer, place_of, end_in, end_of, overlaid, delivered}
use Rattle.call_frames.proofs.Ending.{lies_on}
use Rattle.machine_meaning.specs.States as machine
use Rattle.machine_meaning.specs.States.{Register, Val, Open, Registers, Focus, State, Inside, put, write, set_all, with_cells}
use Rattle.machine_meaning.specs.Moves.{inside}
use Rattle.machine_code.specs.declared.code.Code.{Code}
use Rattle.machine_world.specs.Functions.{register, window, waiting, running, functions_of, laid, kept_cells, cells_of}
use Rattle.machine_world.specs.Parts as parts
use Rattle.machine_world.specs.Parts.{world_with, state_with, part, changed_in, changed}
use Rattle.machine_world.specs.Sound.{IsLuau, Runs, HasPlaceOf, IsMachine}
use Rattle.machine_world.proofs.Registers.{shown}
use Rattle.machine_world.proofs.Frames.{inner, of_frame, functions_split, lies, functions_changed}
use Rattle.machine_world.proofs.Written.{after, write_at, all_set, keeps_registers}
use Rattle.machine_world.proofs.Calling.{below_end, none_above, register_front, laid_front, given_get, all_take, all_append, all_replicate}

-- ---- the machine: values are written to a frame that is cut first, or that is trimmed afterwards

-- beyond its own registers, and beyond one, nothing is left, and its list of values ends at a place
abbrev pub cut : (top k : ℕ) → machine.Frame → machine.Frame
cut top k f = record f { registers = λ q. cond (nat_lt q (max f.size k)) (f.registers q) (Val m.Nil); top = top }

abbrev pub cut_in : (top k : ℕ) → Inside → Inside
cut_in top k i = record i { frame = cut top k i.frame }

abbrev pub ended_in : (top : ℕ) → Inside → Inside
ended_in top i = record i { frame = machine.ended top i.frame }

-- no register beyond its own is open
abbrev pub IsPlain : machine.Frame → Type 0
IsPlain f = (q : ℕ) → f.size ≤ q → (u : m.Value) × (f.registers q ≡ Val u)

plain_written : (reg : Register) (to : ℕ) (v : m.Value) (i : Inside) → IsPlain i.frame → IsPlain (write reg to v i).frame
plain_written (Val u) to v i plain = λ q le. by (nat_eq q to) (plain q le)
  where
    by : {q : ℕ} (b : Bool) → ((u : m.Value) × (i.frame.registers q ≡ Val u)) → (u : m.Value) × (cond b (Val v) (i.frame.registers q) ≡ Val u)
    by true h = (v, refl)
    by false h = h
plain_written (Open c) to v i plain = plain

bound_same : (n to q : ℕ) → q ≢ to → nat_lt q (max n to) ≡ nat_lt q (max n (suc to))
bound_same n to q ne = ⊎_elim (λ lt. below lt) (λ le. above le) (cases_lt q (max n to))
  where
    below : q < max n to → nat_lt q (max n to) ≡ nat_lt q (max n (suc to))
    below lt = lt-ltb q (max n to) lt ∙ sym (lt-ltb q (max n (suc to)) (omega (arith, lt)))

    above : max n to ≤ q → nat_lt q (max n to) ≡ nat_lt q (max n (suc to))
    above le = le-ltb q (max n to) le ∙ sym (le-ltb q (max n (suc to)) (omega (arith, le, ne)))

put_cut : (n to q : ℕ) (regs : Registers) (v : m.Value) →
    put (λ q. cond (nat_lt q (max n to)) (regs q) (Val m.Nil)) to (Val v) q ≡ cond (nat_lt q (max n (suc to))) (put regs to (Val v) q) (Val m.Nil)
put_cut n to q regs v = ⊎_elim (λ h. here h.0 h.1) (λ h. there h.0 h.1) (eqb_tells q to)
  where
    here : nat_eq q to ≡ true → q ≡ to →
        put (λ q. cond (nat_lt q (max n to)) (regs q) (Val m.Nil)) to (Val v) q ≡ cond (nat_lt q (max n (suc to))) (put regs to (Val v) q) (Val m.Nil)
    here t e =
        ap (λ b. cond b (Val v) (cond (nat_lt q (max n to)) (regs q) (Val m.Nil))) t
        ∙ sym (ap (λ b. cond b (cond (nat_eq q to) (Val v) (regs q)) (Val m.Nil)) (lt-ltb q (max n (suc to)) (omega (arith, e))) ∙ ap (λ b. cond b (Val v) (regs q)) t)

    there : nat_eq q to ≡ false → q ≢ to →
        put (λ q. cond (nat_lt q (max n to)) (regs q) (Val m.Nil)) to (Val v) q ≡ cond (nat_lt q (max n (suc to))) (put regs to (Val v) q) (Val m.Nil)
    there t ne =
        ap (λ b. cond b (Val v) (cond (nat_lt q (max n to)) (regs q) (Val m.Nil))) t
        ∙ ap (λ b. cond b (regs q) (Val m.Nil)) (bound_same n to q ne)
        ∙ sym (ap (λ b. cond (nat_lt q (max n (suc to))) (cond b (Val v) (regs q)) (Val m.Nil)) t)

-- a plain register
set_plain : (top to : ℕ) (u v : m.Value) (i : Inside) → write (Val u) to v (cut_in top to i) ≡ cut_in top (suc to) (write (Val u) to v i)
set_plain top to u v i =
    ap (λ rs. record i { frame = record i.frame { registers = rs; top = top } }) (fun_ext (λ q. put_cut i.frame.size to q i.frame.registers v))

set_own : (top to : ℕ) (v : m.Value) (i : Inside) (reg : Register) → to < i.frame.size →
    write reg to v (cut_in top to i) ≡ cut_in top (suc to) (write reg to v i)
set_own top to v i (Val u) low = set_plain top to u v i
set_own top to v i (Open c) low =
    let same : max i.frame.size to ≡ max i.frame.size (suc to) = omega (arith, low) in
    ap (λ n. record { frame = record i.frame { registers = λ q. cond (nat_lt q n) (i.frame.registers q) (Val m.Nil); top = top }; world = with_cells (set i.world.objects.cells c v) i.world }) same

set_cut : (top to : ℕ) (v : m.Value) (i : Inside) → IsPlain i.frame → machine.set to v (cut_in top to i) ≡ cut_in top (suc to) (machine.set to v i)
set_cut top to v i plain = ⊎_elim (λ low. own low) (λ high. behind high) (cases_lt to i.frame.size)
  where
    own : to < i.frame.size → machine.set to v (cut_in top to i) ≡ cut_in top (suc to) (machine.set to v i)
    own low =
        ap (λ b. write (cond b (i.frame.registers to) (Val m.Nil)) to v (cut_in top to i)) (lt-ltb to (max i.frame.size to) (omega (arith, low)))
        ∙ set_own top to v i (i.frame.registers to) low

    behind : i.frame.size ≤ to → machine.set to v (cut_in top to i) ≡ cut_in top (suc to) (machine.set to v i)
    behind high =
        let p = plain to high in
        ap (λ b. write (cond b (i.frame.registers to) (Val m.Nil)) to v (cut_in top to i)) (le-ltb to (max i.frame.size to) (omega (arith, high)))
        ∙ set_plain top to p.0 v i
        ∙ sym (ap (λ reg. cut_in top (suc to) (write reg to v i)) p.1)

trim_by : (b : Bool) (n to q : ℕ) (r : Register) → nat_lt q n ≡ b → cond (nat_lt q (max n to)) r (Val m.Nil) ≡ cond b r (cond (nat_lt q to) r (Val m.Nil))
trim_by true n to q r e = let low : q < n = ltb-true q n e in ap (λ b. cond b r (Val m.Nil)) (lt-ltb q (max n to) (omega (arith, low)))
trim_by false n to q r e =
    let high : n ≤ q = ltb-false q n e in
    ⊎_elim (λ lt. ap (λ b. cond b r (Val m.Nil)) (lt-ltb q (max n to) (omega (arith, lt)) ∙ sym (lt-ltb q to lt)))
    (λ le. ap (λ b. cond b r (Val m.Nil)) (le-ltb q (max n to) (omega (arith, le, high)) ∙ sym (le-ltb q to le))) (cases_lt q to)

commute : (to top : ℕ) (vs : List m.Value) (i : Inside) → top ≡ to + length vs → IsPlain i.frame →
    set_all to vs (cut_in top to i) ≡ ended_in top (set_all to vs i)
commute to top [] i e plain =
    let same : to ≡ top = omega (arith, e) in
    ap (λ rs. record i { frame = record i.frame { registers = rs; top = top } })
    (fun_ext (λ q. trim_by (nat_lt q i.frame.size) i.frame.size to q (i.frame.registers q) refl ∙ ap (λ t. machine.trimmed i.frame.size t i.frame.registers q) same))
commute to top (v ∷ vs) i e plain =
    ap (λ j. set_all (suc to) vs j) (set_cut top to v i plain)
    ∙ commute (suc to) top vs (machine.set to v i) (omega (arith, e)) (plain_written (i.frame.registers to) to v i plain)

-- ---- changes of states

pub changed_twice : (g h : Inside → Inside) (s : State) → changed g (changed h s) ≡ changed (λ i. g (h i)) s
changed_twice g h s = by s.functions
  where
    by : (fs : List machine.Frame) → changed g (changed_in h s.focus fs s.world) ≡ changed_in (λ i. g (h i)) s.focus fs s.world
    by [] = refl
    by (f ∷ fs) = refl

pub changed_same : (s : State) → changed (λ i. i) s ≡ s
changed_same s = by s.functions
  where
    by : (fs : List machine.Frame) → changed_in (λ i. i) s.focus fs s.world ≡ record { focus = s.focus; functions = fs; world = s.world }
    by [] = refl
    by (f ∷ fs) = refl

-- ---- registers are written one after another

abbrev pub writes : List Value → (at : ℕ) → List Value → List Value
writes regs at [] = regs
writes regs at (v ∷ vs) = writes (set regs at v) (suc at) vs

writes_is : (regs : List Value) (at : ℕ) (vs : List Value) → at + length vs ≤ length regs → writes regs at vs ≡ overlaid regs at vs
writes_is regs at [] le =
    let none : at ≡ at + 0 = omega arith in
    sym (take-append-drop at regs) ∙ ap (λ n. take at regs ++ drop n regs) none ∙ ap (λ l. l ++ drop (at + 0) regs) (sym (append-nil (take at regs)))
writes_is regs at (v ∷ vs) le =
    let one : suc at ≡ at + 1 = omega arith in
    let end : suc at + length vs ≡ at + suc (length vs) = omega arith in
    writes_is (set regs at v) (suc at) vs (omega (arith, le, length-set regs at v))
    ∙ ap (λ n. take n (set regs at v) ++ vs ++ drop (suc at + length vs) (set regs at v)) one
    ∙ ap (λ l. l ++ vs ++ drop (suc at + length vs) (set regs at v)) (take_more_set regs at v (omega (arith, le)))
    ∙ ap (λ l. l ++ drop (suc at + length vs) (set regs at v)) (append_assoc (take at regs) (v ∷ []) vs)
    ∙ ap (λ l. take at regs ++ v ∷ vs ++ l) (drop-set-lt (suc at + length vs) regs at v (omega arith))
    ∙ ap (λ n. take at regs ++ v ∷ vs ++ drop n regs) end

layout_set : (s : StackView) (k : ℕ) (v : Value) → Layout s → Layout (record s { registers = set s.registers k v })
layout_set s k v layout =
    let e : length s.registers ≡ length (set s.registers k v) = sym (length-set s.registers k v) in
    record {
      below = subst (λ n. AreBelow n s.frames) e layout.below;
      apart = layout.apart;
      rises = subst (λ n. Rises 0 n s.cells) e layout.rises;
      top = subst (λ n. s.top ≤ n) e layout.top;
      live = layout.live;
      once = layout.once;
    }

part_writes : (w : LibWorld) (code : Code) (x : Focus) (replies : List Reply) (vs : List Value) (s : StackView) (f : Frame) (c : ClosureId) (r : ℕ) → innermost s ≡ Some f → f.closure ≡ Some c → r + length vs ≤ max f.registers (s.top - f.base) → f.base + r + length vs ≤ length s.registers → Layout s → IsMachine w s → AllByRecursion (MayUseIn w) vs → part w code (record s { registers = writes s.registers (f.base + r) vs }) x replies ≡ changed (set_all r (map (meant w.names) vs)) (part w code s x replies)
part_writes w code x replies [] s f c r e of wide long layout is may = sym (changed_same (part w code s x replies))
part_writes w code x replies (v ∷ vs) s f c r e of wide long layout is may =
    let regs : List Value = set s.registers (f.base + r) v in
    let s3 : StackView = record s { registers = regs } in
    let at : suc (f.base + r) ≡ f.base + suc r = omega arith in
    let is3 : IsMachine w s3 = keeps_registers w s regs s.top (all_set (MayUseIn w) s.registers (f.base + r) v is.values may.0) is in
    ap (λ k. part w code (record s { registers = writes regs k vs }) x replies) at
    ∙ part_writes w code x replies vs s3 f c (suc r) e of (omega (arith, wide)) (omega (arith, long, length-set s.registers (f.base + r) v)) (layout_set s (f.base + r) v layout) is3 may.1
    ∙ ap (changed (set_all (suc r) (map (meant w.names) vs))) (write_at w code s r v x replies f c e of (omega (arith, wide)) (omega (arith, long)) layout is)
    ∙ changed_twice (set_all (suc r) (map (meant w.names) vs)) (machine.set r (meant w.names v)) (part w code s x replies)

-- ---- room for the values

-- registers up to an end, and so many more, which are nil
abbrev room : (end more : ℕ) → List Value → List Value
room end more regs = take end regs ++ replicate more value.Nil

room_long : (end more : ℕ) (regs : List Value) → end ≤ length regs → length (room end more regs) ≡ end + more
room_long end more regs le =
    omega (arith, le, length-append (take end regs) (replicate more value.Nil), length-take end regs, length-replicate more value.Nil)

room_front : (end more : ℕ) (regs : List Value) → end ≤ length regs → take end (room end more regs) ≡ take end regs
room_front end more regs le = take_at (take end regs) (replicate more value.Nil) end (length-take end regs ∙ omega (arith, le))

room_behind : (end more i : ℕ) (regs : List Value) → end ≤ length regs → end ≤ i → get_or (room end more regs) i value.Nil ≡ value.Nil
room_behind end more i regs le high =
    get_or-append_right (take end regs) (replicate more value.Nil) end i value.Nil (length-take end regs ∙ omega (arith, le)) high
    ∙ given_get [] more (i - end)

-- values over it are as over the registers alone
room_overlaid : (end at : ℕ) (regs vs : List Value) → end ≤ length regs → at ≤ end →
    overlaid (room end (at + length vs - end) regs) at vs ≡ overlaid (take end regs) at vs
room_overlaid end at regs vs le high =
    let more : ℕ = at + length vs - end in
    let low : List Value = take end regs in
    let nils : List Value = replicate more value.Nil in
    let long : length low ≡ end = length-take end regs ∙ omega (arith, le) in
    let all : length (low ++ nils) ≡ end + more = room_long end more regs le in
    ap (λ l. l ++ vs ++ drop (at + length vs) (low ++ nils)) (take-append-le at low nils (omega (arith, long, high)))
    ∙ ap (λ l. take at low ++ vs ++ l) (rest low nils long all refl (cases_lt (at + length vs) end))
  where
    rest : (low nils : List Value) → length low ≡ end → length (low ++ nils) ≡ end + (at + length vs - end) →
        nils ≡ replicate (at + length vs - end) value.Nil → ((at + length vs < end) ⊎ (end ≤ at + length vs)) →
        drop (at + length vs) (low ++ nils) ≡ drop (at + length vs) low
    rest low nils long all is (inl lt) =
        let none : at + length vs - end ≡ 0 = omega (arith, lt) in
        ap (λ l. drop (at + length vs) (low ++ l)) (is ∙ ap (λ n. replicate n value.Nil) none) ∙ ap (λ l. drop (at + length vs) l) (append-nil low)
    rest low nils long all is (inr ge) =
        drop_all (at + length vs) (low ++ nils) (omega (arith, all, ge)) ∙ sym (drop_all (at + length vs) low (omega (arith, long, ge)))

-- ---- the state with that room

abbrev cutting : StackView → Frame → (to n : ℕ) → StackView
cutting s f to n =
    record s { registers = room (f.base + f.registers) (f.base + to + n - (f.base + f.registers)) s.registers; top = f.base + to + n }

cut_window : (b : Bool) (w : LibWorld) (s : StackView) (f : Frame) (to n q : ℕ) → nat_lt q f.registers ≡ b →
    f.base + f.registers ≤ length s.registers → to ≤ f.registers → cell_on (f.base + q) s.cells ≡ cell_on (f.base + q) s.cells →
    (f.registers ≤ q → cell_on (f.base + q) s.cells ≡ None) →
    window w.names (room (f.base + f.registers) (f.base + to + n - (f.base + f.registers)) s.registers) s.cells (max f.registers (f.base + to + n - f.base)) f.base q ≡ cond (nat_lt q (max f.registers to)) (window w.names s.registers s.cells (max f.registers (s.top - f.base)) f.base q) (Val m.Nil)
cut_window true w s f to n q e high le same none =
    let low : q < f.registers = ltb-true q f.registers e in
    let end : ℕ = f.base + f.registers in
    let more : ℕ = f.base + to + n - end in
    let reg : Register = register w.names s.registers s.cells (f.base + q) in
    ap (λ b. cond b (register w.names (room end more s.registers) s.cells (f.base + q)) (Val m.Nil)) (lt-ltb q (max f.registers (f.base + to + n - f.base)) (omega (arith, low)))
    ∙ register_front w.names s.registers (room end more s.registers) s.cells end (f.base + q) (room_front end more s.registers high) (omega (arith, low))
    ∙ sym (ap (λ b. cond b (cond (nat_lt q (max f.registers (s.top - f.base))) reg (Val m.Nil)) (Val m.Nil)) (lt-ltb q (max f.registers to) (omega (arith, low)))
    ∙ ap (λ b. cond b reg (Val m.Nil)) (lt-ltb q (max f.registers (s.top - f.base)) (omega (arith, low))))
cut_window false w s f to n q e high le same none =
    let above : f.registers ≤ q = ltb-false q f.registers e in
    let end : ℕ = f.base + f.registers in
    let more : ℕ = f.base + to + n - end in
    let nil : register w.names (room end more s.registers) s.cells (f.base + q) ≡ Val m.Nil =
    ap (shown w.names (room end more s.registers) (f.base + q)) (none above)
    ∙ ap (λ v. Val (meant w.names v)) (room_behind end more (f.base + q) s.registers high (omega (arith, above)))
    ∙ ap Val (nil_is w.names) in
    ap (λ r. cond (nat_lt q (max f.registers (f.base + to + n - f.base))) r (Val m.Nil)) nil
    ∙ both (nat_lt q (max f.registers (f.base + to + n - f.base)))
    ∙ sym (ap (λ b. cond b (window w.names s.registers s.cells (max f.registers (s.top - f.base)) f.base q) (Val m.Nil)) (le-ltb q (max f.registers to) (omega (arith, above, le))))
  where
    both : (b : Bool) → cond b (Val m.Nil) (Val m.Nil) ≡ Val m.Nil
    both true = refl
    both false = refl

end_is : (s : StackView) (f : Frame) → innermost s ≡ Some f → end_of s ≡ f.base + f.registers
end_is s f e = ap end_in e

part_cut : (w : LibWorld) (code : Code) (s : StackView) (f : Frame) (c : ClosureId) (to n : ℕ) (x : Focus) (replies : List Reply) →
    innermost s ≡ Some f → f.closure ≡ Some c → to ≤ f.registers → Layout s → IsMachine w s →
    part w code (cutting s f to n) x replies ≡ changed (cut_in (to + n) to) (part w code s x replies)
unfolding part cells_of
part_cut w code s f c to n x replies e of le layout is =
    let end : ℕ = f.base + f.registers in
    let more : ℕ = f.base + to + n - end in
    let regs : List Value = room end more s.registers in
    let l = lies s f e layout in
    let cs : List Closure = (objects_of w.arena w.owner).closures in
    let kept : List m.Value = kept_cells w.names w.owner w.arena in
    let cells : List m.Value = laid w.names s.registers s.cells kept in
    let run : machine.Frame = running w.names cs s c f in
    let others : List machine.Frame = waiting w.names cs s.registers s.cells (reverse (outer s)) in
    let below : AreBelow end s.frames = subst (λ k. AreBelow k s.frames) (end_is s f e) (below_end s layout) in
    let front : take end regs ≡ take end s.registers = room_front end more s.registers l.high in
    let top : f.base + to + n - f.base ≡ to + n = omega arith in
    let base_front : take f.base regs ≡ take f.base s.registers = sym (take-take f.base end regs (omega arith)) ∙ ap (λ l. take f.base l) front ∙ take-take f.base end s.registers (omega arith) in
    let functions : functions_of w.names cs (cutting s f to n) ≡ record run { registers = (cut (to + n) to run).registers; top = f.base + to + n - f.base } ∷ others =
    functions_changed w.names cs s f c regs s.cells (f.base + to + n) (cut (to + n) to run).registers (f.base - f.extra) e of l.below (omega arith) base_front
    (λ q h. register_front w.names s.registers regs s.cells end q front (omega (arith, h)))
    (λ q. cut_window (nat_lt q f.registers) w s f to n q refl l.high le refl (λ above. none_above end (f.base + q) s.frames s.cells below is.own (omega (arith, above)))) in
    ap (λ fs. state_with w code s.frames x replies fs (laid w.names regs s.cells kept)) functions
    ∙ ap (λ t. state_with w code s.frames x replies (record run { registers = (cut (to + n) to run).registers; top = t } ∷ others) (laid w.names regs s.cells kept)) top
    ∙ ap (λ xs. state_with w code s.frames x replies (cut (to + n) to run ∷ others) xs) (laid_front w.names s.registers regs end s.frames s.cells kept front below is.own)
    ∙ sym (ap (λ fs. changed_in (cut_in (to + n) to) x fs (world_with w code s.frames replies cells)) (functions_split w.names cs s f c e of))

-- no register of the function that runs is open beyond its own
run_plain : (w : LibWorld) (s : StackView) (f : Frame) (c : ClosureId) → innermost s ≡ Some f → Layout s → IsMachine w s →
    IsPlain (running w.names (objects_of w.arena w.owner).closures s c f)
run_plain w s f c e layout is = λ q le.
    let below : AreBelow (f.base + f.registers) s.frames = subst (λ k. AreBelow k s.frames) (end_is s f e) (below_end s layout) in
    by q (nat_lt q (max f.registers (s.top - f.base))) (none_above (f.base + f.registers) (f.base + q) s.frames s.cells below is.own (omega (arith, le)))
  where
    by : (q : ℕ) (b : Bool) → cell_on (f.base + q) s.cells ≡ None →
        (u : m.Value) × (cond b (register w.names s.registers s.cells (f.base + q)) (Val m.Nil) ≡ Val u)
    by q true none = (meant w.names (get_or s.registers (f.base + q) value.Nil), ap (shown w.names s.registers (f.base + q)) none)
    by q false none = (m.Nil, refl)

-- ---- values are delivered

part_ended : (w : LibWorld) (code : Code) (s : StackView) (f : Frame) (c : ClosureId) (to : ℕ) (vs : List m.Value) (x : Focus) (replies : List Reply) →
    innermost s ≡ Some f → f.closure ≡ Some c → Layout s → IsMachine w s →
    changed (λ i. set_all to vs (cut_in (to + length vs) to i)) (part w code s x replies) ≡ changed (parts.delivered to vs) (part w code s x replies)
unfolding part
part_ended w code s f c to vs x replies e of layout is =
    let cs : List Closure = (objects_of w.arena w.owner).closures in
    let run : machine.Frame = running w.names cs s c f in
    let others : List machine.Frame = waiting w.names cs s.registers s.cells (reverse (outer s)) in
    let world : machine.World = world_with w code s.frames replies (cells_of w.names w.owner s w.arena) in
    let split = functions_split w.names cs s f c e of in
    ap (λ fs. changed_in (λ i. set_all to vs (cut_in (to + length vs) to i)) x fs world) split
    ∙ ap (after x others) (commute to (to + length vs) vs (inside run world) refl (run_plain w s f c e layout is))
    ∙ sym (ap (λ fs. changed_in (parts.delivered to vs) x fs world) split)

pub place_low : (s : StackView) (to : ℕ) (f : Frame) → innermost s ≡ Some f → HasPlaceOf s to → to ≤ f.registers
place_low s to f e h = (of_frame s (λ f. IsLuau f × (to ≤ f.registers)) f e h).1

luau_some : (to : ℕ) (q : Option Frame) → IsSomeAnd q (λ f. IsLuau f × (to ≤ f.registers)) → IsSomeAnd q IsLuau
luau_some to None h = h
luau_some to (Some f) h = h.0

pub runs_place : (s : StackView) (to : ℕ) → HasPlaceOf s to → Runs s
runs_place s to h = luau_some to (innermost s) h

place_some : (to : ℕ) (q : Option Frame) → IsSomeAnd q (λ f. IsLuau f × (to ≤ f.registers)) → IsSomeAnd q (λ f. to ≤ f.registers)
place_some to None h = h
place_some to (Some f) h = h.1

pub has_place : (s : StackView) (to : ℕ) → HasPlaceOf s to → HasPlace s to
has_place s to h = place_some to (innermost s) h

pub part_delivered : (w : LibWorld) (code : Code) (s : StackView) (to : ℕ) (vs : List Value) (x : Focus) (replies : List Reply) → HasPlaceOf s to →
    Layout s → IsMachine w s → AllByRecursion (MayUseIn w) vs →
    part w code (delivered to vs s) x replies ≡ changed (parts.delivered to (map (meant w.names) vs)) (part w code s x replies)
unfolding delivered
part_delivered w code s to vs x replies h layout is may =
    let i = inner s (runs_place s to h) in
    let f = i.frame in
    let le : to ≤ f.registers = place_low s to f i.is h in
    let l = lies s f i.is layout in
    let end : ℕ = f.base + f.registers in
    let n : ℕ = length vs in
    let more : ℕ = f.base + to + n - end in
    let regs : List Value = room end more s.registers in
    let s1 : StackView = cutting s f to n in
    let long : length regs ≡ end + more = room_long end more s.registers l.high in
    let on = lies_on s (length regs) layout (omega (arith, long, end_is s f i.is)) in
    let layout1 : Layout s1 = record { below = on.1; apart = layout.apart; rises = on.0; top = omega (arith, long); live = layout.live; once = layout.once } in
    let is1 : IsMachine w s1 = keeps_registers w s regs (f.base + to + n) (all_append (MayUseIn w) (take end s.registers) (replicate more value.Nil) (all_take (MayUseIn w) end s.registers is.values) (all_replicate (MayUseIn w) more value.Nil (tt, tt))) is in
    let vs' : List m.Value = map (meant w.names) vs in
    let count : length vs ≡ length vs' = sym (length-map vs (meant w.names)) in
    ap (λ p. part w code (record s { registers = overlaid (take (end_of s) s.registers) p vs; top = p + n }) x replies) (l.at to)
    ∙ ap (λ k. part w code (record s { registers = overlaid (take k s.registers) (f.base + to) vs; top = f.base + to + n }) x replies) (end_is s f i.is)
    ∙ ap (λ rs. part w code (record s { registers = rs; top = f.base + to + n }) x replies) (sym (writes_is regs (f.base + to) vs (omega (arith, long)) ∙ room_overlaid end (f.base + to) s.registers vs l.high (omega (arith, le))))
    ∙ part_writes w code x replies vs s1 f i.closure to i.is i.of (omega arith) (omega (arith, long)) layout1 is1 may
    ∙ ap (changed (set_all to vs')) (part_cut w code s f i.closure to n x replies i.is i.of le layout is)
    ∙ changed_twice (set_all to vs') (cut_in (to + n) to) (part w code s x replies)
    ∙ ap (λ k. changed (λ i. set_all to vs' (cut_in (to + k) to i)) (part w code s x replies)) count
    ∙ part_ended w code s f i.closure to vs' x replies i.is i.of layout is

pub all_drop : {A : Type 0} (P : A → Type 0) (n : ℕ) (xs : List A) → AllByRecursion P xs → AllByRecursion P (drop n xs)
all_drop P zero xs h = h
all_drop P (suc n) [] h = tt
all_drop P (suc n) (x ∷ xs) h = all_drop P n xs h.1

pub keeps_delivered : (w : LibWorld) (s : StackView) (to : ℕ) (vs : List Value) → AllByRecursion (MayUseIn w) vs → IsMachine w s →
    IsMachine w (delivered to vs s)
unfolding delivered
keeps_delivered w s to vs may is =
    let low : List Value = take (end_of s) s.registers in
    let at : ℕ = place_of s to in
    let all : AllByRecursion (MayUseIn w) low = all_take (MayUseIn w) (end_of s) s.registers is.values in
    keeps_registers w s (overlaid low at vs) (at + length vs)
    (all_append (MayUseIn w) (take at low ++ vs) (drop (at + length vs) low) (all_append (MayUseIn w) (take at low) vs (all_take (MayUseIn w) at low all) may) (all_drop (MayUseIn w) (at + length vs) low all)) is
