-- Registers are captured, and cells are closed.
use Rattle.std.proofs.Common.{◌≡◌, ◌≢◌, ℕ, ◌+◌, ◌-◌, ◌<◌, ◌≤◌, max, Bool, true, false, cond, nat_eq, nat_lt, List, [], ◌∷◌, ◌++◌, map, reverse, length, get_or, Option, Some, None, refl, sym, ◌∙◌, ap, subst, arith, lt-ltb, ⊎_elim, length-append}
use Rattle.std.specs.List.{AllByRecursion}
use Rattle.std.specs.Option.{option_map_or}
use Rattle.std.proofs.lemmas.Grind.{common_steps}
use Rattle.std.proofs.lemmas.List.{length-map, map-append, length-set}
use Rattle.std.proofs.lemmas.Bool.{ne_eqb, eq-eqb, ltb-true}
use Rattle.std.proofs.lemmas.Bool.Decides.{eqb_tells}
use Rattle.value_model.specs.Owners.{wide}
use Rattle.value_model.specs.Parts.{meant}
use Rattle.value_model.specs.Values as m
use Rattle.value_model.specs.declared.event.Reply.{Reply}
use Rattle.value_model.specs.declared.ids.CellId.{CellId}
use Rattle.value_model.specs.declared.ids.ClosureId.{ClosureId}
use Rattle.value_model.specs.declared.ids.Owner.{Owner}
use Rattle.value_model.specs.declared.value.Value.{Value}
use Rattle.value_model.specs.declared.value.Value.TheVariants as value
use Rattle.value_arena.specs.declared.closure.Closure.{Closure}
use Rattle.value_arena.specs.Objects.{ObjectsView}
use Rattle.value_arena.specs.Arenas.{ArenaView, HasCell, objects_of, slot, with_cell, new_cell, next_cell}
use Rattle.value_arena.proofs.Laws.{objects_now, is_in, wide_narrow}
use Rattle.luau_tables.specs.Worlds.{IsWorld, MayUseIn}
use Rattle.luau_tables.specs.declared.globals.LibWorld.{LibWorld}
use Rattle.luau_tables.proofs.OwnKept.{usable_on}
use Rattle.call_frames.specs.declared.frame.Frame.{Frame}
use Rattle.call_frames.specs.declared.frame.OpenCell.{OpenCell}
use Rattle.call_frames.specs.Stacks.{StackView, Layout}
use Rattle.call_frames.specs.Cells.{cell_on, opened, kept, closed, innermost, outer, place_of, register_at}
use Rattle.call_frames.specs.Cells as opens
use Rattle.call_frames.proofs.Closing.{split_last}
use Rattle.machine_meaning.specs.States as machine
use Rattle.machine_meaning.specs.States.{Register, Val, Open, Registers, Focus, State, Inside, held, put}
use Rattle.machine_meaning.specs.Moves.{inside}
use Rattle.machine_code.specs.declared.code.Code.{Code}
use Rattle.machine_world.specs.Functions.{register, window, waiting, running, functions_of, laid, kept_cells, cells_of}
use Rattle.machine_world.specs.Parts.{world_with, state_with, part, changed_in, changed, read_in, read_of, first_cell, captured, close}
use Rattle.machine_world.specs.Sound.{cell_count, IsCell, AreOf, IsOwnOf, first, later, AreOwn, HasRegister, IsMachine}
use Rattle.machine_world.proofs.Laid.{Distinct, found_of, distinct, laid_length, laid_opened, laid_kept}
use Rattle.machine_world.proofs.Registers.{shown, register_opened, register_low, register_kept}
use Rattle.machine_world.proofs.Frames.{inner, runs_with, has_low, functions_split, lies, register_here, functions_changed}
use Rattle.machine_world.proofs.Written.{of_kept, after, all_get}
use Rattle.machine_world.proofs.Beside.{Beside, beside_self, beside_on, beside_world, beside_write, beside_new, state_beside, machine_beside, count_written}

-- ---- a new cell

pub has_slot : (a : ArenaView) (w : Owner) (v : Value) → HasCell (new_cell a w v) (next_cell a w) → slot w < length a.owners
unfolding HasCell new_cell next_cell
has_slot a w v h =
    let o : ObjectsView = objects_of a w in
    let o' : ObjectsView = record o { cells = o.cells ++ v ∷ [] } in
    let there = is_in (λ o. length o.cells) refl (new_cell a w v) w (length o.cells)
    (subst (λ u. length o.cells < length (objects_of (new_cell a w v) u).cells) (wide_narrow w) h) in
    subst (λ n. slot w < n) (length-set a.owners (slot w) o') there

own_made : (a : ArenaView) (w : Owner) (v : Value) → slot w < length a.owners → (objects_of (new_cell a w v) w).cells ≡ (objects_of a w).cells ++ v ∷ []
unfolding new_cell
own_made a w v room =
    ap (λ (o : ObjectsView). o.cells) (objects_now a w (record (objects_of a w) { cells = (objects_of a w).cells ++ v ∷ [] }) room)

pub cells_made : (texts : List m.Bytes) (w : Owner) (a : ArenaView) (v : Value) → slot w < length a.owners →
    kept_cells texts w (new_cell a w v) ≡ kept_cells texts w a ++ meant texts v ∷ []
cells_made texts w a v room =
    ap (map (meant texts)) (own_made a w v room) ∙ map-append (meant texts) (objects_of a w).cells (v ∷ [])

pub count_made : (w : Owner) (a : ArenaView) (v : Value) → slot w < length a.owners → cell_count w (new_cell a w v) ≡ cell_count w a + 1
count_made w a v room = ap length (own_made a w v room) ∙ length-append (objects_of a w).cells (v ∷ [])

pub new_owner : (a : ArenaView) (w : Owner) → wide (next_cell a w).owner ≡ w
unfolding next_cell
new_owner a w = wide_narrow w

pub new_place : (a : ArenaView) (w : Owner) → (next_cell a w).place ≡ cell_count w a
unfolding next_cell
new_place a w = refl

-- ---- a register is captured

own_open : (texts : List m.Bytes) (regs : List Value) (os : List OpenCell) (n base r q : ℕ) (c : CellId) → cell_on (base + r) os ≡ None → r < n →
    window texts regs (opened (base + r) c os) n base q ≡ put (window texts regs os n base) r (Open c.place) q
own_open texts regs os n base r q c none low =
    ap (λ x. cond (nat_lt q n) x (Val m.Nil)) (register_opened texts regs os (base + r) (base + q) c none)
    ∙ ⊎_elim (λ h. here h.0 h.1) (λ h. there h.0 h.1) (eqb_tells q r)
  where
    here : nat_eq q r ≡ true → q ≡ r →
        cond (nat_lt q n) (cond (nat_eq (base + r) (base + q)) (Open c.place) (register texts regs os (base + q))) (Val m.Nil) ≡ put (window texts regs os n base) r (Open c.place) q
    here t e =
        ap (λ b. cond (nat_lt q n) (cond b (Open c.place) (register texts regs os (base + q))) (Val m.Nil)) (eq-eqb (base + r) (base + q) (omega (arith, e)))
        ∙ ap (λ b. cond b (Open c.place) (Val m.Nil)) (lt-ltb q n (omega (arith, e, low)))
        ∙ sym (ap (λ b. cond b (Open c.place) (window texts regs os n base q)) t)

    there : nat_eq q r ≡ false → q ≢ r →
        cond (nat_lt q n) (cond (nat_eq (base + r) (base + q)) (Open c.place) (register texts regs os (base + q))) (Val m.Nil) ≡ put (window texts regs os n base) r (Open c.place) q
    there t ne =
        ap (λ b. cond (nat_lt q n) (cond b (Open c.place) (register texts regs os (base + q))) (Val m.Nil)) (ne_eqb (base + r) (base + q) (λ e. ne (omega (arith, e))))
        ∙ sym (ap (λ b. cond b (Open c.place) (window texts regs os n base q)) t)

abbrev pub Three : Type 0
Three = CellId × StackView × ArenaView

-- the cell that is captured, and the state then
abbrev pub seen : LibWorld → Code → Focus → List Reply → Three → ℕ × State
seen w code x replies t = (t.0.place, part (record w { arena = t.2 }) code t.1 x replies)

-- as the machine has them
abbrev pub expected : Focus → List machine.Frame → machine.Taken → ℕ × State
expected x fs t = (first_cell t.taken, after x fs t.inside)

capture_new : (w : LibWorld) (code : Code) (s : StackView) (r : ℕ) (x : Focus) (replies : List Reply) (f : Frame) (k : ClosureId) → innermost s ≡ Some f → f.closure ≡ Some k → r < f.registers → Layout s → IsMachine w s → slot w.owner < length w.arena.owners → cell_on (f.base + r) s.cells ≡ None → seen w code x replies (next_cell w.arena w.owner, record s { cells = opened (f.base + r) (next_cell w.arena w.owner) s.cells }, new_cell w.arena w.owner (register_at s (f.base + r))) ≡ expected x (waiting w.names (objects_of w.arena w.owner).closures s.registers s.cells (reverse (outer s))) (machine.opened (Val (meant w.names (register_at s (f.base + r)))) r (record { taken = []; inside = inside (running w.names (objects_of w.arena w.owner).closures s k f) (world_with w code s.frames replies (cells_of w.names w.owner s w.arena)) }))
unfolding part cells_of
capture_new w code s r x replies f k e of low layout is room none =
    let v : Value = register_at s (f.base + r) in
    let c : CellId = next_cell w.arena w.owner in
    let b : ArenaView = new_cell w.arena w.owner v in
    let s' : StackView = record s { cells = opened (f.base + r) c s.cells } in
    let cs : List Closure = (objects_of w.arena w.owner).closures in
    let kept : List m.Value = kept_cells w.names w.owner w.arena in
    let cells : List m.Value = laid w.names s.registers s.cells kept in
    let run : machine.Frame = running w.names cs s k f in
    let others : List machine.Frame = waiting w.names cs s.registers s.cells (reverse (outer s)) in
    let l = lies s f e layout in
    let may : MayUseIn w v = all_get (MayUseIn w) s.registers (f.base + r) value.Nil is.values (tt, tt) in
    let h : Beside w b = beside_new w v is.world may in
    let many : length kept ≡ cell_count w.owner w.arena = length-map (objects_of w.arena w.owner).cells (meant w.names) in
    let place : c.place ≡ length cells = new_place w.arena w.owner ∙ sym (laid_length w.names s.registers s.cells kept ∙ many) in
    let functions : functions_of w.names cs s' ≡ record run { registers = put run.registers r (Open c.place) } ∷ others =
    functions_changed w.names cs s f k s.registers s'.cells s.top (put run.registers r (Open c.place)) (f.base - f.extra) e of l.below (omega arith) refl
    (λ q h. register_opened w.names s.registers s.cells (f.base + r) q c none ∙ ap (λ b. cond b (Open c.place) (register w.names s.registers s.cells q)) (ne_eqb (f.base + r) q (λ e. absurd (omega (arith, e, h)))))
    (λ q. own_open w.names s.registers s.cells (max f.registers (s.top - f.base)) f.base r q c none (omega (arith, low))) in
    ap (λ st. (c.place, st))
    (state_beside w b code s.frames x replies (functions_of w.names (objects_of b w.owner).closures s') (laid w.names s.registers s'.cells (kept_cells w.names w.owner b)) h
    ∙ ap (λ ks. state_with w code s.frames x replies (functions_of w.names ks s') (laid w.names s.registers s'.cells (kept_cells w.names w.owner b))) h.closures
    ∙ ap (λ xs. state_with w code s.frames x replies (functions_of w.names cs s') (laid w.names s.registers s'.cells xs)) (cells_made w.names w.owner w.arena v room)
    ∙ ap (λ xs. state_with w code s.frames x replies (functions_of w.names cs s') xs) (laid_opened w.names s.registers w.owner (f.base + r) c v s.cells kept (of_kept w.names w.owner w.arena s.cells is.cells) (new_place w.arena w.owner ∙ sym many) refl)
    ∙ ap (λ fs. state_with w code s.frames x replies fs (cells ++ meant w.names v ∷ [])) functions)
    ∙ ap (λ p. (p, state_with w code s.frames x replies (record run { registers = put run.registers r (Open p) } ∷ others) (cells ++ meant w.names v ∷ []))) place

-- what the machine has of a state
abbrev pub expected_in : ℕ → State → ℕ × State
expected_in r s = (read_of 0 (λ i. first_cell (captured r i).taken) s, changed (λ i. (captured r i).inside) s)

pub part_capture : (w : LibWorld) (code : Code) (s : StackView) (r : ℕ) (x : Focus) (replies : List Reply) (t : Three) →
    t ≡ opens.captured s w.arena w.owner (place_of s r) → HasCell t.2 t.0 → HasRegister s r → Layout s → IsMachine w s →
    seen w code x replies t ≡ expected_in r (part w code s x replies)
unfolding opens.captured part
part_capture w code s r x replies t is_t has h layout is =
    let i = inner s (runs_with s r h) in
    let f = i.frame in
    let low : r < f.registers = has_low s r f i.is h in
    let cs : List Closure = (objects_of w.arena w.owner).closures in
    let others : List machine.Frame = waiting w.names cs s.registers s.cells (reverse (outer s)) in
    let run : machine.Frame = running w.names cs s i.closure f in
    let world : machine.World = world_with w code s.frames replies (cells_of w.names w.owner s w.arena) in
    let at : t ≡ opens.captured s w.arena w.owner (f.base + r) = is_t ∙ ap (opens.captured s w.arena w.owner) ((lies s f i.is layout).at r) in
    ap (seen w code x replies) at
    ∙ by f i.closure i.is i.of low (cell_on (f.base + r) s.cells) refl (subst (λ (t : Three). HasCell t.2 t.0) at has)
    ∙ sym (ap (λ fs. (read_in 0 (λ i. first_cell (captured r i).taken) fs world, changed_in (λ i. (captured r i).inside) x fs world)) (functions_split w.names cs s f i.closure i.is i.of)
    ∙ ap (λ reg. expected x others (machine.opened reg r (record { taken = []; inside = inside run world }))) (register_here w.names cs s r f i.closure (omega (arith, low))))
  where
    new : ℕ → Three
    new k = (next_cell w.arena w.owner, record s { cells = opened k (next_cell w.arena w.owner) s.cells }, new_cell w.arena w.owner (register_at s k))

    by : (f : Frame) (k : ClosureId) → innermost s ≡ Some f → f.closure ≡ Some k → r < f.registers → (q : Option CellId) → cell_on (f.base + r) s.cells ≡ q → HasCell (option_map_or (λ c. (c, s, w.arena)) q (new (f.base + r))).2 (option_map_or (λ c. (c, s, w.arena)) q (new (f.base + r))).0 → seen w code x replies (option_map_or (λ c. (c, s, w.arena)) q (new (f.base + r))) ≡ expected x (waiting w.names (objects_of w.arena w.owner).closures s.registers s.cells (reverse (outer s))) (machine.opened (shown w.names s.registers (f.base + r) q) r (record { taken = []; inside = inside (running w.names (objects_of w.arena w.owner).closures s k f) (world_with w code s.frames replies (cells_of w.names w.owner s w.arena)) }))
    by f k e of low None on has = capture_new w code s r x replies f k e of low layout is (has_slot w.arena w.owner (register_at s (f.base + r)) has) on
    by f k e of low (Some c) on has = ap (λ fs. (c.place, state_with w code s.frames x replies fs (cells_of w.names w.owner s w.arena))) (functions_split w.names (objects_of w.arena w.owner).closures s f k e of)

-- ---- one more is open

pub of_more : (w : Owner) (n k : ℕ) (os : List OpenCell) → n ≤ k → AreOf w n os → AreOf w k os
of_more w n k [] le h = tt
of_more w n k (o ∷ os) le h = (h.0, omega (arith, le, h.1), of_more w n k os le h.2)

of_opened : (w : Owner) (n r : ℕ) (c : CellId) (os : List OpenCell) → wide c.owner ≡ w → c.place < n → AreOf w n os → AreOf w n (opened r c os)
of_opened w n r c [] e lt h = (e, lt, tt)
of_opened w n r c (o ∷ os) e lt h = by (nat_lt o.register r) (of_opened w n r c os e lt h.2)
  where
    by : (b : Bool) → AreOf w n (opened r c os) → AreOf w n (cond b (o ∷ opened r c os) (record { register = r; cell = c } ∷ o ∷ os))
    by true ih = (h.0, h.1, ih)
    by false ih = (e, lt, h)

own_opened : (fs : List Frame) (r : ℕ) (c : CellId) (os : List OpenCell) → IsOwnOf fs r → AreOwn fs os → AreOwn fs (opened r c os)
own_opened fs r c [] is h = (is, tt)
own_opened fs r c (o ∷ os) is h = by (nat_lt o.register r) (own_opened fs r c os is h.1)
  where
    by : (b : Bool) → AreOwn fs (opened r c os) → AreOwn fs (cond b (o ∷ opened r c os) (record { register = r; cell = c } ∷ o ∷ os))
    by true ih = (h.0, ih)
    by false ih = (is, h)

own_last : (gs : List Frame) (f : Frame) (r : ℕ) → f.base ≤ r → r < f.base + f.registers → IsOwnOf (gs ++ f ∷ []) r
own_last [] f r le lt = first le lt
own_last (g ∷ gs) f r le lt = later (own_last gs f r le lt)

pub is_own : (s : StackView) (r : ℕ) (f : Frame) → innermost s ≡ Some f → r < f.registers → IsOwnOf s.frames (f.base + r)
is_own s r f e low = subst (λ fs. IsOwnOf fs (f.base + r)) (sym (split_last s.frames f e)) (own_last (outer s) f (f.base + r) (omega arith) (omega (arith, low)))

pub keeps_cells : (w : LibWorld) (s : StackView) (os : List OpenCell) → AreOf w.owner (cell_count w.owner w.arena) os → AreOwn s.frames os → IsMachine w s → IsMachine w (record s { cells = os })
keeps_cells w s os of own is =
    record { world = is.world; cells = of; own = own; values = is.values; functions = is.functions; kinds = is.kinds; shared = is.shared; main = is.main; marks = is.marks }

abbrev pub ThreeSound : LibWorld → Three → Type 0
ThreeSound w t = IsMachine (record w { arena = t.2 }) t.1 × IsCell w.owner t.2 t.0

pub keeps_capture : (w : LibWorld) (s : StackView) (r : ℕ) (t : Three) → t ≡ opens.captured s w.arena w.owner (place_of s r) → HasCell t.2 t.0 →
    HasRegister s r → Layout s → IsMachine w s → ThreeSound w t
unfolding opens.captured
keeps_capture w s r t is_t has h layout is =
    let i = inner s (runs_with s r h) in
    let f = i.frame in
    let at : t ≡ opens.captured s w.arena w.owner (f.base + r) = is_t ∙ ap (opens.captured s w.arena w.owner) ((lies s f i.is layout).at r) in
    subst (ThreeSound w) (sym at)
    (by (f.base + r) (is_own s r f i.is (has_low s r f i.is h)) (cell_on (f.base + r) s.cells) refl (subst (λ (t : Three). HasCell t.2 t.0) at has))
  where
    new : ℕ → Three
    new k = (next_cell w.arena w.owner, record s { cells = opened k (next_cell w.arena w.owner) s.cells }, new_cell w.arena w.owner (register_at s k))

    by : (k : ℕ) → IsOwnOf s.frames k → (q : Option CellId) → cell_on k s.cells ≡ q →
        HasCell (option_map_or (λ c. (c, s, w.arena)) q (new k)).2 (option_map_or (λ c. (c, s, w.arena)) q (new k)).0 →
        ThreeSound w (option_map_or (λ c. (c, s, w.arena)) q (new k))
    by k own (Some c) on has = (is, found_of w.owner (cell_count w.owner w.arena) k c s.cells is.cells on)
    by k own None on has =
        let v : Value = register_at s k in
        let c : CellId = next_cell w.arena w.owner in
        let b : ArenaView = new_cell w.arena w.owner v in
        let may : MayUseIn w v = all_get (MayUseIn w) s.registers k value.Nil is.values (tt, tt) in
        let more : cell_count w.owner b ≡ cell_count w.owner w.arena + 1 = count_made w.owner w.arena v (has_slot w.arena w.owner v has) in
        let room : c.place < cell_count w.owner b = omega (arith, more, new_place w.arena w.owner) in
        let of : AreOf w.owner (cell_count w.owner b) s.cells = of_more w.owner (cell_count w.owner w.arena) (cell_count w.owner b) s.cells (omega (arith, more)) is.cells in (
          keeps_cells (record w { arena = b }) s (opened k c s.cells) (of_opened w.owner (cell_count w.owner b) k c s.cells (new_owner w.arena w.owner) room of) (own_opened s.frames k c s.cells own is.own)
              (machine_beside w b s (beside_new w v is.world may) of is),
          (new_owner w.arena w.owner, room),
        )

-- ---- registers are closed

own_close : (texts : List m.Bytes) (regs : List Value) (w : Owner) (os : List OpenCell) (cs : List m.Value) (n base r q : ℕ) → Distinct os →
    AreOf w (length cs) os →
    window texts regs (kept (base + r) os) n base q ≡ machine.closed (laid texts regs os cs) (window texts regs os n base) r q
own_close texts regs w os cs n base r q once of = by (nat_lt q n)
  where
    shifted : nat_lt (base + q) (base + r) ≡ nat_lt q r
    shifted = grind (arith, common_steps)

    both : (b : Bool) → Val m.Nil ≡ cond b (Val m.Nil) (Val m.Nil)
    both true = refl
    both false = refl

    by : (b : Bool) →
        cond b (register texts regs (kept (base + r) os) (base + q)) (Val m.Nil) ≡ cond (nat_lt q r) (cond b (register texts regs os (base + q)) (Val m.Nil)) (Val (held (laid texts regs os cs) (cond b (register texts regs os (base + q)) (Val m.Nil))))
    by true =
        register_kept texts regs w (base + r) (base + q) os cs once of
        ∙ ap (λ b. cond b (register texts regs os (base + q)) (Val (held (laid texts regs os cs) (register texts regs os (base + q))))) shifted
    by false = both (nat_lt q r)

pub beside_closed : (w : LibWorld) (r : ℕ) (regs : List Value) (os : List OpenCell) (n : ℕ) → IsWorld w → AreOf w.owner n os →
    AllByRecursion (MayUseIn w) regs → Beside w (closed r regs os w.arena)
beside_closed w r regs [] n is of may = beside_self w is
beside_closed w r regs (o ∷ os) n is of may = by (nat_lt o.register r) (beside_closed w r regs os n is of.2 may)
  where
    by : (b : Bool) → Beside w (closed r regs os w.arena) →
        Beside w (cond b (closed r regs os w.arena) (with_cell (closed r regs os w.arena) o.cell (get_or regs o.register value.Nil)))
    by true h = h
    by false h =
        let a : ArenaView = closed r regs os w.arena in
        let v : Value = get_or regs o.register value.Nil in
        let u : MayUseIn w v = all_get (MayUseIn w) regs o.register value.Nil may (tt, tt) in
        beside_on w a (with_cell a o.cell v) h
        (beside_write (record w { arena = a }) o.cell v (beside_world w a is h) of.0 (usable_on w.names w.arena a w.owner v h.grows u))

pub count_closed : (w : Owner) (n r : ℕ) (regs : List Value) (os : List OpenCell) (a : ArenaView) → AreOf w n os →
    cell_count w (closed r regs os a) ≡ cell_count w a
count_closed w n r regs [] a of = refl
count_closed w n r regs (o ∷ os) a of = by (nat_lt o.register r) (count_closed w n r regs os a of.2)
  where
    by : (b : Bool) → cell_count w (closed r regs os a) ≡ cell_count w a →
        cell_count w (cond b (closed r regs os a) (with_cell (closed r regs os a) o.cell (get_or regs o.register value.Nil))) ≡ cell_count w a
    by true ih = ih
    by false ih = count_written w (closed r regs os a) o.cell (get_or regs o.register value.Nil) of.0 ∙ ih

pub of_stays : (w : Owner) (n r : ℕ) (os : List OpenCell) → AreOf w n os → AreOf w n (kept r os)
of_stays w n r [] h = tt
of_stays w n r (o ∷ os) h = by (nat_lt o.register r) (of_stays w n r os h.2)
  where
    by : (b : Bool) → AreOf w n (kept r os) → AreOf w n (cond b (o ∷ kept r os) (kept r os))
    by true ih = (h.0, h.1, ih)
    by false ih = ih

-- those that stay are of the frames that have the lower registers
pub own_stays : (fs gs : List Frame) (r : ℕ) (os : List OpenCell) → ((q : ℕ) → q < r → IsOwnOf fs q → IsOwnOf gs q) → AreOwn fs os → AreOwn gs (kept r os)
own_stays fs gs r [] move h = tt
own_stays fs gs r (o ∷ os) move h = by (nat_lt o.register r) refl (own_stays fs gs r os move h.1)
  where
    by : (b : Bool) → nat_lt o.register r ≡ b → AreOwn gs (kept r os) → AreOwn gs (cond b (o ∷ kept r os) (kept r os))
    by true t ih = (move o.register (ltb-true o.register r t) h.0, ih)
    by false t ih = ih

pub part_close : (w : LibWorld) (code : Code) (s : StackView) (r : ℕ) (x : Focus) (replies : List Reply) → HasRegister s r → Layout s → IsMachine w s → part (record w { arena = closed (place_of s r) s.registers s.cells w.arena }) code (record s { cells = kept (place_of s r) s.cells }) x replies ≡ changed (close r) (part w code s x replies)
unfolding part cells_of
part_close w code s r x replies h layout is =
    let i = inner s (runs_with s r h) in
    let f = i.frame in
    let l = lies s f i.is layout in
    let p : ℕ = f.base + r in
    let n : ℕ = max f.registers (s.top - f.base) in
    let cs : List Closure = (objects_of w.arena w.owner).closures in
    let kept_old : List m.Value = kept_cells w.names w.owner w.arena in
    let cells : List m.Value = laid w.names s.registers s.cells kept_old in
    let run : machine.Frame = running w.names cs s i.closure f in
    let others : List machine.Frame = waiting w.names cs s.registers s.cells (reverse (outer s)) in
    let world : machine.World = world_with w code s.frames replies cells in
    let b : ArenaView = closed p s.registers s.cells w.arena in
    let s' : StackView = record s { cells = kept p s.cells } in
    let of = of_kept w.names w.owner w.arena s.cells is.cells in
    let once = distinct w.owner (length kept_old) s.cells of layout.once in
    let beside : Beside w b = beside_closed w p s.registers s.cells (cell_count w.owner w.arena) is.world is.cells is.values in
    let functions : functions_of w.names cs s' ≡ record run { registers = machine.closed cells run.registers r } ∷ others =
    functions_changed w.names cs s f i.closure s.registers (kept p s.cells) s.top (machine.closed cells run.registers r) (f.base - f.extra) i.is i.of l.below (omega arith) refl
    (λ q h. register_low w.names s.registers s.cells p q (omega (arith, h)))
    (λ q. own_close w.names s.registers w.owner s.cells kept_old n f.base r q once of) in
    ap (λ k. part (record w { arena = closed k s.registers s.cells w.arena }) code (record s { cells = kept k s.cells }) x replies) (l.at r)
    ∙ state_beside w b code s.frames x replies (functions_of w.names (objects_of b w.owner).closures s') (laid w.names s.registers s'.cells (kept_cells w.names w.owner b)) beside
    ∙ ap (λ ks. state_with w code s.frames x replies (functions_of w.names ks s') (laid w.names s.registers s'.cells (kept_cells w.names w.owner b))) beside.closures
    ∙ ap (λ xs. state_with w code s.frames x replies (functions_of w.names cs s') xs) (laid_kept w.names s.registers w.owner (cell_count w.owner w.arena) p 0 (length s.registers) s.cells w.arena layout.rises is.cells)
    ∙ ap (λ fs. state_with w code s.frames x replies fs cells) functions
    ∙ sym (ap (λ fs. changed_in (close r) x fs world) (functions_split w.names cs s f i.closure i.is i.of))

pub keeps_close : (w : LibWorld) (s : StackView) (p : ℕ) → IsMachine w s → IsMachine (record w { arena = closed p s.registers s.cells w.arena }) (record s { cells = kept p s.cells })
keeps_close w s p is =
    let b : ArenaView = closed p s.registers s.cells w.arena in
    let count : cell_count w.owner b ≡ cell_count w.owner w.arena = count_closed w.owner (cell_count w.owner w.arena) p s.registers s.cells w.arena is.cells in
    let of : AreOf w.owner (cell_count w.owner b) s.cells = subst (λ n. AreOf w.owner n s.cells) (sym count) is.cells in
    keeps_cells (record w { arena = b }) s (kept p s.cells) (of_stays w.owner (cell_count w.owner b) p s.cells of) (own_stays s.frames s.frames p s.cells (λ q h is. is) is.own)
    (machine_beside w b s (beside_closed w p s.registers s.cells (cell_count w.owner w.arena) is.world is.cells is.values) of is)
