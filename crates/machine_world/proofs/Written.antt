-- A register of the function that runs is read and written.
use Rattle.std.proofs.Common.{◌≡◌, ◌≢◌, ℕ, zero, suc, ◌+◌, ◌-◌, ◌<◌, max, true, false, cond, nat_eq, nat_lt, List, [], ◌∷◌, reverse, length, get_or, set, Option, Some, None, refl, sym, ◌∙◌, ap, subst, arith, lt-ltb, ⊎_elim}
use Rattle.std.specs.List.{AllByRecursion}
use Rattle.std.proofs.lemmas.List.{length-map, take-set-le}
use Rattle.std.proofs.lemmas.Bool.Decides.{eqb_tells}
use Rattle.value_model.specs.Parts.{meant}
use Rattle.value_model.specs.Values as m
use Rattle.value_model.specs.declared.event.Reply.{Reply}
use Rattle.value_model.specs.declared.ids.CellId.{CellId}
use Rattle.value_model.specs.declared.ids.ClosureId.{ClosureId}
use Rattle.value_model.specs.declared.ids.Owner.{Owner}
use Rattle.value_model.specs.declared.value.Value.{Value}
use Rattle.value_model.specs.declared.value.Value.TheVariants as value
use Rattle.value_arena.specs.declared.closure.Closure.{Closure}
use Rattle.value_arena.specs.Arenas.{ArenaView, objects_of}
use Rattle.luau_tables.specs.Worlds.{MayUseIn}
use Rattle.luau_tables.specs.declared.globals.LibWorld.{LibWorld}
use Rattle.call_frames.specs.declared.frame.Frame.{Frame}
use Rattle.call_frames.specs.declared.frame.OpenCell.{OpenCell}
use Rattle.call_frames.specs.Stacks.{StackView, Layout}
use Rattle.call_frames.specs.Cells.{cell_on, innermost, outer, local, with_local, place_of}
use Rattle.machine_meaning.specs.States as machine
use Rattle.machine_meaning.specs.States.{Register, Val, Open, Registers, Focus, State, World, Inside, held, put, write}
use Rattle.machine_meaning.specs.Moves.{inside}
use Rattle.machine_code.specs.declared.code.Code.{Code}
use Rattle.machine_world.specs.Functions.{register, window, waiting, running, functions_of, laid, kept_cells, cells_of}
use Rattle.machine_world.specs.Parts.{world_with, state_with, part, changed_in, changed, read_in, read_of, register_value}
use Rattle.machine_world.specs.Sound.{cell_count, AreOf, IsOwnOf, AreOwn, HasRegister, IsMachine}
use Rattle.machine_world.proofs.Laid.{FirstIs, FirstIsNot, at_first, distinct, laid_beside, laid_open}
use Rattle.machine_world.proofs.Registers.{shown, register_beside, register_open, register_plain, held_is}
use Rattle.machine_world.proofs.Frames.{inner, runs_with, has_low, functions_split, lies, register_here, functions_changed, functions_same, own_outside}

-- as many cells as the arena has
pub of_kept : (texts : List m.Bytes) (w : Owner) (a : ArenaView) (os : List OpenCell) → AreOf w (cell_count w a) os →
    AreOf w (length (kept_cells texts w a)) os
of_kept texts w a os h = subst (λ n. AreOf w n os) (sym (length-map (objects_of a w).cells (meant texts))) h

-- the state once the function that runs was changed
abbrev pub after : Focus → List machine.Frame → Inside → State
after x fs i = record { focus = x; functions = i.frame ∷ fs; world = i.world }

-- ---- reading

pub part_read : (w : LibWorld) (code : Code) (s : StackView) (r : ℕ) (x : Focus) (replies : List Reply) → HasRegister s r → Layout s → IsMachine w s →
    meant w.names (local s r) ≡ read_of m.Nil (register_value r) (part w code s x replies)
unfolding local part cells_of
part_read w code s r x replies h layout is =
    let i = inner s (runs_with s r h) in
    let f = i.frame in
    let low : r < f.registers = has_low s r f i.is h in
    let kept : List m.Value = kept_cells w.names w.owner w.arena in
    let cells : List m.Value = laid w.names s.registers s.cells kept in
    let cs : List Closure = (objects_of w.arena w.owner).closures in
    let of = of_kept w.names w.owner w.arena s.cells is.cells in
    ap (λ k. meant w.names (get_or s.registers k value.Nil)) ((lies s f i.is layout).at r)
    ∙ sym (held_is w.names s.registers w.owner (f.base + r) s.cells kept (distinct w.owner (length kept) s.cells of layout.once) of)
    ∙ sym (ap (λ x. held cells x) (register_here w.names cs s r f i.closure (omega (arith, low))))
    ∙ sym (ap (λ fs. read_in m.Nil (register_value r) fs (world_with w code s.frames replies cells)) (functions_split w.names cs s f i.closure i.is i.of))

-- ---- writing

own_write : (texts : List m.Bytes) (regs : List Value) (os : List OpenCell) (n base r q : ℕ) (v : Value) → cell_on (base + r) os ≡ None →
    base + r < length regs → r < n → window texts (set regs (base + r) v) os n base q ≡ put (window texts regs os n base) r (Val (meant texts v)) q
own_write texts regs os n base r q v none within low = ⊎_elim (λ h. here h.0 h.1) (λ h. there h.0 h.1) (eqb_tells q r)
  where
    here : nat_eq q r ≡ true → q ≡ r → window texts (set regs (base + r) v) os n base q ≡ put (window texts regs os n base) r (Val (meant texts v)) q
    here t e =
        ap (window texts (set regs (base + r) v) os n base) e
        ∙ ap (λ b. cond b (register texts (set regs (base + r) v) os (base + r)) (Val m.Nil)) (lt-ltb r n low)
        ∙ register_plain texts regs os (base + r) v none within
        ∙ sym (ap (λ b. cond b (Val (meant texts v)) (window texts regs os n base q)) t)

    there : nat_eq q r ≡ false → q ≢ r → window texts (set regs (base + r) v) os n base q ≡ put (window texts regs os n base) r (Val (meant texts v)) q
    there t ne =
        let apart : base + q ≢ base + r = λ e. ne (omega (arith, e)) in
        ap (λ x. cond (nat_lt q n) x (Val m.Nil)) (register_beside texts regs os (base + r) (base + q) v apart)
        ∙ sym (ap (λ b. cond b (Val (meant texts v)) (window texts regs os n base q)) t)

plain_functions : (texts : List m.Bytes) (cs : List Closure) (s : StackView) (r : ℕ) (v : Value) (f : Frame) (c : ClosureId) → innermost s ≡ Some f → f.closure ≡ Some c → r < max f.registers (s.top - f.base) → f.base + r < length s.registers → Layout s → cell_on (f.base + r) s.cells ≡ None → functions_of texts cs (record s { registers = set s.registers (f.base + r) v }) ≡ record (running texts cs s c f) { registers = put (running texts cs s c f).registers r (Val (meant texts v)) } ∷ waiting texts cs s.registers s.cells (reverse (outer s))
plain_functions texts cs s r v f c e k low within layout none =
    let l = lies s f e layout in
    functions_changed texts cs s f c (set s.registers (f.base + r) v) s.cells s.top (put (running texts cs s c f).registers r (Val (meant texts v))) (f.base - f.extra) e k l.below (omega arith)
    (take-set-le f.base s.registers (f.base + r) v (omega arith))
    (λ q h. register_beside texts s.registers s.cells (f.base + r) q v (λ e. absurd (omega (arith, e, h))))
    (λ q. own_write texts s.registers s.cells (max f.registers (s.top - f.base)) f.base r q v none within low)

pub own_found : (fs : List Frame) (k : ℕ) (c : CellId) (os : List OpenCell) → AreOwn fs os → cell_on k os ≡ Some c → IsOwnOf fs k
own_found fs k c [] h e = absurd (cc)
own_found fs k c (o ∷ os) h e =
    ⊎_elim (λ (y : FirstIs k o os (Some c)). subst (λ n. IsOwnOf fs n) y.is h.0)
    (λ (n : FirstIsNot k o os (Some c)). own_found fs k c os h.1 n.found) (at_first k o os (Some c) e)

-- a register that is open, of any frame
pub open_written : (w : LibWorld) (code : Code) (s : StackView) (k : ℕ) (v : Value) (c : CellId) (x : Focus) (replies : List Reply) → Layout s → IsMachine w s → cell_on k s.cells ≡ Some c → part w code (record s { registers = set s.registers k v }) x replies ≡ state_with w code s.frames x replies (functions_of w.names (objects_of w.arena w.owner).closures s) (set (cells_of w.names w.owner s w.arena) c.place (meant w.names v))
unfolding part cells_of
open_written w code s k v c x replies layout is on =
    let cs : List Closure = (objects_of w.arena w.owner).closures in
    let kept : List m.Value = kept_cells w.names w.owner w.arena in
    let of = of_kept w.names w.owner w.arena s.cells is.cells in
    ap (λ fs. state_with w code s.frames x replies fs (laid w.names (set s.registers k v) s.cells kept))
    (functions_same w.names cs s k v (λ q. register_open w.names s.registers s.cells k q v c on) (own_outside k s.frames (own_found s.frames k c s.cells is.own on) layout.apart))
    ∙ ap (λ cells. state_with w code s.frames x replies (functions_of w.names cs s) cells)
    (laid_open w.names s.registers k 0 v c s.cells kept layout.rises (distinct w.owner (length kept) s.cells of layout.once) on)

pub write_at : (w : LibWorld) (code : Code) (s : StackView) (r : ℕ) (v : Value) (x : Focus) (replies : List Reply) (f : Frame) (c : ClosureId) → innermost s ≡ Some f → f.closure ≡ Some c → r < max f.registers (s.top - f.base) → f.base + r < length s.registers → Layout s → IsMachine w s → part w code (record s { registers = set s.registers (f.base + r) v }) x replies ≡ changed (machine.set r (meant w.names v)) (part w code s x replies)
unfolding part cells_of
write_at w code s r v x replies f c e k low within layout is =
    by (cell_on (f.base + r) s.cells) refl
    ∙ sym (ap (λ fs. changed_in (machine.set r v') x fs (world_with w code s.frames replies cells)) split
    ∙ ap (λ reg. after x others (write reg r v' (inside run (world_with w code s.frames replies cells)))) (register_here w.names cs s r f c low))
  where
    v' : m.Value
    v' = meant w.names v

    cs : List Closure
    cs = (objects_of w.arena w.owner).closures

    kept : List m.Value
    kept = kept_cells w.names w.owner w.arena

    cells : List m.Value
    cells = laid w.names s.registers s.cells kept

    run : machine.Frame
    run = running w.names cs s c f

    others : List machine.Frame
    others = waiting w.names cs s.registers s.cells (reverse (outer s))

    split : functions_of w.names cs s ≡ run ∷ others
    split = functions_split w.names cs s f c e k

    by : (q : Option CellId) → cell_on (f.base + r) s.cells ≡ q → state_with w code s.frames x replies (functions_of w.names cs (record s { registers = set s.registers (f.base + r) v })) (laid w.names (set s.registers (f.base + r) v) s.cells kept) ≡ after x others (write (shown w.names s.registers (f.base + r) q) r v' (inside run (world_with w code s.frames replies cells)))
    by None on =
        ap (λ fs. state_with w code s.frames x replies fs (laid w.names (set s.registers (f.base + r) v) s.cells kept)) (plain_functions w.names cs s r v f c e k low within layout on)
        ∙ ap (λ cells. state_with w code s.frames x replies (record run { registers = put run.registers r (Val v') } ∷ others) cells) (laid_beside w.names s.registers (f.base + r) v s.cells kept on)
    by (Some d) on =
        open_written w code s (f.base + r) v d x replies layout is on
        ∙ ap (λ fs. state_with w code s.frames x replies fs (set cells d.place v')) split

-- a register of its own
pub part_write : (w : LibWorld) (code : Code) (s : StackView) (r : ℕ) (v : Value) (x : Focus) (replies : List Reply) → HasRegister s r → Layout s →
    IsMachine w s → part w code (with_local s r v) x replies ≡ changed (machine.set r (meant w.names v)) (part w code s x replies)
unfolding with_local
part_write w code s r v x replies h layout is =
    let i = inner s (runs_with s r h) in
    let f = i.frame in
    let low : r < f.registers = has_low s r f i.is h in
    let l = lies s f i.is layout in
    ap (λ k. part w code (record s { registers = set s.registers k v }) x replies) (l.at r)
    ∙ write_at w code s r v x replies f i.closure i.is i.of (omega (arith, low)) (omega (arith, low, l.high)) layout is

-- ---- what goes on to hold

pub all_set : {A : Type 0} (P : A → Type 0) (xs : List A) (i : ℕ) (x : A) → AllByRecursion P xs → P x → AllByRecursion P (set xs i x)
all_set P [] i x h k = tt
all_set P (y ∷ xs) zero x h k = (k, h.1)
all_set P (y ∷ xs) (suc i) x h k = (h.0, all_set P xs i x h.1 k)

pub all_get : {A : Type 0} (P : A → Type 0) (xs : List A) (i : ℕ) (d : A) → AllByRecursion P xs → P d → P (get_or xs i d)
all_get P [] i d h k = k
all_get P (x ∷ xs) zero d h k = h.0
all_get P (x ∷ xs) (suc i) d h k = all_get P xs i d h.1 k

-- registers are changed, and the end of the list of values
pub keeps_registers : (w : LibWorld) (s : StackView) (regs : List Value) (top : ℕ) → AllByRecursion (MayUseIn w) regs → IsMachine w s → IsMachine w (record s { registers = regs; top = top })
keeps_registers w s regs top h is =
    record { world = is.world; cells = is.cells; own = is.own; values = h; functions = is.functions; kinds = is.kinds; shared = is.shared; main = is.main; marks = is.marks }

pub keeps_write : (w : LibWorld) (s : StackView) (r : ℕ) (v : Value) → MayUseIn w v → IsMachine w s → IsMachine w (with_local s r v)
unfolding with_local
keeps_write w s r v h is = keeps_registers w s (set s.registers (place_of s r) v) s.top (all_set (MayUseIn w) s.registers (place_of s r) v is.values h) is

pub read_usable : (w : LibWorld) (s : StackView) (r : ℕ) → IsMachine w s → MayUseIn w (local s r)
unfolding local
read_usable w s r is = all_get (MayUseIn w) s.registers (place_of s r) value.Nil is.values (tt, tt)
