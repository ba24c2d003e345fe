-- Upvalues of the function that runs.
use Rattle.std.proofs.Common.{◌≡◌, ℕ, zero, suc, ◌-◌, ◌<◌, List, [], ◌∷◌, map, reverse, length, get_or, set, Option, Some, None, IsSomeAnd, IfSome, slice_get, refl, sym, ◌∙◌, ap, subst, arith, inl, inr}
use Rattle.std.specs.List.{AllByRecursion}
use Rattle.std.specs.Option.{option_map_or}
use Rattle.std.proofs.lemmas.List.{get_or-map}
use Rattle.value_model.specs.Owners.{wide}
use Rattle.value_model.specs.Parts.{meant}
use Rattle.value_model.specs.Values as m
use Rattle.value_model.specs.declared.event.Reply.{Reply}
use Rattle.value_model.specs.declared.ids.CellId.{CellId}
use Rattle.value_model.specs.declared.ids.ClosureId.{ClosureId}
use Rattle.value_model.specs.declared.ids.Owner.{Owner}
use Rattle.value_model.specs.declared.ids.Owner.TheVariants.{Frozen}
use Rattle.value_model.specs.declared.value.Value.{Value}
use Rattle.value_model.specs.declared.value.Value.TheVariants as value
use Rattle.value_arena.specs.declared.closure.Closure.{Closure}
use Rattle.value_arena.specs.Objects.{no_closure}
use Rattle.value_arena.specs.Arenas.{ArenaView, HasCell, HasClosure, objects_of, cell_at, closure_at, with_cell}
use Rattle.value_arena.specs.Owning.{MaySee, MayHold}
use Rattle.luau_tables.specs.Worlds.{MayUseIn}
use Rattle.luau_tables.specs.declared.globals.LibWorld.{LibWorld}
use Rattle.call_frames.specs.declared.frame.Frame.{Frame}
use Rattle.call_frames.specs.declared.frame.OpenCell.{OpenCell}
use Rattle.call_frames.specs.Stacks.{StackView, Layout}
use Rattle.call_frames.specs.Cells.{Both, AreIn, register_of, cell_on, innermost, outer, register_at}
use Rattle.call_frames.specs.Cells as opens
use Rattle.machine_meaning.specs.States as machine
use Rattle.machine_meaning.specs.States.{Focus, State, Inside}
use Rattle.machine_code.specs.declared.code.Code.{Code}
use Rattle.machine_world.specs.Functions.{waiting, running, functions_of, laid, kept_cells, cells_of, place_of_cell}
use Rattle.machine_world.specs.Parts.{world_with, state_with, part, changed_in, changed, read_in, read_of, upvalue_cell, upvalue, set_upvalue}
use Rattle.machine_world.specs.Sound.{cell_count, IsCell, AreOf, IsFunctionOf, IsLuau, Runs, HasUpvalue, Up, IsMachine}
use Rattle.machine_world.proofs.Laid.{distinct, laid_on, on_found, other_cell, laid_closed, laid_set, cells_written}
use Rattle.machine_world.proofs.Frames.{inner, functions_split}
use Rattle.machine_world.proofs.Written.{of_kept, open_written, all_set, all_get, keeps_registers}
use Rattle.machine_world.proofs.Beside.{Beside, beside_write, state_beside, machine_beside, count_written}

-- ---- the cell

luau_runs : (q : Option Frame) (P : ClosureId → Type 0) → IsSomeAnd q (λ f. IsSomeAnd f.closure P) → IsSomeAnd q IsLuau
luau_runs None P h = h
luau_runs (Some f) P h = some f.closure h
  where
    some : (q : Option ClosureId) → IsSomeAnd q P → IsSomeAnd q (λ c. Unit {0})
    some None h = h
    some (Some c) h = tt

pub runs_up : (a : ArenaView) (s : StackView) (u : ℕ) → HasUpvalue a s u → Runs s
runs_up a s u h = luau_runs (innermost s) (λ c. u < length (closure_at a c).cells) h

pub of_closure : (f : Frame) (c : ClosureId) (P : ClosureId → Type 0) → f.closure ≡ Some c → IsSomeAnd f.closure P → P c
of_closure f c P e h = subst (λ q. IsSomeAnd q P) e h

pub all_at : {A : Type 0} (P : A → Type 0) (xs : List A) (i : ℕ) (x : A) → AllByRecursion P xs → slice_get xs i ≡ Some x → P x
all_at P [] i x h e = absurd (cc)
all_at P (y ∷ xs) zero x h e = let same : y ≡ x = cc in subst P same h.0
all_at P (y ∷ xs) (suc i) x h e = all_at P xs i x h.1 e

-- the function of a frame is the owner's, and is there
pub function_there : (w : Owner) (a : ArenaView) (fs : List Frame) (i : ℕ) (f : Frame) (c : ClosureId) → AllByRecursion (IsFunctionOf w a) fs →
    slice_get fs i ≡ Some f → f.closure ≡ Some c → (wide c.owner ≡ w) × HasClosure a c
function_there w a fs i f c h e k =
    subst (λ q. IfSome q (λ (c : ClosureId). (wide c.owner ≡ w) × HasClosure a c)) k (all_at (IsFunctionOf w a) fs i f h e)

pub closure_is : (w : Owner) (a : ArenaView) (c : ClosureId) → wide c.owner ≡ w → closure_at a c ≡ get_or (objects_of a w).closures c.place no_closure
unfolding closure_at
closure_is w a c e = ap (λ u. get_or (objects_of a u).closures c.place no_closure) e

get_place : (xs : List CellId) (u : ℕ) (c : CellId) → slice_get xs u ≡ Some c → get_or (map place_of_cell xs) u 0 ≡ c.place
get_place [] u c e = absurd (cc)
get_place (x ∷ xs) zero c e = let same : x ≡ c = cc in ap (λ (c : CellId). c.place) same
get_place (x ∷ xs) (suc u) c e = get_place xs u c e

-- what a script sees is its own, as nobody has a cell
own_cell : (w : Owner) (a : ArenaView) (c : CellId) → (objects_of a Frozen).cells ≡ [] → MaySee w (wide c.owner) × HasCell a c → IsCell w a c
unfolding HasCell
own_cell w a c none (inl e, has) = (e, subst (λ u. c.place < length (objects_of a u).cells) e has)
own_cell w a c none (inr e, has) =
    let low : c.place < length (objects_of a Frozen).cells = subst (λ u. c.place < length (objects_of a u).cells) e has in
    let empty : List Value = [] in
    let no : c.place < length empty = subst (λ (cs : List Value). c.place < length cs) none low in
    absurd (omega (arith, no))

pub up : (w : LibWorld) (code : Code) (s : StackView) (u : ℕ) (f : Frame) (k : ClosureId) (c : CellId) → innermost s ≡ Some f → f.closure ≡ Some k →
    slice_get (closure_at w.arena k).cells u ≡ Some c → IsMachine w s → Up w code s u c
unfolding part
up w code s u f k c e of got is =
    let there = function_there w.owner w.arena s.frames (length s.frames - 1) f k is.functions e of in
    let owned = is.world.own.owned.closures k there.1 in
    let cs : List Closure = (objects_of w.arena w.owner).closures in
    let cells : List CellId = (closure_at w.arena k).cells in
    let seen : MaySee (wide k.owner) (wide c.owner) × HasCell w.arena c = all_at (λ (c : CellId). MaySee (wide k.owner) (wide c.owner) × HasCell w.arena c) cells u c owned.1 got in
    record {
      cell = own_cell w.owner w.arena c is.shared (subst (λ v. MaySee v (wide c.owner) × HasCell w.arena c) there.0 seen);
      place = λ x replies.
          sym (ap (λ fs. read_in 0 (upvalue_cell u) fs (world_with w code s.frames replies (cells_of w.names w.owner s w.arena))) (functions_split w.names cs s f k e of)
          ∙ ap (λ (g : Closure). get_or (map place_of_cell g.cells) u 0) (sym (closure_is w.owner w.arena k there.0))
          ∙ get_place cells u c got);
    }

-- ---- reading

pub cell_read : (w : LibWorld) (s : StackView) (c : CellId) → Layout s → IsMachine w s → IsCell w.owner w.arena c →
    meant w.names (opens.read_up s w.arena c) ≡ get_or (cells_of w.names w.owner s w.arena) c.place m.Nil
unfolding opens.read_up cells_of cell_at
cell_read w s c layout is cell = by (register_of c s.cells) refl
  where
    kept : List m.Value
    kept = kept_cells w.names w.owner w.arena

    by : (q : Option ℕ) → register_of c s.cells ≡ q →
        meant w.names (option_map_or (register_at s) q (cell_at w.arena c)) ≡ get_or (laid w.names s.registers s.cells kept) c.place m.Nil
    by None e =
        ap (λ (u : Owner). meant w.names (get_or (objects_of w.arena u).cells c.place value.Nil)) cell.0
        ∙ sym (get_or-map (meant w.names) (objects_of w.arena w.owner).cells c.place value.Nil m.Nil cell.1)
        ∙ sym (laid_closed w.names s.registers c.place s.cells kept (other_cell w.owner (cell_count w.owner w.arena) c s.cells cell.0 is.cells e))
    by (Some r) e =
        let of = of_kept w.names w.owner w.arena s.cells is.cells in
        sym (laid_on w.names s.registers w.owner r c s.cells kept (distinct w.owner (length kept) s.cells of layout.once) of (on_found c 0 (length s.registers) s.cells r layout.rises e))

-- the value of the upvalue
pub part_read_up : (w : LibWorld) (code : Code) (s : StackView) (u : ℕ) (c : CellId) (x : Focus) (replies : List Reply) → Runs s → Layout s →
    IsMachine w s → Up w code s u c → meant w.names (opens.read_up s w.arena c) ≡ read_of m.Nil (upvalue u) (part w code s x replies)
unfolding part
part_read_up w code s u c x replies runs layout is up =
    let i = inner s runs in
    let cs : List Closure = (objects_of w.arena w.owner).closures in
    let cells : List m.Value = cells_of w.names w.owner s w.arena in
    let world : machine.World = world_with w code s.frames replies cells in
    let split = functions_split w.names cs s i.frame i.closure i.is i.of in
    let run : machine.Frame = running w.names cs s i.closure i.frame in
    let place : c.place ≡ machine.cell_up run u = up.place x replies ∙ ap (λ fs. read_in 0 (upvalue_cell u) fs world) split in
    cell_read w s c layout is up.cell
    ∙ ap (λ p. get_or cells p m.Nil) place
    ∙ sym (ap (λ fs. read_in m.Nil (upvalue u) fs world) split)

-- it may be used
pub up_usable : (w : LibWorld) (s : StackView) (c : CellId) → IsMachine w s → IsCell w.owner w.arena c → MayUseIn w (opens.read_up s w.arena c)
unfolding opens.read_up
up_usable w s c is cell = by (register_of c s.cells)
  where
    by : (q : Option ℕ) → MayUseIn w (option_map_or (register_at s) q (cell_at w.arena c))
    by None = (subst (λ u. hold u) cell.0 (is.world.own.owned.cells c), is.world.own.numbered.cells c)
      where
        hold : Owner → Type 0
        hold u = MayHold w.arena u (cell_at w.arena c)
    by (Some r) = all_get (MayUseIn w) s.registers r value.Nil is.values (tt, tt)

-- ---- writing

abbrev pub of_both : LibWorld → Code → Focus → List Reply → Both → State
of_both w code x replies b = part (record w { arena = b.1 }) code b.0 x replies

abbrev pub BothSound : LibWorld → Both → Type 0
BothSound w b = IsMachine (record w { arena = b.1 }) b.0

cell_written : (w : LibWorld) (code : Code) (s : StackView) (c : CellId) (v : Value) (x : Focus) (replies : List Reply) → Layout s → IsMachine w s →
    IsCell w.owner w.arena c → MayUseIn w v →
    of_both w code x replies (opens.write_up s w.arena c v) ≡ state_with w code s.frames x replies (functions_of w.names (objects_of w.arena w.owner).closures s) (set (cells_of w.names w.owner s w.arena) c.place (meant w.names v))
unfolding opens.write_up part cells_of
cell_written w code s c v x replies layout is cell may = by (register_of c s.cells) refl
  where
    kept : List m.Value
    kept = kept_cells w.names w.owner w.arena

    cs : List Closure
    cs = (objects_of w.arena w.owner).closures

    by : (q : Option ℕ) → register_of c s.cells ≡ q → of_both w code x replies (option_map_or (λ r. (record s { registers = set s.registers r v }, w.arena)) q (s, with_cell w.arena c v)) ≡ state_with w code s.frames x replies (functions_of w.names cs s) (set (laid w.names s.registers s.cells kept) c.place (meant w.names v))
    by None e =
        let b : ArenaView = with_cell w.arena c v in
        let h : Beside w b = beside_write w c v is.world cell.0 may in
        let apart = other_cell w.owner (cell_count w.owner w.arena) c s.cells cell.0 is.cells e in
        state_beside w b code s.frames x replies (functions_of w.names (objects_of b w.owner).closures s) (laid w.names s.registers s.cells (kept_cells w.names w.owner b)) h
        ∙ ap (λ ks. state_with w code s.frames x replies (functions_of w.names ks s) (laid w.names s.registers s.cells (kept_cells w.names w.owner b))) h.closures
        ∙ ap (λ cells. state_with w code s.frames x replies (functions_of w.names cs s) (laid w.names s.registers s.cells cells)) (cells_written w.names w.owner w.arena c v cell.0)
        ∙ ap (λ cells. state_with w code s.frames x replies (functions_of w.names cs s) cells) (laid_set w.names s.registers c.place (meant w.names v) s.cells kept apart)
    by (Some r) e = open_written w code s r v c x replies layout is (on_found c 0 (length s.registers) s.cells r layout.rises e)

pub part_write_up : (w : LibWorld) (code : Code) (s : StackView) (u : ℕ) (c : CellId) (v : Value) (b : Both) (x : Focus) (replies : List Reply) →
    opens.write_up s w.arena c v ≡ b → Runs s → Layout s → IsMachine w s → Up w code s u c → MayUseIn w v →
    of_both w code x replies b ≡ changed (set_upvalue u (meant w.names v)) (part w code s x replies)
unfolding part
part_write_up w code s u c v b x replies e runs layout is up may =
    let i = inner s runs in
    let cs : List Closure = (objects_of w.arena w.owner).closures in
    let cells : List m.Value = cells_of w.names w.owner s w.arena in
    let world : machine.World = world_with w code s.frames replies cells in
    let split = functions_split w.names cs s i.frame i.closure i.is i.of in
    let run : machine.Frame = running w.names cs s i.closure i.frame in
    let others : List machine.Frame = waiting w.names cs s.registers s.cells (reverse (outer s)) in
    let place : c.place ≡ machine.cell_up run u = up.place x replies ∙ ap (λ fs. read_in 0 (upvalue_cell u) fs world) split in
    sym (ap (of_both w code x replies) e)
    ∙ cell_written w code s c v x replies layout is up.cell may
    ∙ ap (λ fs. state_with w code s.frames x replies fs (set cells c.place (meant w.names v))) split
    ∙ ap (λ p. state_with w code s.frames x replies (run ∷ others) (set cells p (meant w.names v))) place
    ∙ sym (ap (λ fs. changed_in (set_upvalue u (meant w.names v)) x fs world) split)

pub keeps_write_up : (w : LibWorld) (s : StackView) (c : CellId) (v : Value) (b : Both) → opens.write_up s w.arena c v ≡ b → IsMachine w s →
    IsCell w.owner w.arena c → MayUseIn w v → BothSound w b
unfolding opens.write_up
keeps_write_up w s c v b e is cell may = subst (BothSound w) e (by (register_of c s.cells))
  where
    by : (q : Option ℕ) → BothSound w (option_map_or (λ r. (record s { registers = set s.registers r v }, w.arena)) q (s, with_cell w.arena c v))
    by None =
        machine_beside w (with_cell w.arena c v) s (beside_write w c v is.world cell.0 may)
        (subst (λ n. AreOf w.owner n s.cells) (sym (count_written w.owner w.arena c v cell.0)) is.cells) is
    by (Some r) = keeps_registers w s (set s.registers r v) s.top (all_set (MayUseIn w) s.registers r v is.values may) is

-- ---- open cells are there

pub are_in : (w : Owner) (a : ArenaView) (os : List OpenCell) → AreOf w (cell_count w a) os → AreIn a os
unfolding HasCell
are_in w a [] h = tt
are_in w a (o ∷ os) h = (subst (λ u. o.cell.place < length (objects_of a u).cells) (sym h.0) h.1, are_in w a os h.2)

pub is_there : (w : Owner) (a : ArenaView) (c : CellId) → IsCell w a c → HasCell a c
unfolding HasCell
is_there w a c h = subst (λ u. c.place < length (objects_of a u).cells) (sym h.0) h.1

-- no frame changes
abbrev pub both_frames : Both → List Frame
both_frames b = b.0.frames

pub up_frames : (s : StackView) (a : ArenaView) (c : CellId) (v : Value) (b : Both) → opens.write_up s a c v ≡ b → both_frames b ≡ s.frames
unfolding opens.write_up
up_frames s a c v b e = subst (λ (b : Both). both_frames b ≡ s.frames) e (by (register_of c s.cells))
  where
    by : (q : Option ℕ) → both_frames (option_map_or (λ r. (record s { registers = set s.registers r v }, a)) q (s, with_cell a c v)) ≡ s.frames
    by None = refl
    by (Some r) = refl
