-- One capture: a copy of a register, a register, or an upvalue.
use Rattle.std.proofs.Common.{◌≡◌, ℕ, zero, suc, ◌+◌, ◌-◌, ◌<◌, ◌≤◌, List, [], ◌∷◌, ◌++◌, map, reverse, length, IsSomeAnd, refl, sym, ◌∙◌, ap, subst, arith}
use Rattle.std.proofs.lemmas.List.{length-map}
use Rattle.value_model.specs.Parts.{meant}
use Rattle.value_model.specs.Values as m
use Rattle.value_model.specs.declared.event.Reply.{Reply}
use Rattle.value_model.specs.declared.ids.CellId.{CellId}
use Rattle.value_model.specs.declared.value.Value.{Value}
use Rattle.value_arena.specs.declared.closure.Closure.{Closure}
use Rattle.value_arena.specs.Arenas.{ArenaView, HasCell, objects_of, closure_at, new_cell, next_cell}
use Rattle.value_arena.proofs.Growing.{grows_self}
use Rattle.luau_tables.specs.Worlds.{MayUseIn}
use Rattle.luau_tables.specs.declared.globals.LibWorld.{LibWorld}
use Rattle.call_frames.specs.Stacks.{StackView}
use Rattle.call_frames.specs.Cells.{outer}
use Rattle.machine_meaning.specs.States as machine
use Rattle.machine_meaning.specs.States.{Focus, Run, Inside, State, with_cells}
use Rattle.machine_code.specs.declared.code.Code.{Code}
use Rattle.machine_world.specs.Functions.{waiting, running, functions_of, laid, kept_cells, cells_of, place_of_cell}
use Rattle.machine_world.specs.Parts.{world_with, state_with, part, changed_in, changed, read_in, read_of, register_value}
use Rattle.machine_world.specs.Sound.{cell_count, IsLuau, HasRegister, HasUpvalue, IsMachine, Runs, Up}
use Rattle.machine_world.proofs.Beside.{Beside, beside_new, state_beside, machine_beside}
use Rattle.machine_world.proofs.Captured.{has_slot, cells_made, count_made, new_owner, new_place, of_more}
use Rattle.machine_world.proofs.Frames.{inner, of_frame, runs_with, functions_split}
use Rattle.machine_world.proofs.Here.{here}
use Rattle.machine_world.proofs.Laid.{laid_length, laid_more}
use Rattle.machine_world.proofs.Upvalues.{function_there, closure_is}
use Rattle.machine_world.proofs.Written.{of_kept}
use Rattle.machine_closures.specs.Captures.{MayCapture, inside_by, cell_by, size_here, upvalues_here, Captured}

-- ---- what the function has

pub has_here : (w : LibWorld) (code : Code) (s : StackView) (r : ℕ) → Runs s → r < size_here w code s → HasRegister s r
unfolding part
has_here w code s r runs low =
    let i = inner s runs in
    let cs : List Closure = (objects_of w.arena w.owner).closures in
    let size : size_here w code s ≡ i.frame.registers = ap (λ fs. read_in 0 (λ i. i.frame.size) fs (world_with w code s.frames [] (cells_of w.names w.owner s w.arena))) (functions_split w.names cs s i.frame i.closure i.is i.of) in
    subst (λ q. IsSomeAnd q (λ f. IsLuau f × (r < f.registers))) (sym i.is) (of_frame s IsLuau i.frame i.is runs, subst (λ n. r < n) size low)

pub up_here : (w : LibWorld) (code : Code) (s : StackView) (u : ℕ) → Runs s → IsMachine w s → u < upvalues_here w code s → HasUpvalue w.arena s u
unfolding part
up_here w code s u runs is low =
    let i = inner s runs in
    let k = i.closure in
    let cs : List Closure = (objects_of w.arena w.owner).closures in
    let there = function_there w.owner w.arena s.frames (length s.frames - 1) i.frame k is.functions i.is i.of in
    let count : upvalues_here w code s ≡ length (closure_at w.arena k).cells =
    ap (λ fs. read_in 0 (λ i. length i.frame.upvalues) fs (world_with w code s.frames [] (cells_of w.names w.owner s w.arena))) (functions_split w.names cs s i.frame k i.is i.of)
    ∙ ap (λ (g : Closure). length (map place_of_cell g.cells)) (sym (closure_is w.owner w.arena k there.0))
    ∙ length-map (closure_at w.arena k).cells place_of_cell in
    subst (λ q. IsSomeAnd q (λ f. IsSomeAnd f.closure (λ c. u < length (closure_at w.arena c).cells))) (sym i.is)
    (subst (λ q. IsSomeAnd q (λ c. u < length (closure_at w.arena c).cells)) (sym i.of) (subst (λ n. u < n) count low))

pub low_register : (n m kind r : ℕ) → kind < 2 → MayCapture n m kind r → r < n
low_register n m zero r l may = may
low_register n m (suc zero) r l may = may
low_register n m (suc (suc k)) r l may = absurd (omega (arith, l))

pub low_upvalue : (n m kind u : ℕ) → 2 ≤ kind → MayCapture n m kind u → u < m
low_upvalue n m zero u l may = absurd (omega (arith, l))
low_upvalue n m (suc zero) u l may = absurd (omega (arith, l))
low_upvalue n m (suc (suc k)) u l may = may

-- ---- an upvalue

pub up_captured : (w : LibWorld) (code : Code) (s : StackView) (k u : ℕ) (c : CellId) → Runs s → IsMachine w s → Up w code s u c → Captured w code s (suc (suc k)) u w s c
up_captured w code s k u c runs is up =
    record {
      becomes = λ x replies. let h = here w code s replies runs in h.is x ∙ sym (ap (changed (inside_by (suc (suc k)) u)) (h.is x));
      place = up.place;
      own = up.cell;
      sound = is;
      frames = refl;
      world = refl;
      grows = grows_self w.arena;
    }

-- ---- a copy

module _ (w : LibWorld) (code : Code) (s : StackView) (r : ℕ) (v : Value) (has : HasRegister s r) (is : IsMachine w s) (read : (x : Focus) (replies : List Reply) → meant w.names v ≡ read_of m.Nil (register_value r) (part w code s x replies)) (may : MayUseIn w v) (there : HasCell (new_cell w.arena w.owner v) (next_cell w.arena w.owner)) where
  copied : Captured w code s 0 r (record w { arena = new_cell w.arena w.owner v }) s (next_cell w.arena w.owner)
  unfolding part cells_of
  copied =
      let b : ArenaView = new_cell w.arena w.owner v in
      let i = inner s (runs_with s r has) in
      let f = i.frame in
      let room = has_slot w.arena w.owner v there in
      let h : Beside w b = beside_new w v is.world may in
      let cs : List Closure = (objects_of w.arena w.owner).closures in
      let kept : List m.Value = kept_cells w.names w.owner w.arena in
      let cells : List m.Value = laid w.names s.registers s.cells kept in
      let run : machine.Frame = running w.names cs s i.closure f in
      let others : List machine.Frame = waiting w.names cs s.registers s.cells (reverse (outer s)) in
      let split : functions_of w.names cs s ≡ run ∷ others = functions_split w.names cs s f i.closure i.is i.of in
      let many : length kept ≡ cell_count w.owner w.arena = length-map (objects_of w.arena w.owner).cells (meant w.names) in
      let more : cell_count w.owner b ≡ cell_count w.owner w.arena + 1 = count_made w.owner w.arena v room in
      record {
        becomes = λ x replies.
            let world : machine.World = world_with w code s.frames replies cells in
            let held : meant w.names v ≡ machine.value_in run world r = read x replies ∙ ap (λ fs. read_in m.Nil (register_value r) fs world) split in
            state_beside w b code s.frames x replies (functions_of w.names (objects_of b w.owner).closures s) (laid w.names s.registers s.cells (kept_cells w.names w.owner b)) h
            ∙ ap (λ ks. state_with w code s.frames x replies (functions_of w.names ks s) (laid w.names s.registers s.cells (kept_cells w.names w.owner b))) h.closures
            ∙ ap (λ xs. state_with w code s.frames x replies (functions_of w.names cs s) (laid w.names s.registers s.cells xs)) (cells_made w.names w.owner w.arena v room)
            ∙ ap (λ xs. state_with w code s.frames x replies (functions_of w.names cs s) xs) (laid_more w.names s.registers w.owner s.cells kept (meant w.names v ∷ []) (of_kept w.names w.owner w.arena s.cells is.cells))
            ∙ ap (λ fs. state_with w code s.frames x replies fs (cells ++ meant w.names v ∷ [])) split
            ∙ ap (λ u. state_with w code s.frames x replies (run ∷ others) (cells ++ u ∷ [])) held
            ∙ sym (ap (λ fs. changed_in (inside_by 0 r) x fs world) split);
        place = λ x replies.
            new_place w.arena w.owner
            ∙ sym (laid_length w.names s.registers s.cells kept ∙ many)
            ∙ sym (ap (λ fs. read_in 0 (cell_by 0 r) fs (world_with w code s.frames replies cells)) split);
        own = (new_owner w.arena w.owner, omega (arith, more, new_place w.arena w.owner));
        sound = machine_beside w b s h (of_more w.owner (cell_count w.owner w.arena) (cell_count w.owner b) s.cells (omega (arith, more)) is.cells) is;
        frames = refl;
        world = refl;
        grows = h.grows;
      }

pub copy_done : (w : LibWorld) (code : Code) (s : StackView) (r : ℕ) (v : Value) (b : ArenaView) (c : CellId) → HasRegister s r → IsMachine w s → ((x : Focus) (replies : List Reply) → meant w.names v ≡ read_of m.Nil (register_value r) (part w code s x replies)) → MayUseIn w v → b ≡ new_cell w.arena w.owner v → c ≡ next_cell w.arena w.owner → HasCell b c → Captured w code s 0 r (record w { arena = b }) s c
copy_done w code s r v b c has is read may made e there =
    let now : HasCell (new_cell w.arena w.owner v) (next_cell w.arena w.owner) = subst (λ b. HasCell b (next_cell w.arena w.owner)) made (subst (HasCell b) e there) in
    subst (λ b. Captured w code s 0 r (record w { arena = b }) s c) (sym made)
    (subst (Captured w code s 0 r (record w { arena = new_cell w.arena w.owner v }) s) (sym e) (copied w code s r v has is read may now))
