-- Library functions that wait for the values of a call.
use Rattle.std.proofs.Common.{◌≡◌, ◌-◌, ◌<◌, List, [], ◌∷◌, ◌++◌, reverse, length, slice_get, Some, None, IsSomeAnd, refl, sym, ◌∙◌, ap, subst, arith}
use Rattle.std.specs.Option.{option_map_or}
use Rattle.value_model.specs.Values as m
use Rattle.value_model.specs.declared.event.Reply.{Reply}
use Rattle.value_arena.specs.declared.closure.Closure.{Closure}
use Rattle.value_arena.specs.Arenas.{ArenaView, objects_of}
use Rattle.luau_tables.specs.declared.globals.LibWorld.{LibWorld}
use Rattle.call_frames.specs.declared.frame.Frame.{Frame}
use Rattle.call_frames.specs.declared.frame.ReturnKind.{ReturnKind}
use Rattle.call_frames.specs.Stacks.{StackView, Layout}
use Rattle.call_frames.specs.Cells.{kept, closed, innermost, outer, low, popped, end_of, library_frame, library_called}
use Rattle.call_frames.proofs.Closing.{split_last, last_got, front_is, popped_is}
use Rattle.machine_meaning.specs.States as machine
use Rattle.machine_meaning.specs.States.{Focus}
use Rattle.machine_code.specs.declared.code.Code.{Code}
use Rattle.machine_world.specs.Functions.{with_function, running, waiting, functions_of, laid, kept_cells, cells_of, wait_by}
use Rattle.machine_world.specs.Parts.{world_with, state_with, part, awaited, over, Becomes}
use Rattle.machine_world.specs.Sound.{cell_count, IsFunctionOf, MayWaitInLibrary, MayWait, IsLibrary, LibraryWaits, LibraryWaitsFor, IsMachine}
use Rattle.machine_world.proofs.Laid.{laid_kept}
use Rattle.machine_world.proofs.Registers.{register_low}
use Rattle.machine_world.proofs.Frames.{lies, waiting_same, below_reverse, of_frame}
use Rattle.machine_world.proofs.FrameKinds.{of_library}
use Rattle.machine_world.proofs.Beside.{Beside, state_beside}
use Rattle.machine_world.proofs.Captured.{beside_closed}
use Rattle.machine_world.proofs.Calling.{lowered, of_both, waiting_is, left_waits, more_waits, all_append, are_own_more}
use Rattle.machine_world.proofs.Changing.{all_last}

-- where a library function waits innermost, all functions wait
pub library_split : (texts : List m.Bytes) (cs : List Closure) (s : StackView) (f : Frame) → innermost s ≡ Some f → f.closure ≡ None →
    functions_of texts cs s ≡ waiting texts cs s.registers s.cells (reverse (outer s))
unfolding functions_of
library_split texts cs s f e k =
    ap (λ q. option_map_or (λ f. with_function f.closure (λ c. running texts cs s c f) (waiting texts cs s.registers s.cells (reverse (outer s)))) q []) e
    ∙ ap (λ q. with_function q (λ c. running texts cs s c f) (waiting texts cs s.registers s.cells (reverse (outer s)))) k

-- ---- one begins to wait

pub part_awaited : (w : LibWorld) (code : Code) (s : StackView) (kind : ReturnKind) (x : Focus) (replies : List Reply) → s.top ≡ 0 → IsMachine w s →
    part w code (library_called kind s) x replies ≡ awaited (wait_by w.names kind) (part w code s x replies)
unfolding part library_called cells_of
part_awaited w code s kind x replies none is =
    let f : Frame = library_frame (end_of s) kind in
    let s' : StackView = record s { frames = s.frames ++ f ∷ [] } in
    let cs : List Closure = (objects_of w.arena w.owner).closures in
    let cells : List m.Value = laid w.names s.registers s.cells (kept_cells w.names w.owner w.arena) in
    let functions : functions_of w.names cs s' ≡ functions_of w.names cs s =
    library_split w.names cs s' f (last_got s'.frames s.frames f refl) refl
    ∙ ap (λ fs. waiting w.names cs s.registers s.cells (reverse fs)) (front_is s'.frames s.frames f refl)
    ∙ sym (waiting_is w.names cs s none) in
    ap (λ fs. state_with w code s'.frames x replies fs cells) functions
    ∙ ap (λ ws. record { focus = x; functions = functions_of w.names cs s; world = record (world_with w code s.frames replies cells) { waits = ws } }) (more_waits w s.frames f is.main)

pub keeps_awaited : (w : LibWorld) (s : StackView) (kind : ReturnKind) → MayWaitInLibrary w kind → IsMachine w s → IsMachine w (library_called kind s)
unfolding library_called
keeps_awaited w s kind may is =
    let fs : List Frame = library_frame (end_of s) kind ∷ [] in
    record {
      world = is.world;
      cells = is.cells;
      own = are_own_more s.frames fs s.cells is.own;
      values = is.values;
      functions = all_append (IsFunctionOf w.owner w.arena) s.frames fs is.functions (tt, tt);
      kinds = all_append (MayWait w) s.frames fs is.kinds (may, tt);
      shared = is.shared;
      main = is.main;
      marks = is.marks;
    }

pub awaits : (w : LibWorld) (code : Code) (s s' : StackView) (kind : ReturnKind) → s' ≡ library_called kind s → s.top ≡ 0 → IsMachine w s →
    Becomes (awaited (wait_by w.names kind)) w code s w s'
awaits w code s s' kind e none is = λ x replies. ap (λ (s : StackView). part w code s x replies) e ∙ part_awaited w code s kind x replies none is

pub awaited_top : (s s' : StackView) (kind : ReturnKind) → s' ≡ library_called kind s → s.top ≡ 0 → s'.top ≡ 0
unfolding library_called
awaited_top s s' kind e none = ap (λ (s : StackView). s.top) e ∙ none

-- ---- and no longer waits

pub part_over : (w : LibWorld) (code : Code) (s : StackView) (f : Frame) (x : Focus) (replies : List Reply) → innermost s ≡ Some f → f.closure ≡ None →
    Layout s → IsMachine w s → of_both w code x replies (lowered (popped (s, w.arena))) ≡ over (part w code s x replies)
unfolding part cells_of
part_over w code s f x replies e of layout is =
    let l = lies s f e layout in
    let cs : List Closure = (objects_of w.arena w.owner).closures in
    let cells : List m.Value = laid w.names s.registers s.cells (kept_cells w.names w.owner w.arena) in
    let b : ArenaView = closed (low f) s.registers s.cells w.arena in
    let s' : StackView = record s { frames = outer s; cells = kept (low f) s.cells; top = 0 } in
    let beside : Beside w b = beside_closed w (low f) s.registers s.cells (cell_count w.owner w.arena) is.world is.cells is.values in
    let others : List machine.Frame = waiting w.names cs s.registers s.cells (reverse (outer s)) in
    let functions : functions_of w.names cs s' ≡ others =
    waiting_is w.names cs s' refl
    ∙ waiting_same w.names cs s.registers s.registers s.cells (kept (low f) s.cells) (low f) (reverse (outer s)) (λ q h. register_low w.names s.registers s.cells (low f) q h) refl (below_reverse (low f) (outer s) l.below) in
    ap (λ b. of_both w code x replies (lowered b)) (popped_is (s, w.arena) f e)
    ∙ state_beside w b code (outer s) x replies (functions_of w.names (objects_of b w.owner).closures s') (laid w.names s.registers s'.cells (kept_cells w.names w.owner b)) beside
    ∙ ap (λ ks. state_with w code (outer s) x replies (functions_of w.names ks s') (laid w.names s.registers s'.cells (kept_cells w.names w.owner b))) beside.closures
    ∙ ap (λ cells. state_with w code (outer s) x replies (functions_of w.names cs s') cells) (laid_kept w.names s.registers w.owner (cell_count w.owner w.arena) (low f) 0 (length s.registers) s.cells w.arena layout.rises is.cells)
    ∙ ap (λ fs. state_with w code (outer s) x replies fs cells) functions
    ∙ ap (λ ws. record { focus = x; functions = others; world = record (world_with w code s.frames replies cells) { waits = ws } }) (sym (left_waits w s.frames (outer s) f is.main (split_last s.frames f e)))
    ∙ sym (ap (λ fs. over (state_with w code s.frames x replies fs cells)) (library_split w.names cs s f e of))

-- ---- the library function that waits

pub library_of : (s : StackView) (f : Frame) → innermost s ≡ Some f → LibraryWaits s → f.closure ≡ None
library_of s f e h = of_frame s IsLibrary f e h

pub library_kind : (s : StackView) (f : Frame) → innermost s ≡ Some f → LibraryWaits s → LibraryWaitsFor s f.kind
library_kind s f e h = subst (λ q. IsSomeAnd q (λ g. IsLibrary g × (g.kind ≡ f.kind))) (sym e) (library_of s f e h, refl)

pub library_may : (w : LibWorld) (s : StackView) (f : Frame) → innermost s ≡ Some f → LibraryWaits s → IsMachine w s → MayWaitInLibrary w f.kind
library_may w s f e h is =
    of_library w f (library_of s f e h) (all_last (MayWait w) s.frames (length s.frames - 1) f e is.kinds)

pub some_library : (s : StackView) → LibraryWaits s → 0 < length s.frames
some_library s h = by s.frames h
  where
    by : (fs : List Frame) → IsSomeAnd (slice_get fs (length fs - 1)) IsLibrary → 0 < length fs
    by [] h = absurd h
    by (g ∷ fs) h = omega arith
