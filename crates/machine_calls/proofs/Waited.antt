-- What waits in a script's running state, and who of it is innermost.
use Rattle.std.proofs.Common.{◌≡◌, refl, sym, ap, ◌∙◌, subst, ◌-◌, List, [], ◌∷◌, map, reverse, length, Option, Some, None, IsSomeAnd}
use Rattle.std.specs.Option.{option_map}
use Rattle.value_model.specs.Store as store
use Rattle.value_model.specs.Waits as wait
use Rattle.value_model.specs.declared.event.Reply.{Reply}
use Rattle.value_model.specs.declared.ids.ClosureId.{ClosureId}
use Rattle.value_model.specs.declared.value.Value.{Value}
use Rattle.value_arena.specs.Arenas.{objects_of}
use Rattle.luau_tables.specs.Part.{place_of_thread, store_of}
use Rattle.luau_tables.specs.Worlds.{store_in}
use Rattle.luau_tables.specs.declared.globals.LibWorld.{LibWorld}
use Rattle.call_frames.specs.declared.frame.Frame.{Frame}
use Rattle.call_frames.specs.declared.frame.ReturnKind.{ReturnKind}
use Rattle.call_frames.specs.declared.frame.ReturnKind.TheVariants as kind
use Rattle.call_frames.specs.Stacks.{StackView}
use Rattle.call_frames.specs.Cells.{innermost, outer}
use Rattle.call_frames.proofs.Closing.{split_last}
use Rattle.machine_meaning.specs.States as machine
use Rattle.machine_code.specs.declared.code.Code.{Code}
use Rattle.machine_world.specs.Functions.{functions_of, cells_of, wait_by, wait_in, wait_of}
use Rattle.machine_world.specs.Parts.{world_with, waits_in}
use Rattle.machine_world.specs.Sound.{MayWaitInLibrary, MayWait, IsLuau, IsLibrary, Runs, LibraryWaits, LibraryWaitsFor, IsMachine}
use Rattle.machine_world.proofs.Frames.{inner}
use Rattle.machine_world.proofs.FrameKinds.{of_library}
use Rattle.machine_world.proofs.Calling.{here_is, no_last, reverse_last}
use Rattle.machine_world.proofs.Changing.{all_last}
use Rattle.machine_calls.specs.Waiting as waits
use Rattle.machine_calls.specs.Waiting.{LibraryAsks, IsProtected, Catches, CatchesIn, IsCaught, IsInnermost}

-- the functions, and what all share
abbrev pub those : LibWorld → StackView → List machine.Frame
those w s = functions_of w.names (objects_of w.arena w.owner).closures s

abbrev pub shared : LibWorld → Code → StackView → List Reply → machine.World
shared w code s replies = world_with w code s.frames replies (cells_of w.names w.owner s w.arena)

-- the main function's own run goes on
pub none_runs : (w : LibWorld) → w.arena.running ≡ None → (store_in w).running ≡ None
unfolding store_of
none_runs w e = ap (λ r. option_map place_of_thread r) e

-- what waits in it
abbrev pub waiting_in : LibWorld → StackView → List wait.Wait
waiting_in w s = wait.waiting (waits_in w s.frames) (store.here (store_in w))

waits_are : (w : LibWorld) (s : StackView) → w.arena.running ≡ None → waiting_in w s ≡ map (wait_of w.names) (reverse s.frames)
waits_are w s e = ap (λ i. wait.waiting (waits_in w s.frames) i) (here_is w e)

pub waits_none : (w : LibWorld) (s : StackView) → w.arena.running ≡ None → innermost s ≡ None → waiting_in w s ≡ []
waits_none w s e none =
    waits_are w s e ∙ ap (λ fs. map (wait_of w.names) (reverse fs)) (no_last s.frames none)

abbrev pub others : LibWorld → StackView → List wait.Wait
others w s = map (wait_of w.names) (reverse (outer s))

waits_first : (w : LibWorld) (s : StackView) (f : Frame) → w.arena.running ≡ None → innermost s ≡ Some f → waiting_in w s ≡ wait_of w.names f ∷ others w s
waits_first w s f e is =
    waits_are w s e ∙ ap (λ fs. map (wait_of w.names) fs) (reverse_last s.frames (outer s) f (split_last s.frames f is))

-- a Luau function
pub waits_function : (w : LibWorld) (s : StackView) (runs : Runs s) → w.arena.running ≡ None → waiting_in w s ≡ wait.Runs (inner s runs).closure.place ∷ others w s
waits_function w s runs e =
    let i = inner s runs in
    waits_first w s i.frame e i.is ∙ ap (λ q. wait_in w.names q i.frame.kind ∷ others w s) i.of

-- the frame of a library function
pub record LibraryFrame (s : StackView) (k : ReturnKind) : Type 0 where
  pub frame : Frame
  pub is : innermost s ≡ Some frame
  pub library : frame.closure ≡ None
  pub kind : frame.kind ≡ k

pub library_frame : (s : StackView) (k : ReturnKind) → LibraryWaitsFor s k → LibraryFrame s k
library_frame s k h = by (innermost s) refl h
  where
    by : (q : Option Frame) → innermost s ≡ q → IsSomeAnd q (λ f. IsLibrary f × (f.kind ≡ k)) → LibraryFrame s k
    by None e h = absurd h
    by (Some f) e h = record { frame = f; is = e; library = h.0; kind = h.1 }

pub waits_library : (w : LibWorld) (s : StackView) (k : ReturnKind) → LibraryWaitsFor s k → w.arena.running ≡ None → waiting_in w s ≡ wait_by w.names k ∷ others w s
waits_library w s k h e =
    let l = library_frame s k h in
    waits_first w s l.frame e l.is
    ∙ ap (λ q. wait_in w.names q l.frame.kind ∷ others w s) l.library
    ∙ ap (λ k. wait_by w.names k ∷ others w s) l.kind

pub library_waits : (s : StackView) (k : ReturnKind) → LibraryWaitsFor s k → LibraryWaits s
library_waits s k h =
    let l = library_frame s k h in subst (λ q. IsSomeAnd q IsLibrary) (sym l.is) l.library

pub waits_so : (s : StackView) (f : Frame) (k : ReturnKind) → innermost s ≡ Some f → f.closure ≡ None → f.kind ≡ k → LibraryWaitsFor s k
waits_so s f k e of is = subst (λ q. IsSomeAnd q (λ f. IsLibrary f × (f.kind ≡ k))) (sym e) (of, is)

pub may_wait : (w : LibWorld) (s : StackView) (k : ReturnKind) → LibraryWaitsFor s k → IsMachine w s → MayWaitInLibrary w k
may_wait w s k h is =
    let l = library_frame s k h in
    subst (MayWaitInLibrary w) l.kind (of_library w l.frame l.library (all_last (MayWait w) s.frames (length s.frames - 1) l.frame l.is is.kinds))

-- ---- what it is

sorted_kind : (w : LibWorld) (s : StackView) (f : Frame) → innermost s ≡ Some f → f.closure ≡ None → (k : ReturnKind) → f.kind ≡ k → MayWaitInLibrary w k → IsInnermost s (waits.frame_waits None k)
sorted_kind w s f e of (kind.Protected None) is may = waits_so s f (kind.Protected None) e of is
sorted_kind w s f e of (kind.Protected (Some h)) is may = waits_so s f (kind.Protected (Some h)) e of is
sorted_kind w s f e of kind.Handler is may = waits_so s f kind.Handler e of is
sorted_kind w s f e of (kind.Library rest) is may = record { rest = rest; waits = waits_so s f (kind.Library rest) e of is }
sorted_kind w s f e of kind.Idle is may = absurd may
sorted_kind w s f e of (kind.Call to results next) is may = absurd may
sorted_kind w s f e of (kind.Answer to next) is may = absurd may
sorted_kind w s f e of (kind.Store next) is may = absurd may
sorted_kind w s f e of (kind.Jump by wanted next) is may = absurd may
sorted_kind w s f e of (kind.Join to left next) is may = absurd may
sorted_kind w s f e of (kind.Import to names next) is may = absurd may
sorted_kind w s f e of (kind.Iterate base by) is may = absurd may
sorted_kind w s f e of (kind.Turn base variables by next) is may = absurd may
sorted_kind w s f e of (kind.Coroutine wrapped) is may = absurd may

sorted_frame : (w : LibWorld) (s : StackView) (f : Frame) → innermost s ≡ Some f → (q : Option ClosureId) → f.closure ≡ q → IsMachine w s → IsInnermost s (waits.frame_waits q f.kind)
sorted_frame w s f e None of is =
    sorted_kind w s f e of f.kind refl (of_library w f of (all_last (MayWait w) s.frames (length s.frames - 1) f e is.kinds))
sorted_frame w s f e (Some c) of is =
    subst (λ q. IsSomeAnd q IsLuau) (sym e) (subst (λ q. IsSomeAnd q (λ c. Unit {0})) (sym of) tt)

pub sorted : (w : LibWorld) (s : StackView) → IsMachine w s → IsInnermost s (waits.waits_innermost s)
sorted w s is = by (innermost s) refl
  where
    by : (q : Option Frame) → innermost s ≡ q → IsInnermost s (waits.of_frame q)
    by None e = e
    by (Some f) e = sorted_frame w s f e f.closure refl is

pub protected : (s : StackView) (handler : Option Value) → LibraryWaitsFor s (kind.Protected handler) → IsProtected s
protected s handler h = record { handler = handler; waits = h }

pub catches : (s : StackView) (k : ReturnKind) → LibraryWaitsFor s k → CatchesIn k → Catches s
catches s k h is = record { kind = k; waits = h; catches = is }
