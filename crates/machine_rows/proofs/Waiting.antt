-- The function that runs waits for what an operation gives, with its list of values as it was.
use Rattle.std.proofs.Common.{◌≡◌, List, sym, ◌∙◌, ap, subst}
use Rattle.value_model.specs.declared.event.Reply.{Reply}
use Rattle.value_arena.specs.declared.closure.Closure.{Closure}
use Rattle.value_arena.specs.Arenas.{objects_of}
use Rattle.luau_tables.specs.declared.globals.LibWorld.{LibWorld}
use Rattle.call_frames.specs.declared.frame.Frame.{Frame}
use Rattle.call_frames.specs.declared.frame.ReturnKind.{ReturnKind}
use Rattle.call_frames.specs.Stacks.{StackView}
use Rattle.call_frames.specs.Cells.{innermost, outer}
use Rattle.call_frames.specs.Cells as opens
use Rattle.call_frames.proofs.Closing.{last_got}
use Rattle.call_frames.proofs.Innermost.{replaced, with_innermost_is}
use Rattle.std.specs.Prelude.{IsSomeAnd, Some}
use Rattle.machine_meaning.specs.States.{Focus}
use Rattle.machine_code.specs.declared.code.Code.{Code}
use Rattle.machine_world.specs.Functions.{cells_of, purpose_of}
use Rattle.machine_world.specs.Parts.{world_with, part, changed_in, changed}
use Rattle.machine_world.specs.Sound.{MayWaitInCode, MayWaitIn, IsMachine, IsLuau, Runs}
use Rattle.machine_world.proofs.Frames.{inner, of_frame, functions_split}
use Rattle.machine_world.proofs.Changing.{framed, part_framed, keeps_framed}
use Rattle.machine_rows.specs.Leading.{expects}

pub part_expects : (w : LibWorld) (code : Code) (s : StackView) (kind : ReturnKind) (x : Focus) (replies : List Reply) → Runs s →
    part w code (opens.waiting kind s) x replies ≡ changed (expects (purpose_of w.names kind)) (part w code s x replies)
unfolding part
part_expects w code s kind x replies runs =
    let i = inner s runs in
    let f = i.frame in
    let cs : List Closure = (objects_of w.arena w.owner).closures in
    ap (λ (t : StackView). part w code t x replies) (sym (with_innermost_is (λ f. record f { kind = kind }) s f i.is))
    ∙ part_framed w code s f i.closure f.place s.top kind x replies i.is i.of
    ∙ sym (ap (λ fs. changed_in (expects (purpose_of w.names kind)) x fs (world_with w code s.frames replies (cells_of w.names w.owner s w.arena))) (functions_split w.names cs s f i.closure i.is i.of))

pub keeps_expects : (w : LibWorld) (s : StackView) (kind : ReturnKind) → Runs s → MayWaitInCode w kind → IsMachine w s →
    IsMachine w (opens.waiting kind s)
keeps_expects w s kind runs may is =
    let i = inner s runs in
    subst (IsMachine w) (with_innermost_is (λ f. record f { kind = kind }) s i.frame i.is) (keeps_framed w s i.frame i.frame.place s.top kind i.is (subst (λ q. MayWaitIn w q kind) (sym i.of) may) is)

pub runs_expects : (s : StackView) (kind : ReturnKind) → Runs s → Runs (opens.waiting kind s)
runs_expects s kind runs =
    let i = inner s runs in
    let f = i.frame in
    let g : Frame = record f { kind = kind } in
    let s' : StackView = framed s f f.place kind s.top in
    let now : innermost s' ≡ Some g = last_got s'.frames (outer s) g (replaced s.frames f g i.is) in
    subst Runs (with_innermost_is (λ f. record f { kind = kind }) s f i.is)
    (subst (λ q. IsSomeAnd q IsLuau) (sym now) (of_frame s IsLuau f i.is runs))
