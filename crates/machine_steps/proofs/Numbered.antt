-- The number of the function that runs.
use Rattle.std.proofs.Common.{◌≡◌, ◌-◌, List, [], length, Some, sym, ◌∙◌, ap}
use Rattle.value_model.specs.declared.ids.ClosureId.{ClosureId}
use Rattle.value_arena.specs.declared.closure.Closure.{Closure}
use Rattle.value_arena.specs.Arenas.{objects_of, closure_at}
use Rattle.luau_tables.specs.declared.globals.LibWorld.{LibWorld}
use Rattle.call_frames.specs.declared.frame.Frame.{Frame}
use Rattle.call_frames.specs.Stacks.{StackView}
use Rattle.call_frames.specs.Cells.{innermost}
use Rattle.machine_code.specs.declared.code.Code.{Code}
use Rattle.machine_world.specs.Functions.{cells_of}
use Rattle.machine_world.specs.Parts.{world_with, part, read_in}
use Rattle.machine_world.specs.Rows.{proto_here}
use Rattle.machine_world.specs.Sound.{IsMachine}
use Rattle.machine_world.proofs.Frames.{functions_split}
use Rattle.machine_world.proofs.Upvalues.{function_there, closure_is}

pub number_here : (w : LibWorld) (code : Code) (s : StackView) (f : Frame) (k : ClosureId) → innermost s ≡ Some f → f.closure ≡ Some k → IsMachine w s →
    (closure_at w.arena k).proto ≡ proto_here w code s
unfolding part
number_here w code s f k e of is =
    let there = function_there w.owner w.arena s.frames (length s.frames - 1) f k is.functions e of in
    let cs : List Closure = (objects_of w.arena w.owner).closures in
    ap (λ (g : Closure). g.proto) (closure_is w.owner w.arena k there.0)
    ∙ sym (ap (λ fs. read_in 0 (λ i. i.frame.proto) fs (world_with w code s.frames [] (cells_of w.names w.owner s w.arena))) (functions_split w.names cs s f k e of))
