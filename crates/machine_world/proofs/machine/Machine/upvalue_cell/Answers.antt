use Rattle.std.proofs.Common.{◌≡◌, ◌<◌, length, get_or, Some, List, sym, ◌∙◌, ap, subst}
use Rattle.value_model.specs.declared.ids.CellId.{CellId}
use Rattle.value_arena.specs.declared.closure.Closure.{Closure}
use Rattle.value_arena.specs.Arenas.{closure_at}
use Rattle.call_frames.specs.Cells.{innermost}
use Rattle.std.specs.Prelude.{IsSomeAnd}
use Rattle.machine_world.specs.Sound.{Up}
use Rattle.machine_world.proofs.Frames.{of_frame}
use Rattle.machine_world.proofs.Upvalues.{up, of_closure}
use Rattle.machine_world.proofs.Results.{some_at}
use Rattle.machine_world.proofs.machine.Machine.upvalue_cell.Goals as goal

pub returns : goal.returns
returns c =
    let w = c.args.world.now in
    let m = c.args.self.now in
    let f = c.in-Some.frame.now in
    let k = c.in-Some-closure.id in
    let e : innermost m.stack ≡ Some f = sym c.in-Some.ensures in
    let of : f.closure ≡ Some k = c.in-Some-closure.is in
    let cells : List CellId = (closure_at w.arena k).cells in
    let low = of_closure f k (λ c'. c.args.upvalue < length (closure_at w.arena c').cells) of (of_frame m.stack (λ f. IsSomeAnd f.closure (λ c'. c.args.upvalue < length (closure_at w.arena c').cells)) f e c.requires.has) in
    let same : c.as_slice.result.now ≡ cells = c.as_slice.ensures ∙ ap (λ (g : Closure). g.cells) c.closure-closure.ensures in
    subst (Up w m.code m.stack c.args.upvalue) (ap (λ n. get_or cells n _) (sym c.from.ensures) ∙ ap (λ (xs : List CellId). get_or xs c.from.result _) (sym same))
    (up w m.code m.stack c.args.upvalue f k (get_or cells c.args.upvalue _) e of (some_at cells c.args.upvalue _ low) c.requires.sound)
