use Rattle.std.proofs.Common.{◌≡◌, ◌≤◌, ◌++◌, ◌∷◌, [], sym, ◌∙◌, ap, length, arith}
use Rattle.call_frames.specs.Stacks as spec
use Rattle.call_frames.specs.Cells as opens
use Rattle.call_frames.proofs.Ending.{library_lies}
use Rattle.call_frames.proofs.stack.Stack.push_library.Goals as goal

pub invariant_of-self-2 : goal.invariant_of-self-2
invariant_of-self-2 c =
    let s : spec.StackView = record { registers = c.self.inside.registers.items; top = c.self.inside.top; frames = c.self.inside.frames.items; cells = c.self.inside.cells.items } in
    let layout : spec.Layout s = record { below = c.self.invariant.2; apart = c.self.invariant.3; rises = c.self.invariant.0; top = c.self.invariant.1; live = c.self.invariant.4; once = c.self.invariant.5 } in
    let at : c.end-base.result ≡ opens.end_of s = c.end-base.ensures.value ∙ ap opens.end_of (sym c.self.view_is) in
    let within : opens.end_of s ≤ length s.registers = omega (arith, at, c.end-base.ensures.within, ap (λ (s : spec.StackView). length s.registers) c.self.view_is) in
    library_lies s c.args.kind c.push.new.self.items layout within
    (c.in-Ok.ensures.items ∙ ap (λ fs. fs ++ opens.library_frame c.end-base.result c.args.kind ∷ []) c.reserve.ensures.items ∙ ap (λ e. s.frames ++ opens.library_frame e c.args.kind ∷ []) at)

pub returns-clause-ok : goal.returns-clause-ok
unfolding opens.library_called
returns-clause-ok c =
    let s : spec.StackView = record { registers = c.self.inside.registers.items; top = c.self.inside.top; frames = c.self.inside.frames.items; cells = c.self.inside.cells.items } in
    let at : c.end-base.result ≡ opens.end_of s = c.end-base.ensures.value ∙ ap opens.end_of (sym c.self.view_is) in
    ap (λ fs. record s { frames = fs }) (c.in-Ok.ensures.items ∙ ap (λ fs. fs ++ opens.library_frame c.end-base.result c.args.kind ∷ []) c.reserve.ensures.items ∙ ap (λ e. s.frames ++ opens.library_frame e c.args.kind ∷ []) at)
    ∙ ap (λ (s : spec.StackView). opens.library_called c.args.kind s) c.self.view_is
