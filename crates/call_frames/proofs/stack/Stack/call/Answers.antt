use Rattle.std.proofs.Common.{◌≡◌, ◌+◌, ◌-◌, ◌≤◌, ◌++◌, ◌∷◌, [], List, sym, ◌∙◌, ap, subst, length, take, replicate, arith, ℕ}
use Rattle.value_model.specs.declared.value.Value.{Value}
use Rattle.value_model.specs.declared.value.Value.TheVariants.{Nil}
use Rattle.call_frames.specs.declared.frame.Frame.{Frame}
use Rattle.call_frames.specs.Stacks as spec
use Rattle.call_frames.specs.Cells as opens
use Rattle.call_frames.proofs.Ending.{Lying, lying_on, called_lies}
use Rattle.call_frames.proofs.stack.Stack.call.Goals as goal

pub invariant_of-self-in_err-lay : goal.invariant_of-self-in_err-lay
invariant_of-self-in_err-lay c =
    let s : spec.StackView = record { registers = c.self.inside.registers.items; top = c.self.inside.top; frames = c.self.inside.frames.items; cells = c.self.inside.cells.items } in
    let layout : spec.Layout s = record { below = c.self.invariant.2; apart = c.self.invariant.3; rises = c.self.invariant.0; top = c.self.invariant.1; live = c.self.invariant.4; once = c.self.invariant.5 } in
    let at : c.end-end.result ≡ opens.end_of s = c.end-end.ensures.value ∙ ap opens.end_of (sym c.self.view_is) in
    lying_on s c.lay.new.registers.items c.end-end.result c.reserve.new.self.items layout (omega (arith, at, c.in_err-lay.ensures.kept)) c.in_err-lay.ensures.kept c.reserve.ensures.items

pub invariant_of-self-2 : goal.invariant_of-self-2
invariant_of-self-2 c =
    let s : spec.StackView = record { registers = c.self.inside.registers.items; top = c.self.inside.top; frames = c.self.inside.frames.items; cells = c.self.inside.cells.items } in
    let layout : spec.Layout s = record { below = c.self.invariant.2; apart = c.self.invariant.3; rises = c.self.invariant.0; top = c.self.invariant.1; live = c.self.invariant.4; once = c.self.invariant.5 } in
    let at : c.end-end.result ≡ opens.end_of s = c.end-end.ensures.value ∙ ap opens.end_of (sym c.self.view_is) in
    let within : opens.end_of s ≤ length s.registers = omega (arith, at, c.end-end.ensures.within, ap (λ (s : spec.StackView). length s.registers) c.self.view_is) in
    let extra = c.args.extra.now in
    let given = c.args.given.now in
    let regs : c.lay.new.registers.items ≡ take (opens.end_of s) s.registers ++ extra ++ given ++ replicate (c.args.registers - length given) Nil = c.in_ok-lay.ensures.ok ∙ ap (λ e. take e s.registers ++ extra ++ given ++ replicate (c.args.registers - length given) Nil) at in
    let frames : c.push.new.self.items ≡ s.frames ++ opens.entered_frame c.args.closure (opens.end_of s + length extra) c.args.registers (length extra) ∷ [] =
    c.in-Ok.ensures.items ∙ ap (λ fs. fs ++ opens.entered_frame c.args.closure (c.end-end.result + length extra) c.args.registers (length extra) ∷ []) c.reserve.ensures.items
    ∙ ap (λ e. s.frames ++ opens.entered_frame c.args.closure (e + length extra) c.args.registers (length extra) ∷ []) at in
    subst (λ e. Lying (record s { registers = c.lay.new.registers.items; top = e + length extra + length given; frames = c.push.new.self.items })) (sym at)
    (called_lies s c.args.closure c.args.registers given extra c.lay.new.registers.items c.push.new.self.items layout within c.requires regs frames)

pub returns : goal.returns
unfolding opens.called
returns c =
    let s : spec.StackView = record { registers = c.self.inside.registers.items; top = c.self.inside.top; frames = c.self.inside.frames.items; cells = c.self.inside.cells.items } in
    let at : c.end-end.result ≡ opens.end_of s = c.end-end.ensures.value ∙ ap opens.end_of (sym c.self.view_is) in
    let extra = c.args.extra.now in
    let given = c.args.given.now in
    let frame : ℕ → Frame = λ e. opens.entered_frame c.args.closure (e + length extra) c.args.registers (length extra) in
    let laid : ℕ → List Value = λ e. take e s.registers ++ extra ++ given ++ replicate (c.args.registers - length given) Nil in
    ap (λ regs. record s { registers = regs; top = c.end-end.result + length extra + length given; frames = c.push.new.self.items }) c.in_ok-lay.ensures.ok
    ∙ ap (λ fs. record s { registers = laid c.end-end.result; top = c.end-end.result + length extra + length given; frames = fs }) (c.in-Ok.ensures.items ∙ ap (λ fs. fs ++ frame c.end-end.result ∷ []) c.reserve.ensures.items)
    ∙ ap (λ e. record s { registers = laid e; top = e + length extra + length given; frames = s.frames ++ frame e ∷ [] }) at
    ∙ ap (λ (s : spec.StackView). opens.called c.args.closure c.args.registers given extra s) c.self.view_is
