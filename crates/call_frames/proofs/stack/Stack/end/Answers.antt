use Rattle.std.proofs.Common.{◌≡◌, ◌-◌, ◌∙◌, ap, length, get_or, arith}
use Rattle.call_frames.specs.Stacks as spec
use Rattle.call_frames.proofs.Ending.{EndsAt, ends_at}
use Rattle.call_frames.proofs.stack.Stack.end.Goals as goal

pub overflow_add-result : goal.overflow_add-result
overflow_add-result c =
    let s : spec.StackView = record { registers = c.self.inside.registers.items; top = c.self.inside.top; frames = c.self.inside.frames.items; cells = c.self.inside.cells.items } in
    let f = c.index-frame.result.now in
    let many : c.len-depth.result ≡ length s.frames = c.len-depth.ensures ∙ c.self.inside.frames.ok.0 in
    let here : EndsAt s f = ends_at s f (omega (arith, many, c.if-depth-eq0.false)) (c.index-frame.ensures ∙ ap (λ n. get_or s.frames (n - 1) f) many) c.self.invariant.2 in
    let small = c.self.inside.registers.small in
    let ok = c.self.inside.registers.ok in
    omega (arith, here.within, c.from.ensures)

pub returns-clause-within : goal.returns-clause-within
returns-clause-within c =
    let s : spec.StackView = record { registers = c.self.inside.registers.items; top = c.self.inside.top; frames = c.self.inside.frames.items; cells = c.self.inside.cells.items } in
    let f = c.index-frame.result.now in
    let many : c.len-depth.result ≡ length s.frames = c.len-depth.ensures ∙ c.self.inside.frames.ok.0 in
    let here : EndsAt s f = ends_at s f (omega (arith, many, c.if-depth-eq0.false)) (c.index-frame.ensures ∙ ap (λ n. get_or s.frames (n - 1) f) many) c.self.invariant.2 in
    let regs : length s.registers ≡ length c.args.self.now.registers = ap (λ (s : spec.StackView). length s.registers) c.self.view_is in
    omega (arith, here.within, c.from.ensures, regs)
