use Rattle.std.proofs.Common.{◌≡◌, ◌+◌, ◌-◌, refl, sym, ◌∙◌, ap, subst, length, take, get_or, arith}
use Rattle.call_frames.specs.Stacks as spec
use Rattle.call_frames.specs.Cells as opens
use Rattle.call_frames.proofs.Ending.{EndsAt, ends_at, lying_on, placed_at, some_place}
use Rattle.call_frames.proofs.stack.Stack.deliver.Goals as goal

pub invariant_of-self : goal.invariant_of-self
invariant_of-self c =
    let s : spec.StackView = record { registers = c.self.inside.registers.items; top = c.self.inside.top; frames = c.self.inside.frames.items; cells = c.self.inside.cells.items } in
    let layout : spec.Layout s = record { below = c.self.invariant.2; apart = c.self.invariant.3; rises = c.self.invariant.0; top = c.self.invariant.1; live = c.self.invariant.4; once = c.self.invariant.5 } in
    let at : c.end-end.result ≡ opens.end_of s = c.end-end.ensures.value ∙ ap opens.end_of (sym c.self.view_is) in
    lying_on s c.overlay.new.registers.items c.end-end.result s.frames layout (omega (arith, at, c.in_err-overlay.ensures.kept)) c.in_err-overlay.ensures.kept refl

pub invariant_of-self-2 : goal.invariant_of-self-2
invariant_of-self-2 c =
    let s : spec.StackView = record { registers = c.self.inside.registers.items; top = c.self.inside.top; frames = c.self.inside.frames.items; cells = c.self.inside.cells.items } in
    let layout : spec.Layout s = record { below = c.self.invariant.2; apart = c.self.invariant.3; rises = c.self.invariant.0; top = c.self.invariant.1; live = c.self.invariant.4; once = c.self.invariant.5 } in
    let at : c.end-end.result ≡ opens.end_of s = c.end-end.ensures.value ∙ ap opens.end_of (sym c.self.view_is) in
    lying_on s c.overlay.new.registers.items (c.index.result.now.base + c.from.result + length c.args.vs.now) s.frames layout (omega (arith, at, c.in_ok-overlay.ensures.kept)) c.in_ok-overlay.ensures.within refl

pub returns : goal.returns
unfolding opens.delivered
returns c =
    let s : spec.StackView = record { registers = c.self.inside.registers.items; top = c.self.inside.top; frames = c.self.inside.frames.items; cells = c.self.inside.cells.items } in
    let f = c.index.result.now in
    let vs = c.args.vs.now in
    let at : c.end-end.result ≡ opens.end_of s = c.end-end.ensures.value ∙ ap opens.end_of (sym c.self.view_is) in
    let has : opens.HasPlace s c.args.to = subst (λ (s : spec.StackView). opens.HasPlace s c.args.to) (sym c.self.view_is) c.requires in
    let last : c.len.result ≡ length s.frames = c.len.ensures ∙ c.self.inside.frames.ok.0 in
    let here : EndsAt s f = ends_at s f (some_place s c.args.to has) (c.index.ensures ∙ ap (λ n. get_or s.frames (n - 1) f) last) c.self.invariant.2 in
    let place : f.base + c.from.result ≡ opens.place_of s c.args.to = ap (λ n. f.base + n) c.from.ensures ∙ sym (placed_at s f c.args.to here.is has).0 in
    ap (λ regs. record s { registers = regs; top = f.base + c.from.result + length vs }) c.in_ok-overlay.ensures.ok
    ∙ ap (λ e. record s { registers = opens.overlaid (take e s.registers) (f.base + c.from.result) vs; top = f.base + c.from.result + length vs }) at
    ∙ ap (λ p. record s { registers = opens.overlaid (take (opens.end_of s) s.registers) p vs; top = p + length vs }) place
    ∙ ap (λ (s : spec.StackView). opens.delivered c.args.to vs s) c.self.view_is
