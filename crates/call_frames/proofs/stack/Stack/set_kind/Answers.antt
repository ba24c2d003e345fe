use Rattle.std.proofs.Common.{◌≡◌, ◌-◌, ◌<◌, sym, ◌∙◌, ap, subst, length, get_or, set, slice_get, Some, arith}
use Rattle.call_frames.specs.Stacks as spec
use Rattle.call_frames.specs.Cells as opens
use Rattle.call_frames.proofs.Closing.{read_last}
use Rattle.call_frames.proofs.Innermost.{Lie, lie_kind, with_innermost_is}
use Rattle.call_frames.proofs.stack.Stack.set_kind.Goals as goal

pub invariant_of-self : goal.invariant_of-self
invariant_of-self c =
    let s : spec.StackView = record { registers = c.self.inside.registers.items; top = c.self.inside.top; frames = c.self.inside.frames.items; cells = c.self.inside.cells.items } in
    let f = c.index_mut.result.now in
    let some : 0 < length s.frames = subst (λ (s : spec.StackView). 0 < length s.frames) (sym c.self.view_is) c.requires in
    let last : c.len-last.result ≡ length s.frames = c.len-last.ensures ∙ c.self.inside.frames.ok.0 in
    let got : slice_get s.frames (length s.frames - 1) ≡ Some f = read_last s.frames (length s.frames - 1) f (omega (arith, some)) (c.index_mut.ensures.value ∙ ap (λ n. get_or s.frames (n - 1) f) last) in
    let end = length s.registers in
    let old : Lie end s.frames s.cells = record { below = c.self.invariant.2; apart = c.self.invariant.3; live = c.self.invariant.4 } in
    let new : Lie end (set s.frames (c.len-last.result - 1) (record f { kind = c.args.kind })) s.cells = subst (λ n. Lie end (set s.frames (n - 1) (record f { kind = c.args.kind })) s.cells) (sym last) (lie_kind end s.frames s.cells f c.args.kind got old) in
    (c.self.invariant.0, c.self.invariant.1, new.below, new.apart, new.live, c.self.invariant.5)

pub returns : goal.returns
returns c =
    let s : spec.StackView = record { registers = c.self.inside.registers.items; top = c.self.inside.top; frames = c.self.inside.frames.items; cells = c.self.inside.cells.items } in
    let f = c.index_mut.result.now in
    let some : 0 < length s.frames = subst (λ (s : spec.StackView). 0 < length s.frames) (sym c.self.view_is) c.requires in
    let last : c.len-last.result ≡ length s.frames = c.len-last.ensures ∙ c.self.inside.frames.ok.0 in
    let got : slice_get s.frames (length s.frames - 1) ≡ Some f = read_last s.frames (length s.frames - 1) f (omega (arith, some)) (c.index_mut.ensures.value ∙ ap (λ n. get_or s.frames (n - 1) f) last) in
    ap (λ n. record s { frames = set s.frames (n - 1) (record f { kind = c.args.kind }) }) last
    ∙ with_innermost_is (λ f. record f { kind = c.args.kind }) s f got
    ∙ ap (opens.waiting c.args.kind) c.self.view_is
