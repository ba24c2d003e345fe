use Rattle.std.proofs.Common.{◌≡◌, ◌+◌, ◌-◌, sym, ◌∙◌, ap, subst, length, get_or, set, arith}
use Rattle.call_frames.specs.Stacks as spec
use Rattle.call_frames.specs.Cells as opens
use Rattle.call_frames.proofs.Closing.{Local, local_is}
use Rattle.call_frames.proofs.stack.Stack.set_local.Goals as goal

pub overflow_add-base : goal.overflow_add-base
overflow_add-base c =
    let s : spec.StackView = record { registers = c.self.inside.registers.items; top = c.self.inside.top; frames = c.self.inside.frames.items; cells = c.self.inside.cells.items } in
    let last : c.len.result ≡ length s.frames = c.len.ensures ∙ c.self.inside.frames.ok.0 in
    let has : opens.HasLocal s c.args.register = subst (λ (s : spec.StackView). opens.HasLocal s c.args.register) (sym c.self.view_is) c.requires in
    let here : Local s c.args.register c.index.result.now = local_is s c.args.register c.index.result.now has c.self.invariant.2 (c.index.ensures ∙ ap (λ n. get_or s.frames (n - 1) c.index.result.now) last) in
    let small = c.self.inside.registers.small in
    let ok = c.self.inside.registers.ok in
    omega (arith, here.within, c.from.ensures)

pub index_mut-requires : goal.index_mut-requires
index_mut-requires c =
    let s : spec.StackView = record { registers = c.self.inside.registers.items; top = c.self.inside.top; frames = c.self.inside.frames.items; cells = c.self.inside.cells.items } in
    let last : c.len.result ≡ length s.frames = c.len.ensures ∙ c.self.inside.frames.ok.0 in
    let has : opens.HasLocal s c.args.register = subst (λ (s : spec.StackView). opens.HasLocal s c.args.register) (sym c.self.view_is) c.requires in
    let here : Local s c.args.register c.index.result.now = local_is s c.args.register c.index.result.now has c.self.invariant.2 (c.index.ensures ∙ ap (λ n. get_or s.frames (n - 1) c.index.result.now) last) in
    let ok = c.self.inside.registers.ok in
    omega (arith, here.within, c.from.ensures)

pub returns-clause-written : goal.returns-clause-written
unfolding opens.with_local
returns-clause-written c =
    let s : spec.StackView = record { registers = c.self.inside.registers.items; top = c.self.inside.top; frames = c.self.inside.frames.items; cells = c.self.inside.cells.items } in
    let last : c.len.result ≡ length s.frames = c.len.ensures ∙ c.self.inside.frames.ok.0 in
    let has : opens.HasLocal s c.args.register = subst (λ (s : spec.StackView). opens.HasLocal s c.args.register) (sym c.self.view_is) c.requires in
    let here : Local s c.args.register c.index.result.now = local_is s c.args.register c.index.result.now has c.self.invariant.2 (c.index.ensures ∙ ap (λ n. get_or s.frames (n - 1) c.index.result.now) last) in
    let at : c.index.result.now.base + c.from.result ≡ opens.place_of s c.args.register = ap (λ n. c.index.result.now.base + n) c.from.ensures ∙ here.place in
    ap (λ n. record s { registers = set s.registers n c.args.v }) at
    ∙ ap (λ (s : spec.StackView). opens.with_local s c.args.register c.args.v) c.self.view_is

pub returns-clause-layout : goal.returns-clause-layout
returns-clause-layout c = subst spec.Layout c.self.view_is (record { below = c.self.invariant.2; apart = c.self.invariant.3; rises = c.self.invariant.0; top = c.self.invariant.1; live = c.self.invariant.4; once = c.self.invariant.5 })
