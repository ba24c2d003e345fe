use Rattle.std.proofs.Common.{◌≡◌, ◌<◌, ◌+◌, ◌-◌, sym, ◌∙◌, ap, subst, length, get_or, arith}
use Rattle.std.proofs.lemmas.List.{get_or_read}
use Rattle.value_model.specs.declared.value.Value.TheVariants.{Nil}
use Rattle.call_frames.specs.Stacks as spec
use Rattle.call_frames.specs.Cells as opens
use Rattle.call_frames.proofs.Closing.{Local, local_is}
use Rattle.call_frames.proofs.stack.Stack.local.Goals as goal

pub overflow_add-frame : goal.overflow_add-frame
overflow_add-frame c =
    let s : spec.StackView = record { registers = c.self.inside.registers.items; top = c.self.inside.top; frames = c.self.inside.frames.items; cells = c.self.inside.cells.items } in
    let last : c.len.result ≡ length s.frames = c.len.ensures ∙ c.self.inside.frames.ok.0 in
    let has : opens.HasLocal s c.args.register = subst (λ (s : spec.StackView). opens.HasLocal s c.args.register) (sym c.self.view_is) c.requires in
    let here : Local s c.args.register c.index-frame.result.now = local_is s c.args.register c.index-frame.result.now has c.self.invariant.2 (c.index-frame.ensures ∙ ap (λ n. get_or s.frames (n - 1) c.index-frame.result.now) last) in
    let small = c.self.inside.registers.small in
    let ok = c.self.inside.registers.ok in
    omega (arith, here.within, c.from.ensures)

pub index-requires : goal.index-requires
index-requires c =
    let s : spec.StackView = record { registers = c.self.inside.registers.items; top = c.self.inside.top; frames = c.self.inside.frames.items; cells = c.self.inside.cells.items } in
    let last : c.len.result ≡ length s.frames = c.len.ensures ∙ c.self.inside.frames.ok.0 in
    let has : opens.HasLocal s c.args.register = subst (λ (s : spec.StackView). opens.HasLocal s c.args.register) (sym c.self.view_is) c.requires in
    let here : Local s c.args.register c.index-frame.result.now = local_is s c.args.register c.index-frame.result.now has c.self.invariant.2 (c.index-frame.ensures ∙ ap (λ n. get_or s.frames (n - 1) c.index-frame.result.now) last) in
    let ok = c.self.inside.registers.ok in
    omega (arith, here.within, c.from.ensures)

pub returns-clause-value : goal.returns-clause-value
unfolding opens.local
returns-clause-value c =
    let s : spec.StackView = record { registers = c.self.inside.registers.items; top = c.self.inside.top; frames = c.self.inside.frames.items; cells = c.self.inside.cells.items } in
    let last : c.len.result ≡ length s.frames = c.len.ensures ∙ c.self.inside.frames.ok.0 in
    let has : opens.HasLocal s c.args.register = subst (λ (s : spec.StackView). opens.HasLocal s c.args.register) (sym c.self.view_is) c.requires in
    let here : Local s c.args.register c.index-frame.result.now = local_is s c.args.register c.index-frame.result.now has c.self.invariant.2 (c.index-frame.ensures ∙ ap (λ n. get_or s.frames (n - 1) c.index-frame.result.now) last) in
    let at : c.index-frame.result.now.base + c.from.result ≡ opens.place_of s c.args.register = ap (λ n. c.index-frame.result.now.base + n) c.from.ensures ∙ here.place in
    let within : c.index-frame.result.now.base + c.from.result < length s.registers = omega (arith, here.within, c.from.ensures) in
    get_or_read s.registers (c.index-frame.result.now.base + c.from.result) c.index.result.now within c.index.ensures Nil
    ∙ ap (λ n. get_or s.registers n Nil) at
    ∙ ap (λ (s : spec.StackView). opens.local s c.args.register) c.self.view_is

pub returns-clause-layout : goal.returns-clause-layout
returns-clause-layout c = subst spec.Layout c.self.view_is (record { below = c.self.invariant.2; apart = c.self.invariant.3; rises = c.self.invariant.0; top = c.self.invariant.1; live = c.self.invariant.4; once = c.self.invariant.5 })
