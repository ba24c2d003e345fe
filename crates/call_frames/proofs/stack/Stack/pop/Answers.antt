use Rattle.std.proofs.Common.{◌≡◌, ◌-◌, sym, ◌∙◌, ap, subst, length, slice_get, Some}
use Rattle.value_arena.specs.Growing.{Grows}
use Rattle.call_frames.specs.Stacks as spec
use Rattle.call_frames.specs.Cells as opens
use Rattle.call_frames.proofs.Closing.{in_kept, in_closed, closed_grows, rises_kept, below_front, apart_front, last_got, popped_made}
use Rattle.call_frames.proofs.Live.{live_popped, once_kept}
use Rattle.call_frames.proofs.stack.Stack.pop.Goals as goal

pub invariant_of-self : goal.invariant_of-self
invariant_of-self c =
    let end = length c.self.inside.registers.items in (
      subst (spec.Rises 0 end) (sym c.close.ensures.cells) (rises_kept c.saturating_sub.result 0 end c.self.inside.cells.items c.self.invariant.0),
      c.self.invariant.1,
      below_front end c.pop.new.self.items c.in-Some.frame (subst (spec.AreBelow end) c.in-Some.ensures.items c.self.invariant.2),
      apart_front c.pop.new.self.items c.in-Some.frame (subst spec.AreApart c.in-Some.ensures.items c.self.invariant.3),
      subst (spec.AreLive c.pop.new.self.items) (sym (c.close.ensures.cells ∙ ap (λ r. opens.kept r c.self.inside.cells.items) c.saturating_sub.ensures)) (live_popped c.pop.new.self.items c.in-Some.frame c.self.inside.cells.items (subst (λ fs. spec.AreLive fs c.self.inside.cells.items) c.in-Some.ensures.items c.self.invariant.4)),
      subst spec.Once (sym c.close.ensures.cells) (once_kept c.saturating_sub.result c.self.inside.cells.items c.self.invariant.5),
    )

pub returns-clause-frame : goal.returns-clause-frame
returns-clause-frame c =
    subst (λ (s : spec.StackView). slice_get s.frames (length s.frames - 1) ≡ Some c.in-Some.frame) c.self.view_is (last_got c.self.inside.frames.items c.pop.new.self.items c.in-Some.frame c.in-Some.ensures.items)

pub returns-clause-popped : goal.returns-clause-popped
returns-clause-popped c =
    let s : spec.StackView = record { registers = c.self.inside.registers.items; top = c.self.inside.top; frames = c.self.inside.frames.items; cells = c.self.inside.cells.items } in
    popped_made s c.args.arena.now c.close.new.arena c.in-Some.frame c.pop.new.self.items c.close.new.cells.items c.saturating_sub.result c.in-Some.ensures.items c.saturating_sub.ensures c.close.ensures.cells
    (c.close.ensures.arena ∙ ap (λ regs. opens.closed c.saturating_sub.result regs s.cells c.args.arena.now) c.as_slice.ensures.value)
    ∙ ap (λ (s : spec.StackView). opens.popped (s, c.args.arena.now)) c.self.view_is

pub returns-clause-there : goal.returns-clause-there
returns-clause-there c =
    let os = c.self.inside.cells.items in
    let r = c.saturating_sub.result in
    let there : opens.AreIn c.args.arena.now os = subst (λ (s : spec.StackView). opens.AreIn c.args.arena.now s.cells) (sym c.self.view_is) c.requires.there in
    subst (λ a. opens.AreIn a c.close.new.cells.items) (sym c.close.ensures.arena)
    (subst (opens.AreIn (opens.closed r c.as_slice.result.now os c.args.arena.now)) (sym c.close.ensures.cells)
    (in_closed r c.as_slice.result.now os c.args.arena.now (opens.kept r os) (in_kept r c.args.arena.now os there)))

pub returns-clause-grows : goal.returns-clause-grows
returns-clause-grows c =
    subst (Grows c.args.arena.now) (sym c.close.ensures.arena)
    (closed_grows c.saturating_sub.result c.as_slice.result.now c.self.inside.cells.items c.args.arena.now)
