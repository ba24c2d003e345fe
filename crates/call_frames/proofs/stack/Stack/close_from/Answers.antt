use Rattle.std.proofs.Common.{sym, subst, length}
use Rattle.value_arena.specs.Growing.{Grows}
use Rattle.call_frames.specs.Stacks as spec
use Rattle.call_frames.specs.Cells as opens
use Rattle.call_frames.proofs.Closing.{rises_kept, in_kept, in_closed, closed_grows}
use Rattle.call_frames.proofs.Live.{live_kept, once_kept}
use Rattle.call_frames.proofs.stack.Stack.close_from.Goals as goal

pub invariant_of-self : goal.invariant_of-self
invariant_of-self c =
    let end = length c.self.inside.registers.items in
    (subst (spec.Rises 0 end) (sym c.close.ensures.cells) (rises_kept c.args.register 0 end c.self.inside.cells.items c.self.invariant.0), c.self.invariant.1, c.self.invariant.2, c.self.invariant.3, subst (spec.AreLive c.self.inside.frames.items) (sym c.close.ensures.cells) (live_kept c.self.inside.frames.items c.args.register c.self.inside.cells.items c.self.invariant.4), subst spec.Once (sym c.close.ensures.cells) (once_kept c.args.register c.self.inside.cells.items c.self.invariant.5))

pub returns-clause-there : goal.returns-clause-there
returns-clause-there c =
    let os = c.self.inside.cells.items in
    let there : opens.AreIn c.args.arena.now os = subst (λ (s : spec.StackView). opens.AreIn c.args.arena.now s.cells) (sym c.self.view_is) c.requires in
    subst (λ a. opens.AreIn a c.close.new.cells.items) (sym c.close.ensures.arena)
    (subst (opens.AreIn (opens.closed c.args.register c.as_slice.result.now os c.args.arena.now)) (sym c.close.ensures.cells)
    (in_closed c.args.register c.as_slice.result.now os c.args.arena.now (opens.kept c.args.register os) (in_kept c.args.register c.args.arena.now os there)))

pub returns-clause-grows : goal.returns-clause-grows
returns-clause-grows c =
    subst (Grows c.args.arena.now) (sym c.close.ensures.arena)
    (closed_grows c.args.register c.as_slice.result.now c.self.inside.cells.items c.args.arena.now)
