use Rattle.std.proofs.Common.{◌≡◌, to_z, of_z, w16, not, refl, sym, ◌∙◌, ap, subst}
use Rattle.std.proofs.lemmas.Int.{to_z-of_z}
use Rattle.value_model.specs.Loops.{goes_on, Range as WithRange}
use Rattle.op_words.specs.declared.insn.Insn.TheVariants.{ForNPrep}
use Rattle.machine_meaning.specs.Effects.{prepared, with_bounds}
use Rattle.machine_meaning.specs.Instructions.{row}
use Rattle.machine_meaning.specs.Moves.{inside, branch}
use Rattle.machine_meaning.specs.States.{Run}
use Rattle.machine_world.specs.Rows.{Makes, place_here}
use Rattle.machine_world.specs.Sound.{Ahead}
use Rattle.machine_world.specs.Parts.{part, read_of}
use Rattle.machine_world.proofs.Going.{runs_on, goes_same}
use Rattle.machine_world.proofs.Here.{read_here}
use Rattle.machine_flow.specs.Counts.{bounds_at, no_bounds}
use Rattle.machine_flow.proofs.Steps.{row_behind}
use Rattle.machine_flow.proofs.Rows.{place_same}
use Rattle.machine_flow.proofs.Counting.{begins, bounds_fail}
use Rattle.machine_flow.proofs.counts.begin_count.Goals as goal

pub jump_where-requires-clause-goes : goal.jump_where-requires-clause-goes
jump_where-requires-clause-goes c = goes_same c.args.machine.now.stack c.set_range.new.machine.stack c.set_range.ensures.frames c.requires.goes

pub jump_where-requires-clause-ahead : goal.jump_where-requires-clause-ahead
jump_where-requires-clause-ahead c =
    let s = c.args.machine.now.stack in
    subst (λ p. Ahead p (to_z w16 (of_z w16 c.args.by))) (sym (place_same s c.set_range.new.machine.stack c.set_range.ensures.frames))
    (subst (Ahead (place_here s)) (sym (to_z-of_z w16 c.args.by c.ranges.by)) c.requires.ahead)

pub returns-in-Failed-clause-makes : goal.returns-in-Failed-clause-makes
returns-in-Failed-clause-makes c = λ chunk words.
    let w = c.args.world.now in
    let k = c.args.machine.now in
    bounds_fail w k.code k.stack (row chunk words (ForNPrep c.args.base c.args.by) c.args.next) (λ b. prepared b c.args.base c.args.by c.args.next) c.args.base c.in-Failed.failure (runs_on k.stack c.requires.goes) c.in-Failed.ensures
    (λ f fs v. refl) (λ x f fs v. refl) (λ x f fs v. refl)

pub returns-in-Range-clause-makes : goal.returns-in-Range-clause-makes
returns-in-Range-clause-makes c = λ chunk words.
    let w = c.args.world.now in
    let k = c.args.machine.now in
    let i = c.in-Range.index in
    let l = c.in-Range.limit in
    let s = c.in-Range.step in
    let by = to_z w16 (of_z w16 c.args.by) in
    let goes = c.goes_on-goes.result in
    let s1 = c.set_range.new.machine.stack in
    let s2 = c.jump_where.new.self.stack in
    row_behind w w w k.code k.stack s1 s2 (row chunk words (ForNPrep c.args.base c.args.by) c.args.next) (branch (not goes) by c.args.next) (with_bounds c.args.base i l s) (runs_on k.stack c.requires.goes) c.set_range.ensures.written
    (subst (λ code. Makes (branch (not goes) by c.args.next) w code s1 w s2) c.set_range.ensures.code c.jump_where.ensures.makes)
    (λ replies h.
    let j = with_bounds c.args.base i l s (inside h.frame h.world) in
    let fact : WithRange i l s ≡ read_of no_bounds (bounds_at c.args.base) (part w k.code k.stack Run replies) = c.in-Range.ensures Run replies in
    ap (λ b. prepared b c.args.base c.args.by c.args.next h.frame h.others h.world) (sym (read_here h no_bounds (bounds_at c.args.base) Run (WithRange i l s) fact))
    ∙ begins (goes_on i l s) c.args.by c.args.next j.frame h.others j.world
    ∙ ap (λ b. branch (not b) c.args.by c.args.next j.frame h.others j.world) (sym c.goes_on-goes.ensures)
    ∙ ap (λ z. branch (not goes) z c.args.next j.frame h.others j.world) (sym (to_z-of_z w16 c.args.by c.ranges.by)))
