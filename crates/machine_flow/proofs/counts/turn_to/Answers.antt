use Rattle.std.proofs.Common.{to_z, of_z, w16, ◌+◌, ◌+ℤ◌, pos, sym, ◌∙◌, ap, subst}
use Rattle.std.proofs.lemmas.Int.{to_z-of_z}
use Rattle.value_model.specs.Loops.{Range as WithRange}
use Rattle.machine_meaning.specs.Effects.{added, again, with_bounds}
use Rattle.machine_world.specs.Rows.{place_here}
use Rattle.machine_world.specs.Sound.{Back}
use Rattle.machine_world.proofs.Going.{runs_on}
use Rattle.machine_flow.specs.Flow.{gone}
use Rattle.machine_flow.proofs.Steps.{runs_same, then, row_on}
use Rattle.machine_flow.proofs.Counting.{turn, no_turn, turn_goes}
use Rattle.machine_flow.proofs.counts.turn_to.Goals as goal

pub go_on-requires-clause-runs : goal.go_on-requires-clause-runs
go_on-requires-clause-runs c = runs_same c.args.machine.now.stack c.set_range.new.machine.stack c.set_range.ensures.frames (runs_on c.args.machine.now.stack c.requires.goes)

pub go_on-requires-in-None-clause-runs : goal.go_on-requires-in-None-clause-runs
go_on-requires-in-None-clause-runs c = runs_on c.args.machine.now.stack c.requires.goes

pub back-to-requires : goal.back-to-requires
back-to-requires c =
    subst (λ p. Back p (to_z w16 (of_z w16 c.args.by))) (sym c.place.ensures) (subst (Back (place_here c.args.machine.now.stack)) (sym (to_z-of_z w16 c.args.by c.ranges.by)) c.requires.back)

pub returns-in-Some-clause-makes : goal.returns-in-Some-clause-makes
returns-in-Some-clause-makes c = λ i is.
    let w = c.args.world.now in
    let k = c.args.machine.now in
    let l = c.args.limit in
    let s = c.args.step in
    let t = c.in-Some.index in
    let to = c.back-to.result in
    row_on w w k.code k.stack c.go_on.new.machine.stack (added (WithRange i l s) c.args.base c.args.by c.args.next) (with_bounds c.args.base t l s) to (runs_on k.stack c.requires.goes)
    (then w w w k.code c.set_range.new.machine.code k.stack c.set_range.new.machine.stack c.go_on.new.machine.stack (with_bounds c.args.base t l s) (gone to) c.set_range.ensures.code c.set_range.ensures.written c.go_on.ensures.gone)
    (λ replies h. turn_goes i l s t c.args.base to c.args.by c.args.next h.frame h.others h.world (turn i l s t (sym c.in-Some.is ∙ is))
    (c.back-to.ensures ∙ ap (λ p. pos (p + 1) +ℤ to_z w16 (of_z w16 c.args.by)) (c.place.ensures ∙ sym h.place) ∙ ap (λ z. pos (h.frame.place + 1) +ℤ z) (to_z-of_z w16 c.args.by c.ranges.by)))

pub returns-in-None-clause-makes : goal.returns-in-None-clause-makes
returns-in-None-clause-makes c = λ i is.
    let w = c.args.world.now in
    let k = c.args.machine.now in
    let l = c.args.limit in
    let s = c.args.step in
    row_on w w k.code k.stack c.go_on-in-None.new.machine.stack (added (WithRange i l s) c.args.base c.args.by c.args.next) (λ x. x) c.args.next (runs_on k.stack c.requires.goes) c.go_on-in-None.ensures.gone
    (λ replies h. ap (λ b. again b c.args.base (i +ℤ s) l s c.args.by c.args.next h.frame h.others h.world) (no_turn i l s (sym c.in-None.is ∙ is)))
