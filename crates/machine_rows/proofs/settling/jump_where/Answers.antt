use Rattle.std.proofs.Common.{to_z, of_z, w16, sym, ◌∙◌, ap, subst}
use Rattle.std.proofs.lemmas.Int.{to_z-of_z}
use Rattle.value_model.specs.Parts.{meant}
use Rattle.value_model.specs.Values.{is_true}
use Rattle.meta_ops.specs.Outcomes.{meant_outcome}
use Rattle.machine_meaning.specs.Moves.{branch, comes}
use Rattle.machine_meaning.specs.Effects.{agrees}
use Rattle.machine_meaning.specs.States.{Compares}
use Rattle.machine_world.proofs.Going.{runs_on}
use Rattle.machine_rows.specs.Leading.{looks, Does}
use Rattle.machine_rows.proofs.Following.{taken_at_once, branch_waiting}
use Rattle.machine_rows.proofs.settling.jump_where.Goals as goal

pub returns-in-Done-clause-makes : goal.returns-in-Done-clause-makes
returns-in-Done-clause-makes c = λ chunk n.
    let w = c.args.world.now in
    let k = c.args.machine.now in
    let v = meant w.names c.in-Done.v in
    taken_at_once chunk w k.code k.stack c.jump_where.new.self.stack c.args.outcome n (Compares c.args.wanted c.args.by c.args.next) (runs_on k.stack c.requires.goes) c.in-Done.v (branch c.agrees-holds.result (to_z w16 (of_z w16 c.args.by)) c.args.next) c.in-Done.is
    (λ f fs u. branch_waiting (agrees c.args.wanted (is_true v)) c.args.by c.args.next (Compares c.args.wanted c.args.by c.args.next) f fs u
    ∙ ap (λ b. branch (agrees c.args.wanted b) c.args.by c.args.next f fs u) (c.truthy.ensures w.names)
    ∙ ap (λ b. branch b c.args.by c.args.next f fs u) (sym c.agrees-holds.ensures)
    ∙ ap (λ z. branch c.agrees-holds.result z c.args.next f fs u) (sym (to_z-of_z w16 c.args.by c.ranges.by)))
    c.jump_where.ensures.makes

pub settle-requires-clause-runs : goal.settle-requires-clause-runs
settle-requires-clause-runs c = runs_on c.args.machine.now.stack c.requires.goes

pub returns-in_default-clause-makes : goal.returns-in_default-clause-makes
returns-in_default-clause-makes c = λ chunk n.
    let w = c.args.world.now in
    let k = c.args.machine.now in
    subst (λ z. Does chunk (comes (meant_outcome w.names c.args.outcome) (looks n) (Compares c.args.wanted z c.args.next)) w k.code k.stack n c.settle.result w c.settle.new.machine.stack) (to_z-of_z w16 c.args.by c.ranges.by) (c.settle.ensures.makes chunk n)
