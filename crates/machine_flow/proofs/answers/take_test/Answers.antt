use Rattle.std.proofs.Common.{to_z, of_z, w16, map, sym, ◌∙◌, ap, subst}
use Rattle.std.proofs.lemmas.Int.{to_z-of_z}
use Rattle.value_model.specs.Parts.{meant}
use Rattle.value_model.specs.Values.{is_true}
use Rattle.call_frames.specs.declared.frame.ReturnKind.TheVariants.{Jump}
use Rattle.machine_meaning.specs.Moves.{branch}
use Rattle.machine_meaning.specs.Effects.{agrees}
use Rattle.machine_meaning.specs.States.{Run}
use Rattle.machine_world.specs.Parts.{awake}
use Rattle.machine_world.specs.Rows.{Makes, takes, place_here}
use Rattle.machine_world.specs.Sound.{Ahead}
use Rattle.machine_world.proofs.Going.{runs_on}
use Rattle.machine_world.proofs.Here.{row_like, runs_waiting}
use Rattle.machine_flow.proofs.Steps.{receives, row_behind, branch_awake, place_awake}
use Rattle.machine_flow.proofs.Gathered.{first_is}
use Rattle.machine_flow.proofs.answers.take_test.Goals as goal

pub awake-requires-clause-runs : goal.awake-requires-clause-runs
awake-requires-clause-runs c = runs_waiting c.args.machine.now.stack (Jump c.args.by c.args.wanted c.args.next) c.requires.waits

pub jump_where-requires-clause-ahead : goal.jump_where-requires-clause-ahead
jump_where-requires-clause-ahead c =
    let w = c.args.world.now in
    let k = c.args.machine.now in
    let place = place_awake w k.code k.stack c.awake.new.self.stack (runs_waiting k.stack (Jump c.args.by c.args.wanted c.args.next) c.requires.waits) (runs_on c.awake.new.self.stack c.awake.ensures.goes) c.awake.ensures.awake in
    subst (λ p. Ahead p (to_z w16 (of_z w16 c.args.by))) (sym place) (subst (Ahead (place_here k.stack)) (sym (to_z-of_z w16 c.args.by c.ranges.by)) c.requires.ahead)

pub returns-clause-makes : goal.returns-clause-makes
returns-clause-makes c =
    let w = c.args.world.now in
    let k = c.args.machine.now in
    let vs = map (meant w.names) c.args.values.now in
    let kind = Jump c.args.by c.args.wanted c.args.next in
    let s1 = c.awake.new.self.stack in
    let s' = c.jump_where.new.self.stack in
    let holds = c.agrees-holds.result in
    let by = to_z w16 (of_z w16 c.args.by) in
    let runs = runs_waiting k.stack kind c.requires.waits in
    row_like w w k.code k.stack s' (takes vs) (branch holds by c.args.next) Run runs
    (row_behind w w w k.code k.stack s1 s' (branch holds by c.args.next) (branch holds by c.args.next) awake runs c.awake.ensures.awake
    (subst (λ code. Makes (branch holds by c.args.next) w code s1 w s') c.awake.ensures.code c.jump_where.ensures.makes) (λ replies h. sym (branch_awake holds by c.args.next h.frame h.others h.world)))
    (λ replies h. receives h kind vs c.requires.waits
    ∙ ap (λ v. branch (agrees c.args.wanted (is_true v)) c.args.by c.args.next h.frame h.others h.world) (sym (ap (meant w.names) c.first.ensures ∙ first_is w.names c.args.values.now))
    ∙ ap (λ b. branch (agrees c.args.wanted b) c.args.by c.args.next h.frame h.others h.world) (c.truthy.ensures w.names)
    ∙ ap (λ b. branch b c.args.by c.args.next h.frame h.others h.world) (sym c.agrees-holds.ensures)
    ∙ ap (λ z. branch holds z c.args.next h.frame h.others h.world) (sym (to_z-of_z w16 c.args.by c.ranges.by)))
