use Rattle.std.proofs.Common.{map}
use Rattle.value_model.specs.Parts.{meant}
use Rattle.call_frames.specs.declared.frame.ReturnKind.TheVariants.{Store}
use Rattle.machine_world.specs.Rows.{takes}
use Rattle.machine_world.proofs.Here.{runs_waiting}
use Rattle.machine_flow.proofs.Steps.{row_on, receives}
use Rattle.machine_flow.proofs.answers.take_nothing.Goals as goal

pub go_on-requires-clause-runs : goal.go_on-requires-clause-runs
go_on-requires-clause-runs c = runs_waiting c.args.machine.now.stack (Store c.args.next) c.requires.waits

pub returns-clause-makes : goal.returns-clause-makes
returns-clause-makes c =
    let w = c.args.world.now in
    let k = c.args.machine.now in
    let vs = map (meant w.names) c.args.values.now in
    let kind = Store c.args.next in
    row_on w w k.code k.stack c.go_on.new.machine.stack (takes vs) (λ i. i) c.args.next (runs_waiting k.stack kind c.requires.waits) c.go_on.ensures.gone
    (λ replies h. receives h kind vs c.requires.waits)
