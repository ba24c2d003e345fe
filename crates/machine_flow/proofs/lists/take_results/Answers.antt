use Rattle.std.proofs.Common.{map}
use Rattle.value_model.specs.Parts.{meant}
use Rattle.call_frames.specs.declared.frame.ReturnKind.TheVariants.{Call}
use Rattle.machine_meaning.specs.Effects as row
use Rattle.machine_meaning.specs.States.{Run}
use Rattle.machine_world.specs.Rows.{takes}
use Rattle.machine_world.proofs.Here.{row_like, runs_waiting}
use Rattle.machine_world.proofs.Results.{on_ok}
use Rattle.machine_flow.proofs.Steps.{receives}
use Rattle.machine_flow.proofs.lists.take_results.Goals as goal

pub returns-clause-makes : goal.returns-clause-makes
returns-clause-makes c =
    let w = c.args.world.now in
    let k = c.args.machine.now in
    let vs = map (meant w.names) c.args.values.now.items in
    let kind = Call c.args.to c.args.count c.args.next in
    on_ok _ _ c.give_list.result (λ makes. row_like w w k.code k.stack c.give_list.new.machine.stack (takes vs) (row.results c.args.to c.args.count c.args.next vs) Run (runs_waiting k.stack kind c.requires.waits) makes (λ replies h. receives h kind vs c.requires.waits)) c.give_list.ensures.makes
