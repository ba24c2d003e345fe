use Rattle.std.proofs.Common.{map, sym, ◌∙◌, ap, subst}
use Rattle.value_model.specs.Parts.{meant}
use Rattle.luau_tables.specs.Worlds.{MayUseIn}
use Rattle.call_frames.specs.declared.frame.ReturnKind.TheVariants.{Answer}
use Rattle.machine_meaning.specs.Moves.{give}
use Rattle.machine_meaning.specs.States.{set}
use Rattle.machine_world.specs.Rows.{takes}
use Rattle.machine_world.proofs.Here.{runs_waiting}
use Rattle.machine_flow.specs.Flow.{gone}
use Rattle.machine_flow.proofs.Steps.{runs_same, then, row_on, receives}
use Rattle.machine_flow.proofs.Gathered.{first_is, first_usable}
use Rattle.machine_flow.proofs.answers.take_answer.Goals as goal

pub write-requires-clause-usable : goal.write-requires-clause-usable
write-requires-clause-usable c =
    subst (MayUseIn c.args.world.now) (sym c.first-v.ensures) (first_usable (MayUseIn c.args.world.now) c.args.values.now (tt, tt) c.requires.usable)

pub go_on-requires-clause-runs : goal.go_on-requires-clause-runs
go_on-requires-clause-runs c =
    runs_same c.args.machine.now.stack c.write.new.self.stack c.write.ensures.frames (runs_waiting c.args.machine.now.stack (Answer c.args.to c.args.next) c.requires.waits)

pub returns-clause-makes : goal.returns-clause-makes
returns-clause-makes c =
    let w = c.args.world.now in
    let k = c.args.machine.now in
    let vs = map (meant w.names) c.args.values.now in
    let v = meant w.names c.first-v.result in
    let kind = Answer c.args.to c.args.next in
    row_on w w k.code k.stack c.go_on.new.machine.stack (takes vs) (set c.args.to v) c.args.next (runs_waiting k.stack kind c.requires.waits)
    (then w w w k.code c.write.new.self.code k.stack c.write.new.self.stack c.go_on.new.machine.stack (set c.args.to v) (gone c.args.next) c.write.ensures.code c.write.ensures.written c.go_on.ensures.gone)
    (λ replies h. receives h kind vs c.requires.waits
    ∙ ap (λ u. give c.args.to u c.args.next h.frame h.others h.world) (sym (ap (meant w.names) c.first-v.ensures ∙ first_is w.names c.args.values.now)))
