use Rattle.std.proofs.Common.{◌∙◌, sym, ap, subst}
use Rattle.call_frames.specs.Stacks.{StackView}
use Rattle.machine_world.specs.Parts.{part}
use Rattle.machine_world.specs.Sound.{IsMachine, Runs}
use Rattle.machine_world.proofs.Changing.{some_frame}
use Rattle.machine_rows.proofs.Waiting.{part_expects, keeps_expects, runs_expects}
use Rattle.machine_rows.proofs.settling.expect.Goals as goal

pub set_kind-requires : goal.set_kind-requires
set_kind-requires c = some_frame c.args.machine.now.stack c.requires.runs

pub returns-clause-expects : goal.returns-clause-expects
returns-clause-expects c = λ x replies.
    let w = c.args.world.now in
    let k = c.args.machine.now in
    ap (λ (t : StackView). part w k.code t x replies) c.set_kind.ensures ∙ part_expects w k.code k.stack c.args.kind x replies c.requires.runs

pub returns-clause-sound : goal.returns-clause-sound
returns-clause-sound c =
    subst (IsMachine c.args.world.now) (sym c.set_kind.ensures) (keeps_expects c.args.world.now c.args.machine.now.stack c.args.kind c.requires.runs c.requires.kind c.requires.sound)

pub returns-clause-runs : goal.returns-clause-runs
returns-clause-runs c = subst Runs (sym c.set_kind.ensures) (runs_expects c.args.machine.now.stack c.args.kind c.requires.runs)
