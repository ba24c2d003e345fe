use Rattle.std.proofs.Common.{◌∙◌, sym, ap, subst}
use Rattle.call_frames.specs.Stacks.{StackView}
use Rattle.call_frames.specs.declared.frame.ReturnKind.TheVariants.{Idle}
use Rattle.machine_world.specs.Parts.{part}
use Rattle.machine_world.specs.Sound.{IsMachine, GoesOn}
use Rattle.machine_world.proofs.Changing.{some_frame}
use Rattle.machine_rows.proofs.Waiting.{part_expects, keeps_expects}
use Rattle.machine_rows.proofs.Waking.{goes_woken}
use Rattle.machine_rows.proofs.settling.wake.Goals as goal

pub set_kind-requires : goal.set_kind-requires
set_kind-requires c = some_frame c.args.machine.now.stack c.requires.runs

pub returns-clause-wakes : goal.returns-clause-wakes
returns-clause-wakes c = λ x replies.
    let w = c.args.world.now in
    let k = c.args.machine.now in
    ap (λ (t : StackView). part w k.code t x replies) c.set_kind.ensures ∙ part_expects w k.code k.stack Idle x replies c.requires.runs

pub returns-clause-sound : goal.returns-clause-sound
returns-clause-sound c =
    subst (IsMachine c.args.world.now) (sym c.set_kind.ensures) (keeps_expects c.args.world.now c.args.machine.now.stack Idle c.requires.runs tt c.requires.sound)

pub returns-clause-goes : goal.returns-clause-goes
returns-clause-goes c = subst GoesOn (sym c.set_kind.ensures) (goes_woken c.args.machine.now.stack c.requires.runs)
