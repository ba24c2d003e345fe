use Rattle.machine_world.specs.Sound.{GoesOn}
use Rattle.machine_world.proofs.Changing.{goes_placed}
use Rattle.std.proofs.Common.{◌∙◌, sym, ap, subst}
use Rattle.call_frames.specs.Stacks.{StackView}
use Rattle.machine_world.specs.Parts.{part}
use Rattle.machine_world.specs.Sound.{IsMachine}
use Rattle.machine_world.proofs.Changing.{part_placed, keeps_placed, some_frame}
use Rattle.machine_world.proofs.machine.Machine.go.Goals as goal

pub set_place-requires : goal.set_place-requires
set_place-requires c = some_frame c.args.self.now.stack c.requires.runs

pub returns-clause-placed : goal.returns-clause-placed
returns-clause-placed c = λ x replies.
    let w = c.args.world.now in
    let m = c.args.self.now in
    ap (λ (t : StackView). part w m.code t x replies) c.set_place.ensures
    ∙ part_placed w m.code m.stack c.args.place x replies c.requires.runs

pub returns-clause-sound : goal.returns-clause-sound
returns-clause-sound c =
    subst (IsMachine c.args.world.now) (sym c.set_place.ensures) (keeps_placed c.args.world.now c.args.self.now.stack c.args.place c.requires.runs c.requires.sound)

pub returns-clause-frames : goal.returns-clause-frames
returns-clause-frames c = λ h. subst GoesOn (sym c.set_place.ensures) (goes_placed c.args.self.now.stack c.args.place c.requires.runs h)
