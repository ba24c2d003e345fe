use Rattle.std.proofs.Common.{◌∙◌, sym, ap, subst}
use Rattle.call_frames.specs.Stacks.{StackView}
use Rattle.machine_world.specs.Parts.{part}
use Rattle.machine_world.specs.Sound.{IsMachine, GoesOn}
use Rattle.machine_world.proofs.Changing.{part_awake, keeps_awake, goes_awake, some_frame}
use Rattle.machine_world.proofs.machine.Machine.awake.Goals as goal

pub set_kind-requires : goal.set_kind-requires
set_kind-requires c = some_frame c.args.self.now.stack c.requires.runs

pub returns-clause-awake : goal.returns-clause-awake
returns-clause-awake c = λ x replies.
    let w = c.args.world.now in
    let m = c.args.self.now in
    ap (λ (t : StackView). part w m.code t x replies) c.set_kind.ensures ∙ part_awake w m.code m.stack x replies c.requires.runs

pub returns-clause-sound : goal.returns-clause-sound
returns-clause-sound c =
    let w = c.args.world.now in
    let m = c.args.self.now in
    subst (IsMachine w) (sym c.set_kind.ensures) (keeps_awake w m.stack c.requires.runs c.requires.sound)

pub returns-clause-goes : goal.returns-clause-goes
returns-clause-goes c = subst GoesOn (sym c.set_kind.ensures) (goes_awake c.args.self.now.stack c.requires.runs)
