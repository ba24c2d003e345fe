use Rattle.std.proofs.Common.{sym, ◌∙◌, ap, subst}
use Rattle.call_frames.specs.Stacks.{StackView}
use Rattle.call_frames.specs.Cells.{with_local}
use Rattle.machine_world.specs.Parts.{part}
use Rattle.machine_world.specs.Sound.{IsMachine}
use Rattle.machine_world.proofs.Written.{part_write, keeps_write}
use Rattle.machine_world.proofs.machine.Machine.write.Goals as goal

pub returns-clause-written : goal.returns-clause-written
returns-clause-written c = λ x replies.
    let w = c.args.world.now in
    let m = c.args.self.now in
    ap (λ (s : StackView). part w m.code s x replies) c.set_local.ensures.written
    ∙ part_write w m.code m.stack c.args.register c.args.v x replies c.requires.has c.set_local.ensures.layout c.requires.sound

pub returns-clause-sound : goal.returns-clause-sound
returns-clause-sound c =
    subst (IsMachine c.args.world.now) (sym c.set_local.ensures.written)
    (keeps_write c.args.world.now c.args.self.now.stack c.args.register c.args.v c.requires.usable c.requires.sound)

pub returns-clause-frames : goal.returns-clause-frames
unfolding with_local
returns-clause-frames c = ap (λ (s : StackView). s.frames) c.set_local.ensures.written
