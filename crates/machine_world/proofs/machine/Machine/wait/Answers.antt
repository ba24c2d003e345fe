use Rattle.std.proofs.Common.{◌∙◌, sym, ap, subst}
use Rattle.call_frames.specs.Stacks.{StackView}
use Rattle.machine_world.specs.Parts.{part}
use Rattle.machine_world.specs.Sound.{IsMachine}
use Rattle.machine_world.proofs.Changing.{part_waits, keeps_waits, some_frame}
use Rattle.machine_world.proofs.machine.Machine.wait.Goals as goal

pub set_kind-requires : goal.set_kind-requires
set_kind-requires c = some_frame c.args.self.now.stack c.requires.runs

pub returns-clause-waits : goal.returns-clause-waits
returns-clause-waits c = λ x replies.
    let w = c.args.world.now in
    let m = c.args.self.now in
    ap (λ (t : StackView). part w m.code t x replies) (c.set_top.ensures ∙ ap (λ (t : StackView). record t { top = 0 }) c.set_kind.ensures)
    ∙ part_waits w m.code m.stack c.args.kind x replies c.requires.runs

pub returns-clause-sound : goal.returns-clause-sound
returns-clause-sound c =
    let w = c.args.world.now in
    let m = c.args.self.now in
    subst (IsMachine w) (sym (c.set_top.ensures ∙ ap (λ (t : StackView). record t { top = 0 }) c.set_kind.ensures)) (keeps_waits w m.stack c.args.kind c.requires.runs c.requires.kind c.requires.sound)
