use Rattle.std.proofs.Common.{◌∙◌, sym, ap, subst}
use Rattle.luau_tables.proofs.OwnKept.{usable_on}
use Rattle.call_frames.specs.Stacks.{StackView}
use Rattle.call_frames.specs.Cells.{Both}
use Rattle.machine_world.specs.Parts.{part}
use Rattle.machine_world.specs.Sound.{IsMachine}
use Rattle.machine_world.proofs.Frames.{Inner, inner}
use Rattle.machine_world.proofs.Upvalues.{are_in}
use Rattle.machine_world.proofs.Calling.{lowered, of_both, BothSound, part_left, keeps_left, left_frames}
use Rattle.machine_world.proofs.machine.Machine.leave.Goals as goal

pub pop-requires-clause-there : goal.pop-requires-clause-there
pop-requires-clause-there c = are_in c.args.world.now.owner c.args.world.now.arena c.args.self.now.stack.cells c.requires.sound.cells

pub returns-clause-left : goal.returns-clause-left
returns-clause-left c = λ x replies.
    let w = c.args.world.now in
    let m = c.args.self.now in
    let i : Inner m.stack = inner m.stack c.requires.runs in
    ap (λ (t : StackView). part (record w { arena = c.pop.new.arena }) m.code t x replies) c.set_top.ensures
    ∙ ap (λ (b : Both). of_both w m.code x replies (lowered b)) c.pop.ensures.popped
    ∙ part_left w m.code m.stack i.frame i.closure x replies i.is i.of c.lies.ensures c.requires.sound

pub returns-clause-sound : goal.returns-clause-sound
returns-clause-sound c =
    let w = c.args.world.now in
    let m = c.args.self.now in
    subst (λ (t : StackView). IsMachine (record w { arena = c.pop.new.arena }) t) (sym c.set_top.ensures)
    (subst (λ (b : Both). BothSound w (lowered b)) (sym c.pop.ensures.popped) (keeps_left w m.stack c.pop.result c.pop.ensures.frame c.requires.sound))

pub returns-clause-frames : goal.returns-clause-frames
returns-clause-frames c =
    let w = c.args.world.now in
    let m = c.args.self.now in
    ap (λ (t : StackView). t.frames) c.set_top.ensures ∙ left_frames m.stack c.pop.new.self w.arena c.pop.new.arena c.pop.result c.pop.ensures.frame c.pop.ensures.popped

pub returns-clause-uses : goal.returns-clause-uses
returns-clause-uses c = λ v h.
    let w = c.args.world.now in
    usable_on w.names w.arena c.pop.new.arena w.owner v c.pop.ensures.grows h
