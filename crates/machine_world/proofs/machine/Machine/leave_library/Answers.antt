use Rattle.std.proofs.Common.{◌∙◌, sym, ap, subst, arith}
use Rattle.luau_tables.proofs.OwnKept.{usable_on}
use Rattle.call_frames.specs.Stacks.{StackView}
use Rattle.call_frames.specs.Cells.{Both}
use Rattle.machine_world.specs.Parts.{part}
use Rattle.machine_world.specs.Sound.{IsMachine}
use Rattle.machine_world.proofs.Upvalues.{are_in}
use Rattle.machine_world.proofs.FrameKinds.{library_on}
use Rattle.machine_world.proofs.Calling.{lowered, of_both, BothSound, keeps_left, left_frames}
use Rattle.machine_world.proofs.Awaiting.{part_over, library_of, library_kind, library_may, some_library}
use Rattle.machine_world.proofs.machine.Machine.leave_library.Goals as goal

pub pop-frame-requires-clause-some : goal.pop-frame-requires-clause-some
pop-frame-requires-clause-some c = some_library c.args.self.now.stack c.requires.waits

pub pop-frame-requires-clause-there : goal.pop-frame-requires-clause-there
pop-frame-requires-clause-there c = are_in c.args.world.now.owner c.args.world.now.arena c.args.self.now.stack.cells c.requires.sound.cells

pub returns-clause-over : goal.returns-clause-over
returns-clause-over c = λ x replies.
    let w = c.args.world.now in
    let m = c.args.self.now in
    let f = c.pop-frame.result in
    ap (λ (t : StackView). part (record w { arena = c.pop-frame.new.arena }) m.code t x replies) c.set_top.ensures
    ∙ ap (λ (b : Both). of_both w m.code x replies (lowered b)) c.pop-frame.ensures.popped
    ∙ part_over w m.code m.stack f x replies c.pop-frame.ensures.frame (library_of m.stack f c.pop-frame.ensures.frame c.requires.waits) c.lies.ensures c.requires.sound

pub returns-clause-kind : goal.returns-clause-kind
returns-clause-kind c =
    let m = c.args.self.now in library_kind m.stack c.pop-frame.result c.pop-frame.ensures.frame c.requires.waits

pub returns-clause-may : goal.returns-clause-may
returns-clause-may c =
    let w = c.args.world.now in
    let m = c.args.self.now in
    let b = c.pop-frame.new.arena in
    library_on w (record w { arena = b }) (λ v. usable_on w.names w.arena b w.owner v c.pop-frame.ensures.grows) (omega arith) c.pop-frame.result.kind (library_may w m.stack c.pop-frame.result c.pop-frame.ensures.frame c.requires.waits c.requires.sound)

pub returns-clause-sound : goal.returns-clause-sound
returns-clause-sound c =
    let w = c.args.world.now in
    let m = c.args.self.now in
    subst (λ (t : StackView). IsMachine (record w { arena = c.pop-frame.new.arena }) t) (sym c.set_top.ensures)
    (subst (λ (b : Both). BothSound w (lowered b)) (sym c.pop-frame.ensures.popped) (keeps_left w m.stack c.pop-frame.result c.pop-frame.ensures.frame c.requires.sound))

pub returns-clause-frames : goal.returns-clause-frames
returns-clause-frames c =
    let w = c.args.world.now in
    let m = c.args.self.now in
    ap (λ (t : StackView). t.frames) c.set_top.ensures ∙ left_frames m.stack c.pop-frame.new.self w.arena c.pop-frame.new.arena c.pop-frame.result c.pop-frame.ensures.frame c.pop-frame.ensures.popped

pub returns-clause-uses : goal.returns-clause-uses
returns-clause-uses c = λ v h.
    let w = c.args.world.now in
    usable_on w.names w.arena c.pop-frame.new.arena w.owner v c.pop-frame.ensures.grows h
