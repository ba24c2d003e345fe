use Rattle.std.proofs.Common.{◌∙◌, sym, ap, subst}
use Rattle.value_arena.specs.Arenas.{ArenaView}
use Rattle.luau_tables.proofs.OwnKept.{usable_on}
use Rattle.call_frames.specs.Stacks.{StackView}
use Rattle.call_frames.specs.Cells.{kept, closed}
use Rattle.machine_world.specs.Parts.{part}
use Rattle.machine_world.specs.Sound.{IsMachine}
use Rattle.machine_world.proofs.Upvalues.{are_in}
use Rattle.machine_world.proofs.Captured.{part_close, keeps_close}
use Rattle.machine_world.proofs.machine.Machine.close.Goals as goal

pub close_from-requires : goal.close_from-requires
close_from-requires c = are_in c.args.world.now.owner c.args.world.now.arena c.args.self.now.stack.cells c.requires.sound.cells

pub returns-clause-closed : goal.returns-clause-closed
returns-clause-closed c = λ x replies.
    let w = c.args.world.now in
    let m = c.args.self.now in
    let s = m.stack in
    let p = c.place-place.result in
    ap (λ (t : StackView). part (record w { arena = c.close_from.new.arena }) m.code t x replies) c.close_from.ensures.stack
    ∙ ap (λ (a : ArenaView). part (record w { arena = a }) m.code (record s { cells = kept p s.cells }) x replies) c.close_from.ensures.arena
    ∙ ap (λ p. part (record w { arena = closed p s.registers s.cells w.arena }) m.code (record s { cells = kept p s.cells }) x replies) c.place-place.ensures.value
    ∙ part_close w m.code s c.args.register x replies c.requires.has c.place-place.ensures.layout c.requires.sound

pub returns-clause-sound : goal.returns-clause-sound
returns-clause-sound c =
    let w = c.args.world.now in
    let s = c.args.self.now.stack in
    let p = c.place-place.result in
    subst (λ (t : StackView). IsMachine (record w { arena = c.close_from.new.arena }) t) (sym c.close_from.ensures.stack)
    (subst (λ (a : ArenaView). IsMachine (record w { arena = a }) (record s { cells = kept p s.cells })) (sym c.close_from.ensures.arena)
    (keeps_close w s p c.requires.sound))

pub returns-clause-frames : goal.returns-clause-frames
returns-clause-frames c = ap (λ (s : StackView). s.frames) c.close_from.ensures.stack

pub returns-clause-uses : goal.returns-clause-uses
returns-clause-uses c = λ v h.
    let w = c.args.world.now in
    usable_on w.names w.arena c.close_from.new.arena w.owner v c.close_from.ensures.grows h
