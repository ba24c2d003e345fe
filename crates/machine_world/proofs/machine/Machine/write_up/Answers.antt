use Rattle.luau_tables.proofs.OwnKept.{usable_on}
use Rattle.machine_world.proofs.Upvalues.{up_frames}
use Rattle.machine_world.proofs.Upvalues.{part_write_up, keeps_write_up, is_there, runs_up}
use Rattle.machine_world.proofs.machine.Machine.write_up.Goals as goal

pub write_up-requires : goal.write_up-requires
write_up-requires c = is_there c.args.world.now.owner c.args.world.now.arena c.upvalue_cell-cell.result c.upvalue_cell-cell.ensures.cell

pub returns-clause-written : goal.returns-clause-written
returns-clause-written c = λ x replies.
    let w = c.args.world.now in
    let m = c.args.self.now in
    part_write_up w m.code m.stack c.args.upvalue c.upvalue_cell-cell.result c.args.v (c.write_up.new.self, c.write_up.new.arena) x replies c.write_up.ensures.written (runs_up w.arena m.stack c.args.upvalue c.requires.has) c.lies.ensures c.requires.sound c.upvalue_cell-cell.ensures c.requires.usable

pub returns-clause-sound : goal.returns-clause-sound
returns-clause-sound c =
    let w = c.args.world.now in
    keeps_write_up w c.args.self.now.stack c.upvalue_cell-cell.result c.args.v (c.write_up.new.self, c.write_up.new.arena) c.write_up.ensures.written c.requires.sound c.upvalue_cell-cell.ensures.cell c.requires.usable

pub returns-clause-frames : goal.returns-clause-frames
returns-clause-frames c = up_frames c.args.self.now.stack c.args.world.now.arena c.upvalue_cell-cell.result c.args.v (c.write_up.new.self, c.write_up.new.arena) c.write_up.ensures.written

pub returns-clause-uses : goal.returns-clause-uses
returns-clause-uses c = λ v h.
    let w = c.args.world.now in
    usable_on w.names w.arena c.write_up.new.arena w.owner v c.write_up.ensures.grows h
