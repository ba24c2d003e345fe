use Rattle.std.proofs.Common.{◌≡◌, ◌≤◌, length, map, sym, subst, arith}
use Rattle.value_model.specs.Parts.{meant}
use Rattle.call_frames.specs.Cells.{called, end_of}
use Rattle.machine_world.specs.Parts as parts
use Rattle.machine_world.specs.Sound.{GoesOn, IsMachine}
use Rattle.machine_world.proofs.Calling.{goes_called}
use Rattle.machine_world.proofs.Results.{on_ok, enters, keeps_enter}
use Rattle.machine_world.proofs.machine.Machine.enter.Goals as goal

pub returns-clause-entered : goal.returns-clause-entered
returns-clause-entered c =
    let w = c.args.world.now in
    let m = c.args.self.now in
    let k = c.args.closure in
    let n = c.args.registers in
    let given = c.args.given.now in
    let extra = c.args.extra.now in
    let high : end_of m.stack ≤ length m.stack.registers = omega (arith, c.end-end.ensures.value, c.end-end.ensures.within) in
    on_ok (c.call.new.self ≡ called k n given extra m.stack) (parts.Becomes (parts.entered k.place n (map (meant w.names) given) (map (meant w.names) extra)) w m.code m.stack w c.call.new.self) c.call.result
    (λ e. enters w m.code m.stack c.call.new.self k n given extra e c.requires.waits c.requires.room high c.lies.ensures c.requires.sound) c.call.ensures

pub returns-clause-sound : goal.returns-clause-sound
returns-clause-sound c =
    let w = c.args.world.now in
    let m = c.args.self.now in
    let k = c.args.closure in
    let n = c.args.registers in
    let given = c.args.given.now in
    let extra = c.args.extra.now in
    on_ok (c.call.new.self ≡ called k n given extra m.stack) (IsMachine w c.call.new.self) c.call.result
    (λ e. keeps_enter w m.stack c.call.new.self k n given extra e c.requires.closure c.requires.given c.requires.extra c.requires.sound) c.call.ensures

pub returns-clause-goes : goal.returns-clause-goes
returns-clause-goes c =
    let m = c.args.self.now in
    let k = c.args.closure in
    let n = c.args.registers in
    let given = c.args.given.now in
    let extra = c.args.extra.now in
    on_ok (c.call.new.self ≡ called k n given extra m.stack) (GoesOn c.call.new.self) c.call.result
    (λ e. subst GoesOn (sym e) (goes_called m.stack k n given extra)) c.call.ensures
