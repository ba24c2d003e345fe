use Rattle.std.proofs.Common.{◌+◌, length, map, arith}
use Rattle.value_model.specs.Parts.{meant}
use Rattle.machine_meaning.specs.States.{set, set_all}
use Rattle.machine_flow.proofs.Steps.{then}
use Rattle.machine_flow.proofs.Writing.{in_range, range_behind, turn_written}
use Rattle.machine_flow.proofs.turns.set_turn.Goals as goal

pub behind-state_at-requires : goal.behind-state_at-requires
behind-state_at-requires c =
    let s = c.args.machine.now.stack in
    in_range s s c.args.base (3 + length c.args.values.now) 0 c.args.base (λ i. s.frames) (omega arith) (omega arith) c.requires.has

pub behind-control_at-requires : goal.behind-control_at-requires
behind-control_at-requires c =
    let s = c.args.machine.now.stack in
    in_range s s c.args.base (3 + length c.args.values.now) 1 c.behind-state_at.result (λ i. s.frames) (omega (arith, c.behind-state_at.ensures)) (omega arith) c.requires.has

pub behind-from-requires : goal.behind-from-requires
behind-from-requires c =
    let s = c.args.machine.now.stack in
    in_range s s c.args.base (3 + length c.args.values.now) 2 c.behind-control_at.result (λ i. s.frames) (omega (arith, c.behind-state_at.ensures, c.behind-control_at.ensures)) (omega arith) c.requires.has

pub write-requires-clause-has : goal.write-requires-clause-has
write-requires-clause-has c =
    let s = c.args.machine.now.stack in
    in_range s s c.args.base (3 + length c.args.values.now) 2 c.behind-control_at.result (λ i. s.frames) (omega (arith, c.behind-state_at.ensures, c.behind-control_at.ensures)) (omega arith) c.requires.has

pub set_all-requires-clause-has : goal.set_all-requires-clause-has
set_all-requires-clause-has c =
    range_behind c.args.machine.now.stack c.write.new.self.stack c.args.base (length c.args.values.now) c.behind-from.result c.write.ensures.frames (omega (arith, c.behind-state_at.ensures, c.behind-control_at.ensures, c.behind-from.ensures)) c.requires.has

pub returns-clause-written : goal.returns-clause-written
returns-clause-written c =
    let w = c.args.world.now in
    let k = c.args.machine.now in
    let v = meant w.names c.args.control in
    let vs = map (meant w.names) c.args.values.now in
    turn_written w k.code k.stack c.set_all.new.machine.stack c.args.base c.behind-control_at.result c.behind-from.result v vs (omega (arith, c.behind-state_at.ensures, c.behind-control_at.ensures)) (omega (arith, c.behind-state_at.ensures, c.behind-control_at.ensures, c.behind-from.ensures))
    (then w w w k.code c.write.new.self.code k.stack c.write.new.self.stack c.set_all.new.machine.stack (set c.behind-control_at.result v) (set_all c.behind-from.result vs) c.write.ensures.code c.write.ensures.written c.set_all.ensures.written)
