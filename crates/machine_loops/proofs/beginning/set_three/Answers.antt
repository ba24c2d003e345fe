use Rattle.std.proofs.Common.{◌+◌, ◌∙◌, arith}
use Rattle.value_model.specs.Parts.{meant}
use Rattle.machine_meaning.specs.States.{set}
use Rattle.machine_flow.proofs.Steps.{then}
use Rattle.machine_flow.proofs.Rows.{lower, has_same, three_written}
use Rattle.machine_loops.proofs.beginning.set_three.Goals as goal

pub behind-state_at-requires : goal.behind-state_at-requires
behind-state_at-requires c = lower c.args.machine.now.stack (c.args.base + 2) c.args.base (omega arith) c.requires.has

pub behind-control_at-requires : goal.behind-control_at-requires
behind-control_at-requires c = lower c.args.machine.now.stack (c.args.base + 2) c.behind-state_at.result (omega (arith, c.behind-state_at.ensures)) c.requires.has

pub write-requires-clause-has : goal.write-requires-clause-has
write-requires-clause-has c = lower c.args.machine.now.stack (c.args.base + 2) c.args.base (omega arith) c.requires.has

pub write-requires-2-clause-has : goal.write-requires-2-clause-has
write-requires-2-clause-has c =
    has_same c.args.machine.now.stack c.write.new.self.stack c.behind-state_at.result c.write.ensures.frames
    (lower c.args.machine.now.stack (c.args.base + 2) c.behind-state_at.result (omega (arith, c.behind-state_at.ensures)) c.requires.has)

pub write-requires-3-clause-has : goal.write-requires-3-clause-has
write-requires-3-clause-has c =
    has_same c.args.machine.now.stack c.write-2.new.self.stack c.behind-control_at.result (c.write-2.ensures.frames ∙ c.write.ensures.frames)
    (lower c.args.machine.now.stack (c.args.base + 2) c.behind-control_at.result (omega (arith, c.behind-state_at.ensures, c.behind-control_at.ensures)) c.requires.has)

pub returns-clause-written : goal.returns-clause-written
returns-clause-written c =
    let w = c.args.world.now in
    let k = c.args.machine.now in
    let first = meant w.names c.args.generator in
    let second = meant w.names c.args.state in
    let third = meant w.names c.args.control in
    three_written w k.code k.stack c.write-3.new.self.stack c.args.base c.behind-state_at.result c.behind-control_at.result first second third c.behind-state_at.ensures c.behind-control_at.ensures
    (then w w w k.code c.write-2.new.self.code k.stack c.write-2.new.self.stack c.write-3.new.self.stack (λ x. set c.behind-state_at.result second (set c.args.base first x)) (set c.behind-control_at.result third) (c.write-2.ensures.code ∙ c.write.ensures.code)
    (then w w w k.code c.write.new.self.code k.stack c.write.new.self.stack c.write-2.new.self.stack (set c.args.base first) (set c.behind-state_at.result second) c.write.ensures.code c.write.ensures.written c.write-2.ensures.written)
    c.write-3.ensures.written)
