use Rattle.std.proofs.Common.{arith}
use Rattle.machine_closures.specs.Captures.{size_here, upvalues_here}
use Rattle.machine_closures.proofs.Copied.{has_here, up_here, low_register, low_upvalue}
use Rattle.machine_closures.proofs.capturing.capture.Goals as goal

pub copy-requires-clause-has : goal.copy-requires-clause-has
copy-requires-clause-has c =
    let w = c.args.world.now in
    let k = c.args.machine.now in
    has_here w k.code k.stack c.args.from c.requires.runs
    (low_register (size_here w k.code k.stack) (upvalues_here w k.code k.stack) c.args.kind c.args.from (omega (arith, c.if-kind-eq0.true)) c.requires.may)

pub capture-requires-clause-has : goal.capture-requires-clause-has
capture-requires-clause-has c =
    let w = c.args.world.now in
    let k = c.args.machine.now in
    has_here w k.code k.stack c.args.from c.requires.runs
    (low_register (size_here w k.code k.stack) (upvalues_here w k.code k.stack) c.args.kind c.args.from (omega (arith, c.if-kind-eq1.true)) c.requires.may)

pub upvalue_cell-requires-clause-has : goal.upvalue_cell-requires-clause-has
upvalue_cell-requires-clause-has c =
    let w = c.args.world.now in
    let k = c.args.machine.now in
    up_here w k.code k.stack c.args.from c.requires.runs c.requires.sound
    (low_upvalue (size_here w k.code k.stack) (upvalues_here w k.code k.stack) c.args.kind c.args.from (omega (arith, c.if-kind-eq0.false, c.if-kind-eq1.false)) c.requires.may)
