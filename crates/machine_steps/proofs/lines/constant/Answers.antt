use Rattle.std.proofs.Common.{pos, Some, ◌∙◌, sym, ap}
use Rattle.machine_world.specs.Rows.{proto_here}
use Rattle.machine_steps.proofs.Constants.{constant_value}
use Rattle.machine_steps.proofs.lines.constant.Goals as goal

pub returns-clause-known : goal.returns-clause-known
returns-clause-known c = λ chunk p want of there is takes.
    let w = c.args.world.now in
    let n = proto_here w c.args.machine.now.code c.args.machine.now.stack in
    let v = constant_value chunk n (pos c.args.index) want takes is in
    let f = of.functions n p c.function.result.now there c.function.ensures in
    v.1 ∙ ap (λ u. Some u) (sym (c.constant.ensures.known chunk w.names p f n v.0 there v.1))
