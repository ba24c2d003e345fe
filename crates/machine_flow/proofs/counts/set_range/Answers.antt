use Rattle.machine_flow.proofs.Counting.{range_written}
use Rattle.machine_flow.proofs.counts.set_range.Goals as goal

pub returns-clause-written : goal.returns-clause-written
returns-clause-written c =
    let w = c.args.world.now in
    let k = c.args.machine.now in
    range_written w k.code k.stack c.set_three.new.machine.stack c.args.base c.args.index c.args.limit c.args.step c.set_three.ensures.written
