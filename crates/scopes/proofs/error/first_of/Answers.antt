use Rattle.scopes.proofs.Firsts.{first_turn, first_end}
use Rattle.scopes.proofs.error.first_of.Goals as goal

pub loop-fault-preserved : goal.loop-fault-preserved
loop-fault-preserved c = first_turn c.args.faults.now c.loop-fault.fault-index _ c.first_with.result c.loop-fault.first c.loop-fault-test.true c.first_with.ensures c.loop-fault.invariant

pub returns : goal.returns
returns c = first_end c.args.faults.now c.loop-fault.fault-index c.loop-fault.first c.loop-fault-test.false c.loop-fault.invariant
