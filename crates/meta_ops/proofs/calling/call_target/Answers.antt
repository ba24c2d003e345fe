use Rattle.meta_ops.proofs.OperatorsKept.{callee_chosen}
use Rattle.meta_ops.proofs.calling.call_target.Goals as goal

pub returns : goal.returns
returns c =
    λ texts w own may. callee_chosen texts c.args.globals.now c.args.arena.now w own c.args.f may c.target_of.result c.target_of.ensures
