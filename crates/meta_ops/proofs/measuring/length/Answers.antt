use Rattle.meta_ops.proofs.OperatorsKept.{length_chosen}
use Rattle.meta_ops.proofs.measuring.length.Goals as goal

pub returns : goal.returns
returns c =
    λ w own may. length_chosen c.args.names.now c.args.globals.now c.args.arena.now w own c.args.a may c.length_of.result c.length_of.ensures
