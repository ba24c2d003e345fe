use Rattle.meta_ops.proofs.IndexKept.{index_chosen}
use Rattle.meta_ops.proofs.indexing.index.Goals as goal

pub returns-clause-chooses : goal.returns-clause-chooses
returns-clause-chooses g c =
    λ texts w own may.
    index_chosen texts c.args.globals.now c.args.arena.now w own c.args.base c.args.key may.0 may.1 c.found_or_beyond.result c.found_or_beyond.ensures.value
