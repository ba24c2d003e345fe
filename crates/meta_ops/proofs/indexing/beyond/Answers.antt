use Rattle.meta_ops.proofs.There.{next_beyond}
use Rattle.meta_ops.proofs.indexing.beyond.Goals as goal

pub along-requires-clause-there : goal.along-requires-clause-there
along-requires-clause-there g c =
    next_beyond c.args.arena.now c.requires.owned c.args.globals.now c.args.t c.args.key.now c.by_index.result c.in-To.next c.by_index.ensures c.in-To.is
