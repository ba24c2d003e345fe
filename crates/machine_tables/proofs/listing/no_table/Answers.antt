use Rattle.machine_tables.proofs.Listed.{index_means}
use Rattle.machine_tables.proofs.listing.no_table.Goals as goal

pub returns-clause-means : goal.returns-clause-means
returns-clause-means c = λ texts. index_means texts c.args.v.now c.kind-base.result (c.kind-base.ensures texts)
