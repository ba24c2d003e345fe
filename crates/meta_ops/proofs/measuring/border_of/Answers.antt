use Rattle.std.proofs.Common.{arith}
use Rattle.value_arena.specs.Arenas.{table_at}
use Rattle.meta_ops.proofs.Borders.{border_few}
use Rattle.meta_ops.proofs.measuring.border_of.Goals as goal

pub prove-unreachable-requires : goal.prove-unreachable-requires
prove-unreachable-requires c =
    let few = border_few (table_at c.args.arena.now c.args.t) c.table.result.now c.table.ensures c.len-entries.result c.border-end.result c.len-entries.ensures.len c.border-end.ensures in
    omega (arith, few, c.if-prove.true)
