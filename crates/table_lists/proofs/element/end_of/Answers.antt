use Rattle.std.proofs.Common.{arith}
use Rattle.value_arena.proofs.Borders.{as_many, border_found}
use Rattle.table_lists.proofs.element.end_of.Goals as goal

pub prove-unreachable-requires : goal.prove-unreachable-requires
prove-unreachable-requires c =
    let es = c.args.table.now.entries in
    omega (arith, as_many es _ (border_found es).0, c.border-border.ensures, c.len.ensures.len)
