use Rattle.std.proofs.Common.{sym, ◌∙◌, ap}
use Rattle.meta_ops.specs.OnIds as kept
use Rattle.meta_ops.proofs.Chains.{index_hit, index_miss}
use Rattle.meta_ops.proofs.indexing.found_or_beyond.Goals as goal

pub returns-then-is_nil-clause-value : goal.returns-then-is_nil-clause-value
returns-then-is_nil-clause-value g c =
    c.beyond.ensures.value
    ∙ index_miss c.args.arena.now c.args.globals.now c.args.key.now c.in-Table.t c.get-found.result c.get-found.ensures.value (sym c.is_nil.ensures ∙ c.if-is_nil.true)
    ∙ ap (λ base. kept.index_along 101 c.args.arena.now c.args.globals.now c.args.key.now 0 base) (sym c.in-Table.is)

pub returns-else-is_nil-clause-value : goal.returns-else-is_nil-clause-value
returns-else-is_nil-clause-value g c =
    index_hit c.args.arena.now c.args.globals.now c.args.key.now c.in-Table.t c.get-found.result c.get-found.ensures.value (sym c.is_nil.ensures ∙ c.if-is_nil.false)
    ∙ ap (λ base. kept.index_along 101 c.args.arena.now c.args.globals.now c.args.key.now 0 base) (sym c.in-Table.is)
