use Rattle.std.proofs.Common.{◌∙◌, arith}
use Rattle.std.proofs.lemmas.Int.{ints}
use Rattle.table_lists.proofs.Rows.{items_step}
use Rattle.table_lists.proofs.range.items.Goals as goal

pub loop-step-preserved : goal.loop-step-preserved
loop-step-preserved c =
    c.in_ok-push.ensures.items
    ∙ items_step c.args.table.now _ _ c.loop-step.step c.loop-step.values.items c.item.result (omega (arith, ints)) c.loop-step.invariant c.item.ensures
