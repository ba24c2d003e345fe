use Rattle.std.proofs.Common.{◌∙◌}
use Rattle.value_model.specs.declared.value.Value.TheVariants.{Num}
use Rattle.lib_math_table.proofs.Ordered.{made_more}
use Rattle.lib_math_table.proofs.ordering.number_values.Goals as goal

pub loop-n-preserved : goal.loop-n-preserved
loop-n-preserved c = c.in_ok-push.ensures.items
    ∙ made_more (λ z. Num z) c.args.numbers.now c.loop-n.n-index _ c.loop-n.values.items c.loop-n-test.true c.n-item.is c.loop-n.invariant
