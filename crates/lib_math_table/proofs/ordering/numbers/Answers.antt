use Rattle.lib_math_table.proofs.Ordered.{number_fails}
use Rattle.lib_math_table.proofs.ordering.numbers.Goals as goal

pub returns-in_default : goal.returns-in_default
returns-in_default c = λ texts s t.
    number_fails texts c.args.values.now c.loop-v.numbers.items c.loop-v.v-index c.index-values-0.result c.v-item.result c.unlike.result c.requires c.loop-v.invariant c.loop-v-test.true c.index-values-0.is c.v-item.is c.in_default.not-Num
    (c.unlike.ensures texts) s t
