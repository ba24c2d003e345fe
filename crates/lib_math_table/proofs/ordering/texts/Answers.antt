use Rattle.lib_math_table.proofs.Ordered.{text_fails}
use Rattle.lib_math_table.proofs.ordering.texts.Goals as goal

pub returns-in_default : goal.returns-in_default
returns-in_default c =
    record {
      values = λ s t.
          text_fails c.args.names.now (λ text. text.1) c.args.values.now c.loop-v.texts.items c.loop-v.v-index c.index-values-0.result c.v-item.result c.unlike.result c.requires.first c.loop-v.invariant.values c.loop-v-test.true
          c.index-values-0.is c.v-item.is c.in_default.not-Str (c.unlike.ensures c.args.names.now) s t;
      bytes = tt;
    }
