use Rattle.std.proofs.Common.{rules, sym, ◌∙◌}
use Rattle.whole_num.proofs.Raising.{next_within, next_stops}
use Rattle.whole_num.proofs.powers.raised.Goals as goal

pub loop-preserved : goal.loop-preserved
loop-preserved c =
    sym c.in_ok-power-2.was ∙ c.mul.ensures ∙ next_within c.args.base c.loop.power c.loop.counter c.loop.invariant

pub returns-in_err-power-2 : goal.returns-in_err-power-2
returns-in_err-power-2 c =
    let e = next_stops c.args.base c.loop.power c.loop.counter c.args.count c.in_err-power-2.field-0.0 c.requires c.loop-test.true c.loop.invariant (sym c.mul.ensures ∙ c.in_err-power-2.was) in
    search (rules, e)
