use Rattle.std.proofs.Common.{◌*◌, ◌^◌, ◌-◌, min, ap, ◌∙◌}
use Rattle.whole_num.proofs.Tens.{cut_shift}
use Rattle.whole_num.proofs.mantissa.shifted.Goals as goal

pub loop-preserved : goal.loop-preserved
loop-preserved c =
    c.saturating_mul-shifted.ensures ∙ ap (λ x. min (x * 10) (2 ^ 64 - 1)) c.loop.invariant ∙ cut_shift (2 ^ 64 - 1) c.args.n c.loop.counter
