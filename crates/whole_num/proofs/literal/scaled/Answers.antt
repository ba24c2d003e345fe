use Rattle.std.proofs.Common.{◌+◌, ◌-◌, ◌*◌, ◌^◌, min, refl, sym, ap, ◌∙◌}
use Rattle.std.specs.Str.Parse.{digits_value}
use Rattle.whole_num.specs.Digits.{cut}
use Rattle.whole_num.proofs.Kept.{scaled_zero, scaled_not_whole, scaled_whole}
use Rattle.whole_num.proofs.literal.scaled.Goals as goal

pub returns-then-kept-eq0 : goal.returns-then-kept-eq0
returns-then-kept-eq0 c =
    λ digits u d h up_is down_is small.
    c.in_range.ensures (record { mantissa = digits_value 10 digits; up = u; down = d }) 0 (scaled_zero c.args.mantissa digits u d h (sym c.kept.ensures ∙ c.if-kept-eq0.true)) refl

pub returns-then-up-down : goal.returns-then-up-down
returns-then-up-down c =
    λ digits u d h up_is down_is small.
    scaled_not_whole c.args.mantissa digits u d c.saturating_add-up.result c.args.down h (λ e. c.if-kept-eq0.false (c.kept.ensures ∙ e)) c.requires (c.saturating_add-up.ensures ∙ (λ i. min (up_is i + c.zeros.ensures i) (2 ^ 64 - 1))) down_is small c.if-up-down.true

pub returns-else-up-down : goal.returns-else-up-down
returns-else-up-down c =
    λ digits u d h up_is down_is small.
    let whole = scaled_whole c.args.mantissa digits u d c.saturating_add-up.result c.args.down c.min.result c.shifted.result h (λ e. c.if-kept-eq0.false (c.kept.ensures ∙ e)) c.requires (c.saturating_add-up.ensures ∙ (λ i. min (up_is i + c.zeros.ensures i) (2 ^ 64 - 1))) down_is small c.if-up-down.false c.min.ensures (c.shifted.ensures ∙ ap (λ k. cut (k * 10 ^ c.min.result)) c.kept-else-up-down.ensures) in
    c.in_range-else-up-down.ensures (record { mantissa = digits_value 10 digits; up = u; down = d }) whole.0 whole.1 whole.2
