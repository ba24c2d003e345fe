use Rattle.std.proofs.Common.{rules, ◌≡◌, ◌≢◌, pos, negsuc, ◌<ℤ◌, sym, ap, ◌∙◌}
use Rattle.std.specs.Int.RustNames.{int_rem}
use Rattle.whole_num.specs.Quotients.{power}
use Rattle.whole_num.proofs.Raising.{raised_one, raised_even, raised_odd, raised_zero}
use Rattle.whole_num.proofs.powers.power.Goals as goal

pub returns-then-a-eq1 : goal.returns-then-a-eq1
returns-then-a-eq1 c =
    let is : c.args.base ≡ pos 1 = search rules in
    c.in_range.ensures ∙ sym (ap (λ a. power a c.args.exponent) is ∙ raised_one c.args.exponent)

pub returns-then-exponent-eq0 : goal.returns-then-exponent-eq0
returns-then-exponent-eq0 c =
    let is : c.args.base ≡ negsuc 0 = search rules in
    let even : int_rem c.args.exponent (pos 2) ≡ pos 0 = search rules in
    c.in_range-then-exponent-eq0.ensures ∙ sym (ap (λ a. power a c.args.exponent) is ∙ raised_even c.args.exponent even)

pub returns-else-exponent-eq0 : goal.returns-else-exponent-eq0
returns-else-exponent-eq0 c =
    let is : c.args.base ≡ negsuc 0 = search rules in
    let odd : int_rem c.args.exponent (pos 2) ≢ pos 0 = search rules in
    c.in_range-else-exponent-eq0.ensures ∙ sym (ap (λ a. power a c.args.exponent) is ∙ raised_odd c.args.exponent odd)

pub returns-else-exponent-eq0-2 : goal.returns-else-exponent-eq0-2
returns-else-exponent-eq0-2 c =
    let is : c.args.base ≡ pos 0 = search rules in
    let more : pos 0 <ℤ c.args.exponent = search rules in
    c.in_range-else-exponent-eq0-2.ensures ∙ sym (ap (λ a. power a c.args.exponent) is ∙ raised_zero c.args.exponent more)
