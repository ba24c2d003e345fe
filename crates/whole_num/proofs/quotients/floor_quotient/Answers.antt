use Rattle.std.proofs.Common.{rules, ◌≡◌, pos, ◌-ℤ◌, w64, FitsSigned, ◌∙◌}
use Rattle.std.proofs.lemmas.Int.{to_z-of_z}
use Rattle.whole_num.specs.Quotients.{floor_quotient}
use Rattle.whole_num.proofs.Division.{divided_quotient, code_quotient, code_remainder, code_down, code_even, code_same}
use Rattle.whole_num.proofs.quotients.floor_quotient.Goals as goal
use Rattle.whole_num.proofs.quotients.floor_quotient.Goals.{else-remainder-ne0-via-then-remainder-ne0+else-remainder-b, else-remainder-ne0-via-else-remainder-ne0}

pub returns-then-remainder-b : goal.returns-then-remainder-b
returns-then-remainder-b c =
    let a = c.args.a in
    let b = c.args.b in
    let fits : FitsSigned w64 (code_quotient a b -ℤ pos 1) = search rules in
    to_z-of_z w64 (code_quotient a b -ℤ pos 1) fits ∙ divided_quotient a b (code_quotient a b -ℤ pos 1) _ c.requires.divisor (code_down a b c.requires.range c.ranges.a c.ranges.b c.requires.divisor c.if-remainder-ne0.true c.if-remainder-b.true)

pub returns-else-remainder-ne0 : goal.returns-else-remainder-ne0
returns-else-remainder-ne0 c =
    let a = c.args.a in
    let b = c.args.b in
    elim c.else-remainder-ne0.branch as (λ _. code_quotient a b ≡ floor_quotient a b) [
      | else-remainder-ne0-via-then-remainder-ne0+else-remainder-b w ↦
          divided_quotient a b (code_quotient a b) (code_remainder a b) c.requires.divisor (code_same a b c.requires.range c.ranges.a c.ranges.b c.requires.divisor w.if-remainder-b.false)
      | else-remainder-ne0-via-else-remainder-ne0 w ↦
          divided_quotient a b (code_quotient a b) (code_remainder a b) c.requires.divisor (code_even a b c.requires.range c.ranges.a c.ranges.b c.requires.divisor w.if-remainder-ne0.false)
    ]
