use Rattle.std.proofs.Common.{rules, ◌≡◌, ◌≢◌, pos, sym, subst, ◌∙◌}
use Rattle.whole_num.specs.Quotients.{IsQuotient, Gives, floor_remainder, floor_quotient}
use Rattle.whole_num.specs.Whole.{within}
use Rattle.whole_num.proofs.Division.{is_exact, is_not_exact, gives_quotient}
use Rattle.whole_num.proofs.whole.Whole.div.Goals as goal

pub returns-then-floor_remainder-eq0-clause-value : goal.returns-then-floor_remainder-eq0-clause-value
returns-then-floor_remainder-eq0-clause-value c =
    let n : c.args.other ≢ pos 0 = search rules in
    let z : floor_remainder c.args.self c.args.other ≡ pos 0 = search rules in
    let is : c.in_range.result ≡ within (floor_quotient c.args.self c.args.other) = search rules in
    is ∙ sym (is_exact c.args.self c.args.other n z)

pub returns-then-floor_remainder-eq0-clause-exact : goal.returns-then-floor_remainder-eq0-clause-exact
returns-then-floor_remainder-eq0-clause-exact c =
    subst (Gives (IsQuotient c.args.self c.args.other)) (sym (returns-then-floor_remainder-eq0-clause-value c)) (gives_quotient c.args.self c.args.other)

pub returns-else-floor_remainder-eq0-clause-value : goal.returns-else-floor_remainder-eq0-clause-value
returns-else-floor_remainder-eq0-clause-value c =
    let n : c.args.other ≢ pos 0 = search rules in
    let z : floor_remainder c.args.self c.args.other ≢ pos 0 = search rules in
    sym (is_not_exact c.args.self c.args.other n z)

pub returns-else-floor_remainder-eq0-clause-exact : goal.returns-else-floor_remainder-eq0-clause-exact
returns-else-floor_remainder-eq0-clause-exact c =
    subst (Gives (IsQuotient c.args.self c.args.other)) (sym (returns-else-floor_remainder-eq0-clause-value c)) (gives_quotient c.args.self c.args.other)
