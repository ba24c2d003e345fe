use Rattle.std.proofs.Common.{rules, ◌≡◌, ℤ, sym, subst}
use Rattle.whole_num.specs.Quotients.{IsDivided, Gives, whole_quotient}
use Rattle.whole_num.proofs.Division.{gives_whole_quotient}
use Rattle.whole_num.proofs.whole.Whole.idiv.Goals as goal

pub returns-clause-exact : goal.returns-clause-exact
returns-clause-exact c =
    let value : c.in_range.result ≡ whole_quotient c.args.self c.args.other = search rules in
    subst (Gives (λ x. (d : ℤ) × IsDivided c.args.self c.args.other x d)) (sym value) (gives_whole_quotient c.args.self c.args.other)
