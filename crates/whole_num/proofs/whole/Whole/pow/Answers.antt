use Rattle.std.proofs.Common.{rules, ◌≡◌, sym, subst}
use Rattle.whole_num.specs.Quotients.{IsRaised, Gives, power}
use Rattle.whole_num.proofs.Raising.{gives_power}
use Rattle.whole_num.proofs.whole.Whole.pow.Goals as goal

pub returns-clause-exact : goal.returns-clause-exact
returns-clause-exact c =
    let value : c.power.result ≡ power c.args.self c.args.other = search rules in
    subst (Gives (IsRaised c.args.self c.args.other)) (sym value) (gives_power c.args.self c.args.other)
