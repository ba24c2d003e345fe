use Rattle.std.proofs.Common.{◌+◌, ◌-◌, ◌^◌, min, sym, ap, ◌∙◌, arith}
use Rattle.whole_num.proofs.Kept.{keeps_zero, keeps_digit}
use Rattle.whole_num.proofs.mantissa.Mantissa.push.Goals as goal

pub returns-then-digit-eq0-clause-keeps : goal.returns-then-digit-eq0-clause-keeps
returns-then-digit-eq0-clause-keeps c =
    λ digits b is h. keeps_zero c.args.self.now digits b (sym is ∙ c.if-digit-eq0.true) h

pub returns-else-digit-eq0-clause-keeps : goal.returns-else-digit-eq0-clause-keeps
returns-else-digit-eq0-clause-keeps c =
    λ digits b is h.
    keeps_digit c.args.self.now digits b c.shifted.result c.saturating_add-self.result (omega arith) (omega arith) c.shifted.ensures
    (c.saturating_add-self.ensures ∙ ap (λ d. min (c.shifted.result + d) (2 ^ 64 - 1)) (c.from.ensures ∙ is)) h
