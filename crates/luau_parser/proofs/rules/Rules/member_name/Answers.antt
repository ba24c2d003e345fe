use Rattle.std.proofs.Common.{arith, inl, inr}
use Rattle.std.proofs.lemmas.Result.{err_from_is_err_and}
use Rattle.luau_parser.proofs.rules.Rules.member_name.Goals as goal

pub returns-in_err-within : goal.returns-in_err-within
returns-in_err-within g c =
    let p = err_from_is_err_and c.from_residual.result c.from_residual.ensures.1 in
    rw (p.1, p.2) (inl c.in_err-within.ensures)

pub returns-in_err-name : goal.returns-in_err-name
returns-in_err-name g c =
    let p = err_from_is_err_and c.from_residual-in_err-name.result c.from_residual-in_err-name.ensures.1 in
    rw (p.1, p.2) (inr (c.in_ok-within.ensures.0, c.in_err-name.ensures))

pub returns-in_err-expr : goal.returns-in_err-expr
returns-in_err-expr g c =
    let p = err_from_is_err_and c.from_residual-in_err-expr.result c.from_residual-in_err-expr.ensures.1 in
    rw (p.1, p.2) (inr (c.in_ok-within.ensures.0, λ v k. tt))

pub returns : goal.returns
returns g c = (
  c.in_ok-within.ensures.0,
  (c.in_ok-name.name, c.in_ok-name.ensures, c.in_ok-expr.ensures),
  omega arith,
  omega arith,
)
