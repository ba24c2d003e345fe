use Rattle.std.proofs.lemmas.Result.{err_from_is_err_and}
use Rattle.luau_parser.proofs.NamedTurns.{generics_fail, equal_fails, type_rest_found}
use Rattle.luau_parser.proofs.blocks.type_rest.Goals as goal

pub returns-in_err-equal : goal.returns-in_err-equal
returns-in_err-equal c =
    let p = err_from_is_err_and c.from_residual.result c.from_residual.ensures.1 in
    rw (p.1, p.2) (generics_fail c.args.tokens.now c.args.at c.in_err-equal.field-0.0 c.in_err-equal.ensures)

pub returns-in_err-begin : goal.returns-in_err-begin
returns-in_err-begin c =
    let p = err_from_is_err_and c.from_residual-in_err-begin.result c.from_residual-in_err-begin.ensures.1 in
    rw (p.1, p.2) (equal_fails c.args.tokens.now c.args.at c.in_ok-equal.equal c.in_err-begin.field-0.0 c.in_ok-equal.ensures
    c.in_err-begin.ensures)

pub returns : goal.returns
returns c = type_rest_found c.args.tokens.now c.args.at c.in_ok-equal.equal c.in_ok-begin.begin c.type_at.result c.in_ok-equal.ensures
    c.in_ok-begin.ensures c.type_at.ensures
