use Rattle.std.proofs.lemmas.Result.{err_from_is_err_and}
use Rattle.luau_parser.proofs.reading.+nested.Goals as goal

pub returns-in_err-level-in-Level : goal.returns-in_err-level-in-Level
returns-in_err-level-in-Level t c =
    let p = err_from_is_err_and c.from_residual.result c.from_residual.ensures.1 in
    rw (p.1, p.2, c.in-Level.is) c.in_err-level-in-Level.ensures

pub returns-in_err-unary-in-Unary : goal.returns-in_err-unary-in-Unary
returns-in_err-unary-in-Unary t c =
    let p = err_from_is_err_and c.from_residual-in_err-unary-in-Unary.result c.from_residual-in_err-unary-in-Unary.ensures.1 in
    rw (p.1, p.2, c.in-Unary.is) c.in_err-unary-in-Unary.ensures

pub returns-in_err-list-in-List : goal.returns-in_err-list-in-List
returns-in_err-list-in-List t c =
    let p = err_from_is_err_and c.from_residual-in_err-list-in-List.result c.from_residual-in_err-list-in-List.ensures.1 in
    rw (p.1, p.2, c.in-List.is) c.in_err-list-in-List.ensures

pub returns-in_err-block-in-Block : goal.returns-in_err-block-in-Block
returns-in_err-block-in-Block t c =
    let p = err_from_is_err_and c.from_residual-in_err-block-in-Block.result c.from_residual-in_err-block-in-Block.ensures.1 in
    rw (p.1, p.2, c.in-Block.is) c.in_err-block-in-Block.ensures
