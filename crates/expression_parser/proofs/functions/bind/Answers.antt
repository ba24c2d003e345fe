use Rattle.std.proofs.Common.{arith}
use Rattle.std.proofs.lemmas.Result.{err_from_is_err_and}
use Rattle.syntax_tree.specs.declared.token.TokenKind.TheVariants.{Name}
use Rattle.expression_parser.proofs.SameTurns.{has_within}
use Rattle.expression_parser.proofs.NameTurns.{bind_found, bind_without_name, bind_with_faulty_type}
use Rattle.expression_parser.proofs.functions.bind.Goals as goal

pub overflow_add-at : goal.overflow_add-at
overflow_add-at c = omega (arith, c.well_formed, has_within c.args.tokens.now c.args.at (Name c.in_ok-name.name) c.in_ok-name.ensures.0)

pub returns-in_err-name : goal.returns-in_err-name
returns-in_err-name c =
    let p = err_from_is_err_and c.from_residual.result c.from_residual.ensures.1 in
    rw (p.1, p.2) (bind_without_name c.args.tokens.now c.args.at c.in_err-name.field-0.0 c.in_err-name.ensures)

pub returns-in_err-end : goal.returns-in_err-end
returns-in_err-end c =
    let p = err_from_is_err_and c.from_residual-in_err-end.result c.from_residual-in_err-end.ensures.1 in
    rw (p.1, p.2) (bind_with_faulty_type c.args.tokens.now c.args.at c.in_ok-name.name c.in_err-end.field-0.0 c.in_ok-name.ensures.0
    c.in_err-end.ensures)

pub returns : goal.returns
returns c = bind_found c.args.tokens.now c.args.at c.in_ok-name.name c.in_ok-end.end c.in_ok-name.ensures.0 c.in_ok-end.ensures
