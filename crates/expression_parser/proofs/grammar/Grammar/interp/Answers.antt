use Rattle.std.proofs.lemmas.Result.{err_from_is_err_and}
use Rattle.parse_steps.specs.declared.classes.Beginning.TheVariants as begins
use Rattle.expression_parser.proofs.SimpleTurns.{begins_so, interp_items, too_deep, fault_within, interp_found}
use Rattle.expression_parser.proofs.grammar.Grammar.interp.Goals as goal

pub returns-in_err-within : goal.returns-in_err-within
returns-in_err-within g c =
    let ts = c.args.self.now.tokens.now in
    let p = err_from_is_err_and c.from_residual.result c.from_residual.ensures.1 in
    let e = c.in_err-within.ensures in
    rw (p.1, p.2, e.1) (too_deep ts c.args.at c.args.self.now.room interp_items (λ k. begins_so ts c.args.at (begins.Pieces c.args.text) k c.requires.begins) e.0)

pub returns-in_err-pieces : goal.returns-in_err-pieces
returns-in_err-pieces g c =
    let ts = c.args.self.now.tokens.now in
    let p = err_from_is_err_and c.from_residual-in_err-pieces.result c.from_residual-in_err-pieces.ensures.1 in
    rw (p.1, p.2) (fault_within ts c.args.at c.args.self.now.room c.in_err-pieces.field-0.0 interp_items (λ k. begins_so ts c.args.at (begins.Pieces c.args.text) k c.requires.begins) c.in_ok-within.ensures.0 c.in_err-pieces.ensures)

pub returns : goal.returns
returns g c = interp_found c.args.self.now.tokens.now c.args.self.now.room c.args.at c.args.text c.in_ok-pieces.pieces c.in_ok-expr.expr c.requires.begins c.in_ok-within.ensures.0 c.in_ok-pieces.ensures c.in_ok-expr.ensures
