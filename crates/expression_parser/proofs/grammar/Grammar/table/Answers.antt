use Rattle.std.proofs.lemmas.Result.{err_from_is_err_and}
use Rattle.expression_parser.proofs.TableTurns.{no_room_for_table, fault_in_fields, table_found}
use Rattle.expression_parser.proofs.grammar.Grammar.table.Goals as goal

pub returns-in_err-within : goal.returns-in_err-within
returns-in_err-within g c =
    let p = err_from_is_err_and c.from_residual.result c.from_residual.ensures.1 in
    let e = c.in_err-within.ensures in
    rw (p.1, p.2, e.1) (no_room_for_table c.args.self.now.tokens.now c.args.self.now.room c.args.at e.0)

pub returns-in_err-fields : goal.returns-in_err-fields
returns-in_err-fields g c =
    let p = err_from_is_err_and c.from_residual-in_err-fields.result c.from_residual-in_err-fields.ensures.1 in
    rw (p.1, p.2) (fault_in_fields c.args.self.now.tokens.now c.args.self.now.room c.args.at c.in_err-fields.field-0.0 c.in_ok-within.ensures.0 c.in_err-fields.ensures)

pub returns : goal.returns
returns g c = table_found c.args.self.now.tokens.now c.args.self.now.room c.args.at c.in_ok-fields.fields c.in_ok-expr.expr c.requires.begins c.in_ok-within.ensures.0 c.in_ok-fields.ensures c.in_ok-expr.ensures
