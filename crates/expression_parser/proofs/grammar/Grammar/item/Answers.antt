use Rattle.std.proofs.Common.{◌-◌}
use Rattle.std.proofs.lemmas.Result.{err_from_is_err_and}
use Rattle.expression_parser.proofs.FieldTurns.{IsItem, item_fault, item_found}
use Rattle.expression_parser.proofs.grammar.Grammar.item.Goals as goal

pub returns-in_err-part : goal.returns-in_err-part
returns-in_err-part g c =
    let only : IsItem c.args.self.now.tokens.now c.args.at = record
    { more = c.requires.more; no_key = c.requires.no_key; no_name = c.requires.no_name } in
    let p = err_from_is_err_and c.from_residual.result c.from_residual.ensures.1 in
    rw (p.1, p.2) (item_fault c.args.self.now.tokens.now (c.args.self.now.room - 1) c.args.at c.in_err-part.field-0.0 only
    c.in_err-part.ensures)

pub returns : goal.returns
returns g c =
    let only : IsItem c.args.self.now.tokens.now c.args.at = record
    { more = c.requires.more; no_key = c.requires.no_key; no_name = c.requires.no_name } in
    item_found c.args.self.now.tokens.now (c.args.self.now.room - 1) c.args.at c.in_ok-part.part c.in_ok-field.field c.in_ok-field.ensures only
    c.in_ok-part.ensures
