use Rattle.std.proofs.Common.{◌-◌}
use Rattle.std.proofs.lemmas.Result.{err_from_is_err_and}
use Rattle.expression_parser.proofs.FieldTurns.{named_fault, named_found}
use Rattle.expression_parser.proofs.grammar.Grammar.named_field.Goals as goal

pub returns-in_err-part : goal.returns-in_err-part
returns-in_err-part g c =
    let p = err_from_is_err_and c.from_residual.result c.from_residual.ensures.1 in
    rw (p.1, p.2) (named_fault c.args.self.now.tokens.now (c.args.self.now.room - 1) c.args.at c.args.name c.in_err-part.field-0.0
    c.requires.stands c.requires.equal c.in_err-part.ensures)

pub returns : goal.returns
returns g c =
    named_found c.args.self.now.tokens.now (c.args.self.now.room - 1) c.args.at c.args.name c.in_ok-part.part c.in_ok-field.field
    c.in_ok-field.ensures c.requires.stands c.requires.equal c.in_ok-part.ensures
