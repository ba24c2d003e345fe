use Rattle.std.proofs.Common.{◌-◌}
use Rattle.std.proofs.lemmas.Result.{err_from_is_err_and}
use Rattle.expression_parser.proofs.FieldTurns.{key_fault, key_not_closed, key_without_equal, value_fault, keyed_found}
use Rattle.expression_parser.proofs.grammar.Grammar.keyed.Goals as goal

pub returns-in_err-key : goal.returns-in_err-key
returns-in_err-key g c =
    let p = err_from_is_err_and c.from_residual.result c.from_residual.ensures.1 in
    rw (p.1, p.2) (key_fault c.args.self.now.tokens.now (c.args.self.now.room - 1) c.args.at c.in_err-key.field-0.0 c.requires.opens
    c.in_err-key.ensures)

pub returns-in_err-close : goal.returns-in_err-close
returns-in_err-close g c =
    let p = err_from_is_err_and c.from_residual-in_err-close.result c.from_residual-in_err-close.ensures.1 in
    rw (p.1, p.2) (key_not_closed c.args.self.now.tokens.now (c.args.self.now.room - 1) c.args.at c.in_ok-key.key c.in_err-close.field-0.0
    c.requires.opens c.in_ok-key.ensures c.in_err-close.ensures)

pub returns-in_err-equal : goal.returns-in_err-equal
returns-in_err-equal g c =
    let p = err_from_is_err_and c.from_residual-in_err-equal.result c.from_residual-in_err-equal.ensures.1 in
    rw (p.1, p.2) (key_without_equal c.args.self.now.tokens.now (c.args.self.now.room - 1) c.args.at c.in_ok-key.key c.in_ok-close.close
    c.in_err-equal.field-0.0 c.requires.opens c.in_ok-key.ensures c.in_ok-close.ensures c.in_err-equal.ensures)

pub returns-in_err-value : goal.returns-in_err-value
returns-in_err-value g c =
    let p = err_from_is_err_and c.from_residual-in_err-value.result c.from_residual-in_err-value.ensures.1 in
    rw (p.1, p.2) (value_fault c.args.self.now.tokens.now (c.args.self.now.room - 1) c.args.at c.in_ok-key.key c.in_ok-close.close
    c.in_ok-equal.equal c.in_err-value.field-0.0 c.requires.opens c.in_ok-key.ensures c.in_ok-close.ensures c.in_ok-equal.ensures
    c.in_err-value.ensures)

pub returns : goal.returns
returns g c =
    keyed_found c.args.self.now.tokens.now (c.args.self.now.room - 1) c.args.at c.in_ok-key.key c.in_ok-close.close c.in_ok-equal.equal
    c.in_ok-value.value c.in_ok-field.field c.max-nest.result c.in_ok-field.ensures c.max-nest.ensures c.requires.opens c.in_ok-key.ensures
    c.in_ok-close.ensures c.in_ok-equal.ensures c.in_ok-value.ensures
