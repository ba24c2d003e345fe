use Rattle.std.proofs.lemmas.Result.{err_from_is_err_and}
use Rattle.luau_parser.proofs.LastStatements.{break_found, break_fails}
use Rattle.luau_parser.proofs.rules.Rules.break_stat.Goals as goal

pub returns-in_err-end : goal.returns-in_err-end
returns-in_err-end g c =
    let p = err_from_is_err_and c.from_residual.result c.from_residual.ensures.1 in
    rw (p.1, p.2) (break_fails c.args.self.now.grammar.tokens.now c.args.self.now.grammar.room c.args.at c.in_err-end.field-0.0 c.requires.opens
    c.in_err-end.ensures)

pub returns : goal.returns
returns g c = break_found c.args.self.now.grammar.tokens.now c.args.self.now.grammar.room c.args.at c.in_ok-end.end c.in_ok-stat.stat c.requires.opens
    c.in_ok-stat.ensures c.in_ok-end.ensures
