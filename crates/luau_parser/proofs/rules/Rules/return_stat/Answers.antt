use Rattle.std.proofs.Common.{sym}
use Rattle.std.proofs.lemmas.Result.{err_from_is_err_and}
use Rattle.luau_parser.proofs.LastStatements.{bare_found, bare_return_fails, values_found, values_fail, values_go_on}
use Rattle.luau_parser.proofs.rules.Rules.return_stat.Goals as goal

pub returns-in_err-end : goal.returns-in_err-end
returns-in_err-end g c =
    let p = err_from_is_err_and c.from_residual.result c.from_residual.ensures.1 in
    rw (p.1, p.2) (bare_return_fails c.args.self.now.grammar.tokens.now c.args.self.now.grammar.room c.args.at c.in_err-end.field-0.0 c.requires.opens
    (sym c.if-may_end.ensures) c.in_err-end.ensures)

pub returns-then-may_end : goal.returns-then-may_end
returns-then-may_end g c =
    let made = rw c.new.ensures at c.in_ok-stat.ensures in
    bare_found c.args.self.now.grammar.tokens.now c.args.self.now.grammar.room c.args.at c.in_ok-end.end c.in_ok-stat.stat c.requires.opens made
    c.in_ok-end.ensures

pub returns-in_err-values : goal.returns-in_err-values
returns-in_err-values g c =
    let p = err_from_is_err_and c.from_residual-in_err-values.result c.from_residual-in_err-values.ensures.1 in
    rw (p.1, p.2) (values_fail c.args.self.now.grammar.tokens.now c.args.self.now.grammar.room c.args.at c.in_err-values.field-0.0 c.requires.opens
    (sym c.if-may_end.ensures) c.in_err-values.ensures)

pub returns-in_err-end-2 : goal.returns-in_err-end-2
returns-in_err-end-2 g c =
    let p = err_from_is_err_and c.from_residual-in_err-end-2.result c.from_residual-in_err-end-2.ensures.1 in
    rw (p.1, p.2) (values_go_on c.args.self.now.grammar.tokens.now c.args.self.now.grammar.room c.args.at c.in_ok-values.values c.in_err-end-2.field-0.0
    c.requires.opens (sym c.if-may_end.ensures) c.in_ok-values.ensures c.in_err-end-2.ensures)

pub returns : goal.returns
returns g c = values_found c.args.self.now.grammar.tokens.now c.args.self.now.grammar.room c.args.at c.in_ok-end-2.end c.in_ok-stat-2.stat
    c.in_ok-values.values c.requires.opens (sym c.if-may_end.ensures) c.in_ok-stat-2.ensures c.in_ok-values.ensures c.in_ok-end-2.ensures
