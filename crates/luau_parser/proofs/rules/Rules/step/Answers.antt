use Rattle.std.proofs.Common.{sym, ◌∙◌}
use Rattle.std.proofs.lemmas.Result.{err_from_is_err_and}
use Rattle.luau_parser.proofs.BlockSteps.{ends_found, stat_found}
use Rattle.luau_parser.proofs.rules.Rules.step.Goals as goal

pub returns-in_err-return_stat-in-Return : goal.returns-in_err-return_stat-in-Return
returns-in_err-return_stat-in-Return g c =
    let p = err_from_is_err_and c.from_residual.result c.from_residual.ensures.1 in
    rw (p.1, p.2) (λ v k deep. c.in_err-return_stat-in-Return.ensures v k deep)

pub returns-in_err-break_stat-in-Break : goal.returns-in_err-break_stat-in-Break
returns-in_err-break_stat-in-Break g c =
    let p = err_from_is_err_and c.from_residual-in_err-break_stat-in-Break.result c.from_residual-in_err-break_stat-in-Break.ensures.1 in
    rw (p.1, p.2) (λ v k deep. c.in_err-break_stat-in-Break.ensures v k deep)

pub returns-in_err-statement-in_default : goal.returns-in_err-statement-in_default
returns-in_err-statement-in_default g c =
    let p = err_from_is_err_and c.from_residual-in_err-statement-in_default.result c.from_residual-in_err-statement-in_default.ensures.1 in
    rw (p.1, p.2) (λ v k deep. c.in_err-statement-in_default.ensures v k deep)

pub returns-in-Ends : goal.returns-in-Ends
returns-in-Ends g c = ends_found c.args.self.now.grammar.tokens.now c.args.self.now.grammar.room c.args.at (sym c.in-Ends.ensures)

pub returns-in_ok-statement-in_default : goal.returns-in_ok-statement-in_default
returns-in_ok-statement-in_default g c =
    stat_found c.args.self.now.grammar.tokens.now c.args.self.now.grammar.room c.args.at c.behind_semicolon.result c.in_ok-statement-in_default.statement
    (λ x e. c.in_default.not-Name x (c.opening_at.ensures ∙ e)) c.in_ok-statement-in_default.ensures c.behind_semicolon.ensures
