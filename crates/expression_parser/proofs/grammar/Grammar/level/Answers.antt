use Rattle.std.proofs.lemmas.Result.{err_from_is_err_and}
use Rattle.expression_parser.proofs.ExpressionRuns.{level_of, level_fails}
use Rattle.expression_parser.proofs.grammar.Grammar.level.Goals as goal

pub returns-in_err-first : goal.returns-in_err-first
returns-in_err-first g c =
    let p = err_from_is_err_and c.from_residual.result c.from_residual.ensures.1 in
    rw (p.1, p.2) (level_fails c.args.self.now.tokens.now c.args.self.now.room c.args.at c.args.level c.in_err-first.field-0.0 c.in_err-first.ensures)

pub returns : goal.returns
returns g c = level_of c.args.self.now.tokens.now c.args.self.now.room c.args.at c.args.level c.in_ok-first.first c.in_ok-first.ensures c.climb.result c.climb.ensures
