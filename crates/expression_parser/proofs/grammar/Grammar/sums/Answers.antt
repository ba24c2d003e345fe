use Rattle.std.proofs.lemmas.Result.{err_from_is_err_and}
use Rattle.parse_steps.specs.declared.levels.Rank.TheVariants as rank
use Rattle.expression_parser.proofs.ExpressionRuns.{rank_behind, rank_fails}
use Rattle.expression_parser.proofs.grammar.Grammar.sums.Goals as goal

pub returns-in_err-part : goal.returns-in_err-part
returns-in_err-part g c =
    let p = err_from_is_err_and c.from_residual.result c.from_residual.ensures.1 in
    rw (p.1, p.2) (rank_fails c.args.self.now.tokens.now c.args.self.now.room c.args.begin rank.Sums c.args.first c.in_err-part.field-0.0 c.in_err-part.ensures)

pub returns : goal.returns
returns g c = rank_behind c.args.self.now.tokens.now c.args.self.now.room c.args.begin rank.Sums c.args.first c.in_ok-part.part c.in_ok-part.ensures c.operations.result c.operations.ensures
