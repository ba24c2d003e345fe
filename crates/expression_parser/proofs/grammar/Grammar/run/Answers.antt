use Rattle.std.proofs.Common.{refl, arith}
use Rattle.std.proofs.lemmas.Result.{err_from_is_err_and}
use Rattle.syntax_tree.specs.Grammar.{no_concat}
use Rattle.expression_parser.proofs.ExpressionTurns.{deep_run, no_run_there}
use Rattle.expression_parser.proofs.grammar.Grammar.run.Goals as goal

pub returns-then-not-stands : goal.returns-then-not-stands
returns-then-not-stands g c =
    let first = c.args.first in
    let absent = c.if-not-stands.ensures.absent refl in (
      (no_concat c.args.begin first.end first.expr c.requires.part absent, c.requires.nest, omega arith),
      λ v k deep. no_run_there c.args.self.now.tokens.now first.end first.nest k absent,
    )

pub returns-in_err-within : goal.returns-in_err-within
returns-in_err-within g c =
    let first = c.args.first in
    let p = err_from_is_err_and c.from_residual.result c.from_residual.ensures.1 in
    let e = c.in_err-within.ensures in
    rw (p.1, p.2, e.1) (λ v k deep. deep_run c.args.self.now.tokens.now first.end first.nest c.args.self.now.room k (c.if-not-stands.ensures.there refl) e.0 deep)
