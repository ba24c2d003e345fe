use Rattle.std.proofs.Common.{max, ◌+◌, ◌∷◌, arith}
use Rattle.std.proofs.lemmas.Result.{err_from_is_err_and}
use Rattle.syntax_tree.specs.Grammar.{expression}
use Rattle.type_skip.specs.declared.words.Word.TheVariants as word
use Rattle.parse_steps.specs.Items as item
use Rattle.expression_parser.proofs.Leading.{then_fails}
use Rattle.expression_parser.proofs.SimpleTurns.{wrapped_run}
use Rattle.expression_parser.proofs.grammar.Grammar.parenthesis.Goals as goal

pub returns-in_err-part : goal.returns-in_err-part
returns-in_err-part g c =
    let p = err_from_is_err_and c.from_residual.result c.from_residual.ensures.1 in
    rw (p.1, p.2) (λ v k deep. c.in_err-part.ensures 0 (item.expects word.CloseParen ∷ item.wrap ∷ k) (omega (arith, deep, c.requires.room)))

pub returns-in_err-end : goal.returns-in_err-end
returns-in_err-end g c =
    let part = c.in_ok-part.part in
    let p = err_from_is_err_and c.from_residual-in_err-end.result c.from_residual-in_err-end.ensures.1 in
    rw (p.1, p.2) (λ v k deep. then_fails (c.in_ok-part.ensures.1 0 (item.expects word.CloseParen ∷ item.wrap ∷ k) (omega (arith, deep, c.requires.room))) c.in_err-end.field-0.0 (c.in_err-end.ensures (max 0 part.nest) (item.wrap ∷ k)))

pub returns : goal.returns
returns g c =
    let ts = c.args.self.now.tokens.now in
    let part = c.in_ok-part.part in
    let behind = c.in_ok-end.ensures in
    let node = c.in_ok-expr.ensures in (
      ((part.expr, part.end, expression (c.args.at + 1) part.end part.expr c.in_ok-part.ensures.0.0, behind.0.0, node, behind.0.1), (omega (arith, c.in_ok-part.ensures.0.1.0, c.requires.room), omega (arith, c.in_ok-part.ensures.0.1.1, behind.0.1))),
      λ v k deep. wrapped_run ts word.CloseParen c.args.self.now.room (c.args.at + 1) part.nest part.end c.in_ok-end.end k c.requires.room deep c.in_ok-part.ensures.1 behind.1,
    )
