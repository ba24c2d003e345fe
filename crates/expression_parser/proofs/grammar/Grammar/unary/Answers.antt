use Rattle.std.proofs.Common.{◌∷◌, sym, arith}
use Rattle.std.proofs.lemmas.Result.{err_from_is_err_and}
use Rattle.syntax_tree.specs.Grammar.{unary}
use Rattle.parse_steps.specs.Items as item
use Rattle.expression_parser.proofs.Leading.{then_leads, then_fails, nest_to}
use Rattle.expression_parser.proofs.ExpressionTurns.{wrapped, to_unary_operand, deep_unary}
use Rattle.expression_parser.proofs.ExpressionRuns.{plain_operand, simple_fails, cast_fails}
use Rattle.expression_parser.proofs.grammar.Grammar.unary.Goals as goal

pub returns-in_err-simple : goal.returns-in_err-simple
returns-in_err-simple g c =
    let p = err_from_is_err_and c.from_residual.result c.from_residual.ensures.1 in
    rw (p.1, p.2) (simple_fails c.args.self.now.tokens.now c.args.self.now.room c.args.at c.in_err-simple.field-0.0 (sym c.in_default.ensures.value) c.in_err-simple.ensures)

pub returns-in_err-base : goal.returns-in_err-base
returns-in_err-base g c =
    let p = err_from_is_err_and c.from_residual-in_err-base.result c.from_residual-in_err-base.ensures.1 in
    rw (p.1, p.2) (cast_fails c.args.self.now.tokens.now c.args.self.now.room c.args.at c.in_ok-simple.simple c.in_err-base.field-0.0 (sym c.in_default.ensures.value) c.in_ok-simple.ensures c.in_err-base.ensures)

pub returns-in_default : goal.returns-in_default
returns-in_default g c = plain_operand c.args.self.now.tokens.now c.args.self.now.room c.args.at c.in_ok-simple.simple c.in_ok-base.base (sym c.in_default.ensures.value) c.in_ok-simple.ensures c.in_ok-base.ensures c.power.result c.power.ensures

pub returns-in_err-within : goal.returns-in_err-within
returns-in_err-within g c =
    let p = err_from_is_err_and c.from_residual-in_err-within.result c.from_residual-in_err-within.ensures.1 in
    let e = c.in_err-within.ensures in
    rw (p.1, p.2, e.1) (λ v k deep. deep_unary c.args.self.now.tokens.now c.in-Some.op c.args.at 0 c.args.self.now.room k (sym c.in-Some.ensures.value) e.0 deep)

pub returns-in_err-part : goal.returns-in_err-part
returns-in_err-part g c =
    let less = c.in_ok-within.ensures.0 in
    let p = err_from_is_err_and c.from_residual-in_err-part.result c.from_residual-in_err-part.ensures.1 in
    rw (p.1, p.2) (λ v k deep. then_fails (to_unary_operand c.args.self.now.tokens.now c.in-Some.op c.args.at 0 c.args.self.now.room k (sym c.in-Some.ensures.value) less deep) c.in_err-part.field-0.0 (c.in_err-part.ensures v (item.wrap ∷ k) (omega (arith, deep, less))))

pub returns : goal.returns
returns g c =
    let ts = c.args.self.now.tokens.now in
    let op = c.in-Some.op in
    let part = c.in_ok-part.part in
    let found = c.in_ok-part.ensures in
    let less = c.in_ok-within.ensures.0 in
    let stands = sym c.in-Some.ensures.value in
    let node = unary c.args.at part.end op part.expr stands found.0.0 in (
      (rw (c.in_ok-expr.ensures) node, (omega (arith, less, found.0.1.0), omega (arith, found.0.1.1))),
      λ v k deep. nest_to (omega arith) (then_leads (to_unary_operand ts op c.args.at 0 c.args.self.now.room k stands less deep) (then_leads (found.1 v (item.wrap ∷ k) (omega (arith, deep, less))) (wrapped ts part.end part.nest k))),
    )
