use Rattle.std.proofs.Common.{◌∷◌, refl, arith}
use Rattle.std.proofs.lemmas.Result.{err_from_is_err_and}
use Rattle.syntax_tree.specs.Grammar.{no_cast, cast}
use Rattle.parse_steps.specs.Items as item
use Rattle.expression_parser.proofs.Leading.{then_leads, then_fails, nest_to}
use Rattle.expression_parser.proofs.ExpressionTurns.{wrapped, to_cast_type, deep_cast, no_cast_there}
use Rattle.expression_parser.proofs.grammar.Grammar.cast.Goals as goal

pub returns-then-not-stands : goal.returns-then-not-stands
returns-then-not-stands g c =
    let simple = c.args.simple in
    let absent = c.if-not-stands.ensures.absent refl in (
      (no_cast c.args.begin simple.end simple.expr c.requires.part absent, c.requires.nest, omega arith),
      λ v k deep. no_cast_there c.args.self.now.tokens.now simple.end simple.nest k absent,
    )

pub returns-in_err-within : goal.returns-in_err-within
returns-in_err-within g c =
    let simple = c.args.simple in
    let p = err_from_is_err_and c.from_residual.result c.from_residual.ensures.1 in
    let e = c.in_err-within.ensures in
    rw (p.1, p.2, e.1) (λ v k deep. deep_cast c.args.self.now.tokens.now simple.end simple.nest c.args.self.now.room k (c.if-not-stands.ensures.there refl) e.0 deep)

pub returns-in_err-end : goal.returns-in_err-end
returns-in_err-end g c =
    let simple = c.args.simple in
    let p = err_from_is_err_and c.from_residual-in_err-end.result c.from_residual-in_err-end.ensures.1 in
    rw (p.1, p.2) (λ v k deep. then_fails (to_cast_type c.args.self.now.tokens.now simple.end simple.nest c.args.self.now.room k (c.if-not-stands.ensures.there refl) c.in_ok-within.ensures.0 deep) c.in_err-end.field-0.0 (c.in_err-end.ensures simple.nest (item.wrap ∷ k)))

pub returns : goal.returns
returns g c =
    let ts = c.args.self.now.tokens.now in
    let simple = c.args.simple in
    let there = c.if-not-stands.ensures.there refl in
    let type_read = c.in_ok-end.ensures in
    let less = c.in_ok-within.ensures.0 in
    let is_cast = cast c.args.begin simple.end c.in_ok-end.end simple.expr c.requires.part there type_read.0.0 in (
      (rw (c.in_ok-expr.ensures) is_cast, omega (arith, less), omega (arith, type_read.0.1)),
      λ v k deep. nest_to (omega arith) (then_leads (to_cast_type ts simple.end simple.nest c.args.self.now.room k there less deep) (then_leads (type_read.1 simple.nest (item.wrap ∷ k)) (wrapped ts c.in_ok-end.end simple.nest k))),
    )
