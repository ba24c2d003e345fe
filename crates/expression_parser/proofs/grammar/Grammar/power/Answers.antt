use Rattle.std.proofs.Common.{◌∷◌, max, refl, arith}
use Rattle.std.proofs.lemmas.Result.{err_from_is_err_and}
use Rattle.syntax_tree.specs.Grammar.{no_pow, pow}
use Rattle.parse_steps.specs.Items as item
use Rattle.expression_parser.proofs.Leading.{then_leads, then_fails}
use Rattle.expression_parser.proofs.ExpressionTurns.{wrapped, to_exponent, deep_power, no_power_there}
use Rattle.expression_parser.proofs.grammar.Grammar.power.Goals as goal

pub returns-then-not-stands : goal.returns-then-not-stands
returns-then-not-stands g c =
    let base = c.args.base in
    let absent = c.if-not-stands.ensures.absent refl in (
      (no_pow c.args.begin base.end base.expr c.requires.part absent, c.requires.nest, omega arith),
      λ v k deep. no_power_there c.args.self.now.tokens.now base.end base.nest k absent,
    )

pub returns-in_err-within : goal.returns-in_err-within
returns-in_err-within g c =
    let base = c.args.base in
    let p = err_from_is_err_and c.from_residual.result c.from_residual.ensures.1 in
    let e = c.in_err-within.ensures in
    rw (p.1, p.2, e.1) (λ v k deep. deep_power c.args.self.now.tokens.now base.end base.nest c.args.self.now.room k (c.if-not-stands.ensures.there refl) e.0 deep)

pub returns-in_err-exponent : goal.returns-in_err-exponent
returns-in_err-exponent g c =
    let base = c.args.base in
    let less = c.in_ok-within.ensures.0 in
    let p = err_from_is_err_and c.from_residual-in_err-exponent.result c.from_residual-in_err-exponent.ensures.1 in
    rw (p.1, p.2) (λ v k deep. then_fails (to_exponent c.args.self.now.tokens.now base.end base.nest c.args.self.now.room k (c.if-not-stands.ensures.there refl) less deep) c.in_err-exponent.field-0.0 (c.in_err-exponent.ensures base.nest (item.wrap ∷ k) (omega (arith, deep, less))))

pub returns : goal.returns
returns g c =
    let ts = c.args.self.now.tokens.now in
    let base = c.args.base in
    let exponent = c.in_ok-exponent.exponent in
    let found = c.in_ok-exponent.ensures in
    let there = c.if-not-stands.ensures.there refl in
    let less = c.in_ok-within.ensures.0 in
    let made = c.in_ok-binary.ensures in
    let is_pow = pow c.args.begin base.end exponent.end base.expr exponent.expr c.requires.part there found.0.0 in (
      (rw (made.0, made.2) is_pow, omega (arith, made.1, less, found.0.1.0), omega (arith, made.2, found.0.1.1)),
      λ v k deep. rw (made.1, made.2) (then_leads (to_exponent ts base.end base.nest c.args.self.now.room k there less deep) (then_leads (found.1 base.nest (item.wrap ∷ k) (omega (arith, deep, less))) (wrapped ts exponent.end (max base.nest exponent.nest) k))),
    )
