use Rattle.std.proofs.Common.{ℕ, ◌+◌, max, ◌∷◌, refl, subst, arith}
use Rattle.std.proofs.lemmas.Result.{err_from_is_err_and}
use Rattle.syntax_tree.specs.declared.token.TokenKind.TheVariants as token
use Rattle.syntax_tree.specs.declared.tree.Expr.{Expr}
use Rattle.syntax_tree.specs.Grammar.{IsSuffixes, IsExpr, expression, in_target, index}
use Rattle.type_skip.proofs.GoingOn.{has_within}
use Rattle.type_skip.specs.declared.words.Word.TheVariants as word
use Rattle.parse_steps.specs.Items as item
use Rattle.parse_steps.specs.Steps.{most}
use Rattle.expression_parser.specs.Reading.{ending_of}
use Rattle.expression_parser.proofs.Leading.{then_leads, then_fails, staying, nest_to}
use Rattle.expression_parser.proofs.SuffixTurns.{to_key, deep_index}
use Rattle.expression_parser.proofs.grammar.Grammar.index.Goals as goal

pub overflow_add-left : goal.overflow_add-left
overflow_add-left g c =
    let there = has_within c.args.self.now.tokens.now c.args.first.part.end token.OpenBracket c.requires.stands in
    omega (arith, there, c.requires.few)

pub returns-in_err-within : goal.returns-in_err-within
returns-in_err-within g c =
    let first = c.args.first in
    let p = err_from_is_err_and c.from_residual.result c.from_residual.ensures.1 in
    let e = c.in_err-within.ensures in
    rw (p.1, p.2, e.1) (λ u v k deep. deep_index c.args.self.now.tokens.now (ending_of first.ending) u first.part.end first.part.nest
    c.args.self.now.room k c.requires.stands e.0 deep)

pub returns-in_err-part : goal.returns-in_err-part
returns-in_err-part g c =
    let first = c.args.first in
    let p = err_from_is_err_and c.from_residual-in_err-part.result c.from_residual-in_err-part.ensures.1 in
    let less = c.in_ok-within.ensures.0 in
    let before = to_key c.args.self.now.tokens.now (ending_of first.ending) in
    rw (p.1, p.2) (λ u v k deep. then_fails (before u first.part.end first.part.nest c.args.self.now.room k c.requires.stands less deep)
    c.in_err-part.field-0.0 (c.in_err-part.ensures first.part.nest (item.expects word.CloseBracket ∷ item.wrap ∷ item.suffixes in_target
    u ∷ k) (omega (arith, deep, less))))

pub returns-in_err-end : goal.returns-in_err-end
returns-in_err-end g c =
    let first = c.args.first in
    let part = c.in_ok-part.part in
    let p = err_from_is_err_and c.from_residual-in_err-end.result c.from_residual-in_err-end.ensures.1 in
    let less = c.in_ok-within.ensures.0 in
    let before = to_key c.args.self.now.tokens.now (ending_of first.ending) in
    rw (p.1, p.2) (λ u v k deep.
    let key = then_leads (before u first.part.end first.part.nest c.args.self.now.room k c.requires.stands less deep)
    (c.in_ok-part.ensures.1 first.part.nest (item.expects word.CloseBracket ∷ item.wrap ∷ item.suffixes in_target u ∷ k)
    (omega (arith, deep, less))) in
    then_fails key c.in_err-end.field-0.0 (c.in_err-end.ensures (max first.part.nest part.nest)
    (item.wrap ∷ item.suffixes in_target u ∷ k)))

pub returns : goal.returns
returns g c =
    let ts = c.args.self.now.tokens.now in
    let first = c.args.first in
    let part = c.in_ok-part.part in
    let read = c.in_ok-part.ensures in
    let close = c.in_ok-end.ensures in
    let less = c.in_ok-within.ensures.0 in
    let before = to_key ts (ending_of first.ending) in
    let key : IsExpr ts most (first.part.end + 1) part.expr part.end = expression (first.part.end + 1) part.end part.expr read.0.0 in
    λ u. (
      (
        λ e d j rest. index c.args.begin first.part.end part.end j first.part.expr part.expr e (ending_of first.ending) d c.requires.stands
            key close.0.0 (subst (λ (x : Expr). IsSuffixes ts most c.args.begin (part.end + 1) x in_target e d j) c.in_ok-expr.ensures
            (subst (λ (m : ℕ). IsSuffixes ts most c.args.begin m c.in_ok-expr.expr in_target e d j) close.0.1 rest)),
        omega (arith, less, read.0.1.0),
        omega (arith, read.0.1.1, close.0.1),
      ),
      λ v k deep.
          let to_close = then_leads (before u first.part.end first.part.nest c.args.self.now.room k c.requires.stands less deep)
          (read.1 first.part.nest (item.expects word.CloseBracket ∷ item.wrap ∷ item.suffixes in_target u ∷ k)
          (omega (arith, deep, less))) in
          nest_to (omega arith) (then_leads to_close (then_leads (close.1 (max first.part.nest part.nest)
          (item.wrap ∷ item.suffixes in_target u ∷ k)) (staying refl))),
    )
