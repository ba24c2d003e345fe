use Rattle.std.proofs.Common.{◌+◌, ◌∷◌, refl, subst, arith}
use Rattle.std.proofs.lemmas.Result.{err_from_is_err_and}
use Rattle.syntax_tree.specs.declared.token.TokenKind.TheVariants as token
use Rattle.syntax_tree.specs.declared.tree.Expr.{Expr}
use Rattle.syntax_tree.specs.Grammar.{IsSuffixes, in_call, method}
use Rattle.type_skip.proofs.GoingOn.{has_within}
use Rattle.parse_steps.specs.Items as item
use Rattle.parse_steps.specs.Steps.{most}
use Rattle.expression_parser.specs.Reading.{ending_of}
use Rattle.expression_parser.proofs.Leading.{then_leads, then_fails, staying, nest_to, place_to}
use Rattle.expression_parser.proofs.SuffixTurns.{to_method, deep_method}
use Rattle.expression_parser.proofs.grammar.Grammar.method.Goals as goal

pub overflow_add-left : goal.overflow_add-left
overflow_add-left g c =
    let there = has_within c.args.self.now.tokens.now c.args.first.part.end token.Colon c.requires.stands in
    omega (arith, there, c.requires.few)

pub overflow_add-place : goal.overflow_add-place
overflow_add-place g c =
    let there = has_within c.args.self.now.tokens.now c.args.first.part.end token.Colon c.requires.stands in
    omega (arith, there, c.requires.few)

pub returns-in_err-within : goal.returns-in_err-within
returns-in_err-within g c =
    let first = c.args.first in
    let p = err_from_is_err_and c.from_residual.result c.from_residual.ensures.1 in
    let e = c.in_err-within.ensures in
    rw (p.1, p.2, e.1) (λ u v k deep. deep_method c.args.self.now.tokens.now (ending_of first.ending) u first.part.end first.part.nest
    c.args.self.now.room k c.requires.stands e.0 deep)

pub returns-in_err-name : goal.returns-in_err-name
returns-in_err-name g c =
    let first = c.args.first in
    let p = err_from_is_err_and c.from_residual-in_err-name.result c.from_residual-in_err-name.ensures.1 in
    let less = c.in_ok-within.ensures.0 in
    let before = to_method c.args.self.now.tokens.now (ending_of first.ending) in
    rw (p.1, p.2) (λ u v k deep. then_fails (before u first.part.end first.part.nest c.args.self.now.room k c.requires.stands less deep)
    c.in_err-name.field-0.0 (c.in_err-name.ensures first.part.nest (item.arguments ∷ item.wrap ∷ item.suffixes in_call u ∷ k)))

pub returns-in_err-args : goal.returns-in_err-args
returns-in_err-args g c =
    let first = c.args.first in
    let p = err_from_is_err_and c.from_residual-in_err-args.result c.from_residual-in_err-args.ensures.1 in
    let less = c.in_ok-within.ensures.0 in
    let before = to_method c.args.self.now.tokens.now (ending_of first.ending) in
    rw (p.1, p.2) (λ u v k deep.
    let named = place_to {j' = first.part.end + 2} (omega arith) (then_leads
    (before u first.part.end first.part.nest c.args.self.now.room k c.requires.stands less deep)
    (c.in_ok-name.ensures.1 first.part.nest (item.arguments ∷ item.wrap ∷ item.suffixes in_call u ∷ k))) in
    then_fails named c.in_err-args.field-0.0 (c.in_err-args.ensures first.part.nest (item.suffixes in_call u ∷ k) deep))

pub returns : goal.returns
returns g c =
    let ts = c.args.self.now.tokens.now in
    let first = c.args.first in
    let name = c.in_ok-name.ensures in
    let args = c.in_ok-args.args in
    let read = c.in_ok-args.ensures in
    let less = c.in_ok-within.ensures.0 in
    let before = to_method ts (ending_of first.ending) in
    λ u. (
      (
        λ e d j rest. method c.args.begin first.part.end args.end j c.in_ok-name.name args.list first.part.expr e (ending_of first.ending)
            d c.requires.stands name.0 read.0.0 (subst (λ (x : Expr). IsSuffixes ts most c.args.begin args.end x in_call e d j) c.in_ok-expr.ensures rest),
        omega (arith, less, read.0.1),
        omega (arith, read.0.2),
      ),
      λ v k deep.
          let named = place_to {j' = first.part.end + 2} (omega arith) (then_leads
          (before u first.part.end first.part.nest c.args.self.now.room k c.requires.stands less deep)
          (name.1 first.part.nest (item.arguments ∷ item.wrap ∷ item.suffixes in_call u ∷ k))) in
          nest_to (omega arith) (then_leads named (then_leads (read.1 v (item.suffixes in_call u ∷ k) deep) (staying refl))),
    )
