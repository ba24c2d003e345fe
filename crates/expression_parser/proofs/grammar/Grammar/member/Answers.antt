use Rattle.std.proofs.Common.{◌+◌, ◌∷◌, refl, subst, arith}
use Rattle.std.proofs.lemmas.Result.{err_from_is_err_and}
use Rattle.syntax_tree.specs.declared.token.TokenKind.TheVariants as token
use Rattle.syntax_tree.specs.declared.tree.Expr.{Expr}
use Rattle.syntax_tree.specs.Grammar.{IsSuffixes, in_target, member}
use Rattle.type_skip.proofs.GoingOn.{has_within}
use Rattle.parse_steps.specs.Items as item
use Rattle.parse_steps.specs.Steps.{most}
use Rattle.expression_parser.specs.Reading.{ending_of}
use Rattle.expression_parser.proofs.Leading.{then_leads, then_fails, staying, nest_to, place_to}
use Rattle.expression_parser.proofs.SuffixTurns.{to_name, deep_member}
use Rattle.expression_parser.proofs.grammar.Grammar.member.Goals as goal

pub overflow_add-left : goal.overflow_add-left
overflow_add-left g c =
    let there = has_within c.args.self.now.tokens.now c.args.first.part.end token.Dot c.requires.stands in
    omega (arith, there, c.requires.few)

pub overflow_add-end : goal.overflow_add-end
overflow_add-end g c =
    let there = has_within c.args.self.now.tokens.now c.args.first.part.end token.Dot c.requires.stands in
    omega (arith, there, c.requires.few)

pub returns-in_err-within : goal.returns-in_err-within
returns-in_err-within g c =
    let first = c.args.first in
    let p = err_from_is_err_and c.from_residual.result c.from_residual.ensures.1 in
    let e = c.in_err-within.ensures in
    rw (p.1, p.2, e.1) (λ u v k deep. deep_member c.args.self.now.tokens.now (ending_of first.ending) u first.part.end first.part.nest
    c.args.self.now.room k c.requires.stands e.0 deep)

pub returns-in_err-name : goal.returns-in_err-name
returns-in_err-name g c =
    let first = c.args.first in
    let p = err_from_is_err_and c.from_residual-in_err-name.result c.from_residual-in_err-name.ensures.1 in
    let guard = c.in_ok-within.ensures in
    rw (p.1, p.2) (λ u v k deep. then_fails (to_name c.args.self.now.tokens.now (ending_of first.ending) u first.part.end first.part.nest
    c.args.self.now.room k c.requires.stands guard.0 deep) c.in_err-name.field-0.0
    (c.in_err-name.ensures first.part.nest (item.wrap ∷ item.suffixes in_target u ∷ k)))

pub returns : goal.returns
returns g c =
    let ts = c.args.self.now.tokens.now in
    let first = c.args.first in
    let name = c.in_ok-name.ensures in
    let less = c.in_ok-within.ensures.0 in
    λ u. (
      (
        λ e d j rest. member c.args.begin first.part.end j c.in_ok-name.name first.part.expr e (ending_of first.ending) d c.requires.stands
            name.0 (subst (λ (x : Expr). IsSuffixes ts most c.args.begin (first.part.end + 2) x in_target e d j) c.in_ok-expr.ensures rest),
        omega (arith, less),
        omega arith,
      ),
      λ v k deep. nest_to (omega arith) (place_to (omega arith) (then_leads
          (to_name ts (ending_of first.ending) u first.part.end first.part.nest c.args.self.now.room k c.requires.stands less deep)
          (then_leads (name.1 first.part.nest (item.wrap ∷ item.suffixes in_target u ∷ k)) (staying refl)))),
    )
