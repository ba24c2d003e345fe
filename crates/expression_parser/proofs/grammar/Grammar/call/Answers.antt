use Rattle.std.proofs.Common.{◌∷◌, refl, subst, arith}
use Rattle.std.proofs.lemmas.Result.{err_from_is_err_and}
use Rattle.syntax_tree.specs.declared.tree.Expr.{Expr}
use Rattle.syntax_tree.specs.Grammar.{IsSuffixes, in_call, call}
use Rattle.parse_steps.specs.Items as item
use Rattle.parse_steps.specs.Steps.{most}
use Rattle.expression_parser.specs.Reading.{ending_of}
use Rattle.expression_parser.proofs.Leading.{then_leads, staying, nest_to}
use Rattle.expression_parser.proofs.ArgumentTurns.{call_leads, call_fails, deep_call}
use Rattle.expression_parser.proofs.grammar.Grammar.call.Goals as goal

pub returns-in_err-within : goal.returns-in_err-within
returns-in_err-within g c =
    let first = c.args.first in
    let p = err_from_is_err_and c.from_residual.result c.from_residual.ensures.1 in
    let e = c.in_err-within.ensures in
    rw (p.1, p.2, e.1) (λ u v k deep. deep_call c.args.self.now.tokens.now (ending_of first.ending) u first.part.end first.part.nest
    c.args.self.now.room k c.requires.opens e.0 deep)

pub returns-in_err-args : goal.returns-in_err-args
returns-in_err-args g c =
    let first = c.args.first in
    let p = err_from_is_err_and c.from_residual-in_err-args.result c.from_residual-in_err-args.ensures.1 in
    let over = call_fails c.args.self.now.tokens.now first.part.end first.part.nest in
    rw (p.1, p.2) (λ u v k deep. over k (ending_of first.ending) u c.requires.opens c.in_err-args.field-0.0
    (c.in_err-args.ensures v (item.suffixes in_call u ∷ k) deep))

pub returns : goal.returns
returns g c =
    let ts = c.args.self.now.tokens.now in
    let first = c.args.first in
    let args = c.in_ok-args.args in
    let read = c.in_ok-args.ensures in
    let less = c.in_ok-within.ensures.0 in
    λ u. (
      (
        λ e d j rest. call c.args.begin first.part.end args.end j args.list first.part.expr e (ending_of first.ending) d read.0.0
            (subst (λ (x : Expr). IsSuffixes ts most c.args.begin args.end x in_call e d j) c.in_ok-expr.ensures rest),
        omega (arith, less, read.0.1),
        read.0.2,
      ),
      λ v k deep. nest_to (omega arith) (then_leads (call_leads (ending_of first.ending) u c.requires.opens read.0.2
          (read.1 v (item.suffixes in_call u ∷ k) deep)) (staying refl)),
    )
