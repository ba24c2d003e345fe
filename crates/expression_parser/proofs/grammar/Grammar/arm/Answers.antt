use Rattle.std.proofs.Common.{max, ◌+◌, ◌∷◌, arith}
use Rattle.std.proofs.lemmas.Result.{err_from_is_err_and}
use Rattle.syntax_tree.specs.Grammar as grammar
use Rattle.type_skip.specs.declared.words.Word.TheVariants as word
use Rattle.parse_steps.specs.Items as item
use Rattle.expression_parser.proofs.Leading.{then_leads, then_fails, nest_to}
use Rattle.expression_parser.proofs.grammar.Grammar.arm.Goals as goal

pub returns-in_err-cond : goal.returns-in_err-cond
returns-in_err-cond g c =
    let p = err_from_is_err_and c.from_residual.result c.from_residual.ensures.1 in
    rw (p.1, p.2) (λ v k deep. c.in_err-cond.ensures v (item.expects word.Then ∷ item.expression ∷ k) deep)

pub returns-in_err-then : goal.returns-in_err-then
returns-in_err-then g c =
    let p = err_from_is_err_and c.from_residual-in_err-then.result c.from_residual-in_err-then.ensures.1 in
    rw (p.1, p.2) (λ v k deep. then_fails (c.in_ok-cond.ensures.1 v (item.expects word.Then ∷ item.expression ∷ k) deep) c.in_err-then.field-0.0 (c.in_err-then.ensures (max v c.in_ok-cond.cond.nest) (item.expression ∷ k)))

pub returns-in_err-value : goal.returns-in_err-value
returns-in_err-value g c =
    let n = c.in_ok-cond.cond.nest in
    let p = err_from_is_err_and c.from_residual-in_err-value.result c.from_residual-in_err-value.ensures.1 in
    rw (p.1, p.2) (λ v k deep. then_fails (then_leads (c.in_ok-cond.ensures.1 v (item.expects word.Then ∷ item.expression ∷ k) deep) (c.in_ok-then.ensures.1 (max v n) (item.expression ∷ k))) c.in_err-value.field-0.0 (c.in_err-value.ensures (max v n) k deep))

pub returns : goal.returns
returns g c =
    let cond = c.in_ok-cond.ensures in
    let behind = c.in_ok-then.ensures in
    let value = c.in_ok-value.ensures in
    let read = rw behind.0.1 at value in
    let n = c.in_ok-cond.cond.nest in
    let i = c.in_ok-cond.cond.end in
    let j = c.in_ok-value.value.end in (
      ((i, grammar.expression c.args.at i c.in_ok-cond.cond.expr cond.0.0, behind.0.0, grammar.expression (i + 1) j c.in_ok-value.value.expr read.0.0), (omega (arith, c.max.ensures, cond.0.1.0, value.0.1.0), omega (arith, cond.0.1.1, behind.0.1, value.0.1.1))),
      λ v k deep. nest_to (omega (arith, c.max.ensures)) (then_leads (cond.1 v (item.expects word.Then ∷ item.expression ∷ k) deep) (then_leads (behind.1 (max v n) (item.expression ∷ k)) (value.1 (max v n) k deep))),
    )
