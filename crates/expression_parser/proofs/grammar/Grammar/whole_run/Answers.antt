use Rattle.std.proofs.Common.{◌∷◌, refl, arith}
use Rattle.std.proofs.lemmas.Result.{err_from_is_err_and}
use Rattle.parse_steps.specs.Items as item
use Rattle.expression_parser.proofs.Leading.{then_leads, then_fails}
use Rattle.expression_parser.proofs.ExpressionTurns.{to_second, to_next}
use Rattle.expression_parser.proofs.SeparatedParts.{two_of_run, one_of_run, run_read}
use Rattle.expression_parser.proofs.grammar.Grammar.whole_run.Goals as goal

pub returns-in_err-second : goal.returns-in_err-second
returns-in_err-second g c =
    let first = c.args.first in
    let less = c.requires.nest in
    let p = err_from_is_err_and c.from_residual.result c.from_residual.ensures.1 in
    rw (p.1, p.2) (λ v k deep. then_fails (to_second c.args.self.now.tokens.now first.end first.nest c.args.self.now.room k c.requires.stands less deep) c.in_err-second.field-0.0 (c.in_err-second.ensures first.nest (item.run_more ∷ item.wrap ∷ k) (omega (arith, deep, less))))

pub loop-list-init : goal.loop-list-init
loop-list-init g c = rw (c.max-nest.ensures, c.in_ok-push-2.ensures, c.in_ok-push.ensures, c.new-list.ensures) (two_of_run c.args.self.now.tokens.now c.args.self.now.room c.args.begin c.args.first c.in_ok-second.second c.requires.nest c.requires.part c.requires.stands c.in_ok-second.ensures)

pub returns-in_err-part : goal.returns-in_err-part
returns-in_err-part g c =
    let so_far = c.loop-list.invariant in
    let p = err_from_is_err_and c.from_residual-in_err-part.result c.from_residual-in_err-part.ensures.1 in
    rw (p.1, p.2) (λ v k deep. then_fails (then_leads (so_far.runs k deep) (to_next c.args.self.now.tokens.now c.loop-list.end c.loop-list.nest (item.wrap ∷ k) (c.loop-list-test.ensures.there refl))) c.in_err-part.field-0.0 (c.in_err-part.ensures c.loop-list.nest (item.run_more ∷ item.wrap ∷ k) (omega (arith, deep, so_far.small))))

pub loop-list-preserved : goal.loop-list-preserved
loop-list-preserved g c = rw (c.max-nest-in-loop-list.ensures, c.in_ok-push-3.ensures) (one_of_run c.args.self.now.tokens.now c.args.self.now.room c.args.begin c.args.first c.loop-list.list c.loop-list.nest c.loop-list.end c.in_ok-part.part c.loop-list.invariant (c.loop-list-test.ensures.there refl) c.in_ok-part.ensures)

pub returns : goal.returns
returns g c = run_read c.args.self.now.tokens.now c.args.self.now.room c.args.begin c.args.first c.loop-list.list c.loop-list.nest c.loop-list.end c.in_ok-expr.expr c.loop-list.invariant (c.loop-list-test.ensures.absent refl) c.in_ok-expr.ensures
