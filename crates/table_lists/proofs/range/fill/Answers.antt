use Rattle.std.proofs.Common.{◌∙◌, arith, refl, sym, pos}
use Rattle.std.proofs.lemmas.Int.{ints}
use Rattle.table_lists.proofs.Rows.{put_none, put_again, began, on_err, take_replicate}
use Rattle.table_lists.proofs.range.fill.Goals as goal

pub loop-step-init : goal.loop-step-init
loop-step-init c = put_none c.args.table.now _

pub loop-step-preserved : goal.loop-step-preserved
loop-step-preserved c =
    c.in_ok-put_number.ensures.ok
    ∙ put_again c.loop-step.table c.args.table.now _ _ c.loop-step.step c.args.v (omega (arith, ints)) c.loop-step.invariant

pub returns-in_err-put_number-clause-err : goal.returns-in_err-put_number-clause-err
returns-in_err-put_number-clause-err c =
    on_err c.from_residual.result
    (began c.loop-step.table c.args.table.now c.put_number.new.table _ (pos 1) _ _ c.loop-step.step c.in_err-put_number.ensures.err c.loop-step.invariant (sym (take_replicate c.loop-step.step c.args.count c.args.v (omega (arith, c.loop-step-test.true)))) refl)
