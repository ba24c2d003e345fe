use Rattle.std.proofs.Common.{◌∙◌, arith, refl}
use Rattle.std.proofs.lemmas.Int.{ints}
use Rattle.table_lists.proofs.Rows.{put_none, put_listed, began, on_err}
use Rattle.table_lists.proofs.range.put_all.Goals as goal

pub loop-step-init : goal.loop-step-init
loop-step-init c = put_none c.args.table.now _

pub loop-step-preserved : goal.loop-step-preserved
loop-step-preserved c =
    c.in_ok-put_number.ensures.ok
    ∙ put_listed c.loop-step.table c.args.table.now _ _ c.args.values.now c.loop-step.step c.index-values-step.result (omega (arith, c.loop-step-test.true)) c.index-values-step.is (omega (arith, ints)) c.loop-step.invariant

pub returns-in_err-put_number-clause-err : goal.returns-in_err-put_number-clause-err
returns-in_err-put_number-clause-err c =
    on_err c.from_residual.result
    (began c.loop-step.table c.args.table.now c.put_number.new.table _ c.args.first c.args.values.now _ c.loop-step.step c.in_err-put_number.ensures.err c.loop-step.invariant refl (omega (arith, ints)))
