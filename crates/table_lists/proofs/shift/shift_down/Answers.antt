use Rattle.std.proofs.Common.{◌∙◌, arith, pos, ◌+ℤ◌}
use Rattle.std.proofs.lemmas.Int.{ints}
use Rattle.table_lists.proofs.Rows.{put_none, put_item, began, on_err, first_items, item_past}
use Rattle.table_lists.proofs.shift.shift_down.Goals as goal

pub loop-step-init : goal.loop-step-init
loop-step-init c = put_none c.args.table.now _

pub loop-step-preserved : goal.loop-step-preserved
loop-step-preserved c =
    c.in_ok-put_number.ensures.ok
    ∙ put_item c.loop-step.table c.args.table.now _ _ _ c.loop-step.step c.item-v.result _
    (c.item-v.ensures ∙ item_past c.loop-step.table c.args.table.now _ _ _ c.loop-step.step c.loop-step.invariant (omega (arith, ints)))
    (omega (arith, ints)) (omega (arith, ints)) c.loop-step.invariant

pub returns-in_err-put_number-clause-err : goal.returns-in_err-put_number-clause-err
returns-in_err-put_number-clause-err c =
    on_err c.from_residual.result
    (began c.loop-step.table c.args.table.now c.put_number.new.table _ c.args.first _ _ c.loop-step.step c.in_err-put_number.ensures.err c.loop-step.invariant (first_items c.args.table.now _ (c.args.first +ℤ pos 1) c.loop-step.step c.args.count (omega (arith, ints)) (omega (arith, c.loop-step-test.true))) (omega (arith, ints)))
