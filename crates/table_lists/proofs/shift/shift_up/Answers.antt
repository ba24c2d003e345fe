use Rattle.std.proofs.Common.{◌∙◌, arith, refl, pos, ◌+ℤ◌}
use Rattle.std.proofs.lemmas.Int.{ints}
use Rattle.table_lists.proofs.Rows.{put_none, put_item, began, on_err, first_items, item_past, item_at}
use Rattle.table_lists.proofs.shift.shift_up.Goals as goal

pub loop-step-init : goal.loop-step-init
loop-step-init c = record { moved = put_none c.args.table.now _; carried = c.item-carried.ensures ∙ item_at c.args.table.now _ _ (omega (arith, ints)) }

pub loop-step-preserved : goal.loop-step-preserved
loop-step-preserved c =
    record {
      moved = c.in_ok-put_number.ensures.ok ∙ put_item c.loop-step.table c.args.table.now _ _ _ c.loop-step.step c.loop-step.carried _ c.loop-step.invariant.carried refl (omega (arith, ints)) c.loop-step.invariant.moved;
      carried = c.item-next.ensures ∙ item_past c.loop-step.table c.args.table.now _ _ _ c.loop-step.step c.loop-step.invariant.moved (omega (arith, ints)) ∙ item_at c.args.table.now _ _ (omega (arith, ints));
    }

pub returns-in_err-put_number-clause-err : goal.returns-in_err-put_number-clause-err
returns-in_err-put_number-clause-err c =
    on_err c.from_residual.result
    (began c.loop-step.table c.args.table.now c.put_number.new.table _ (c.args.first +ℤ pos 1) _ _ c.loop-step.step c.in_err-put_number.ensures.err c.loop-step.invariant.moved (first_items c.args.table.now _ c.args.first c.loop-step.step c.args.count (omega (arith, ints)) (omega (arith, c.loop-step-test.true))) (omega (arith, ints)))
