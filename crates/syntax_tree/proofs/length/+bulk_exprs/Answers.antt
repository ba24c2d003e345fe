use Rattle.std.proofs.Common.{map, ◌-◌, ◌^◌}
use Rattle.syntax_tree.specs.Lists.{total}
use Rattle.syntax_tree.specs.Bulk as spec
use Rattle.syntax_tree.proofs.Capped.{capped_sum}
use Rattle.syntax_tree.proofs.Loops.{at_end}
use Rattle.syntax_tree.proofs.length.+bulk_exprs.Goals as goal

pub bulk_expr_arms-returns : goal.bulk_expr_arms-returns
bulk_expr_arms-returns t c =
    let loop = c.loop-arm in
    let end = at_end (λ xs. total (map (spec.bulk_expr_arm c.args.bindings.now) xs)) c.args.arms.now loop.arm-index c.loop-arm-test.false in
    capped_sum loop.sum _ _ (2 ^ 64 - 1) end loop.invariant.0 loop.invariant.1

pub bulk_fields-returns : goal.bulk_fields-returns
bulk_fields-returns t c =
    let loop = c.loop-field in
    let end = at_end (λ xs. total (map (spec.bulk_field c.args.bindings.now) xs)) c.args.fields.now loop.field-index c.loop-field-test.false in
    capped_sum loop.sum _ _ (2 ^ 64 - 1) end loop.invariant.0 loop.invariant.1

pub bulk_list-returns : goal.bulk_list-returns
bulk_list-returns t c =
    let loop = c.loop-expr in
    let end = at_end (λ xs. total (map (spec.bulk_expr c.args.bindings.now) xs)) c.args.list.now loop.expr-index c.loop-expr-test.false in
    capped_sum loop.sum _ _ (2 ^ 64 - 1) end loop.invariant.0 loop.invariant.1
