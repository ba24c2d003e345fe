use Rattle.std.proofs.Common.{◌≡◌, min, map, ◌+◌, ◌-◌, ◌^◌}
use Rattle.syntax_tree.specs.Lists.{total}
use Rattle.syntax_tree.specs.Bulk as spec
use Rattle.syntax_tree.proofs.Capped.{capped_sums, capped_sum}
use Rattle.syntax_tree.proofs.Loops.{at_end}
use Rattle.syntax_tree.proofs.NumericLoops.{bulk_num_for}
use Rattle.syntax_tree.proofs.length.+bulk_stats.Goals as goal

pub bulk_stat-returns-in-NumFor : goal.bulk_stat-returns-in-NumFor
bulk_stat-returns-in-NumFor t c =
    let arm = c.in-NumFor in
    let cap = 2 ^ 64 - 1 in
    let k = c.args.bindings.now in
    let start : c.bulk_expr-in-NumFor.result ≡ min (spec.bulk_expr k arm.start) cap = cc in
    let limit : c.bulk_expr-in-NumFor-2.result ≡ min (spec.bulk_expr k arm.limit) cap = cc in
    let body : c.bulk_block-body.result ≡ min (total (map (spec.bulk_stat k) arm.body)) cap = cc in
    let all : c.saturating_add-in-NumFor-3.result ≡ min (min (min (min (c.bulk_expr-in-NumFor.result + c.bulk_expr-in-NumFor-2.result) cap + c.bulk_step-step.result) cap + c.bulk_block-body.result) cap + 10) cap = cc in
    rw (bulk_num_for k c.args.stat.now arm.name arm.start arm.limit arm.step arm.body arm.is)
    (capped_sums _ _ _ _ _ cap _ _ _ _ start limit c.bulk_step-step.ensures body all)

pub bulk_arms-returns : goal.bulk_arms-returns
bulk_arms-returns t c =
    let loop = c.loop-arm in
    let end = at_end (λ xs. total (map (spec.bulk_arm c.args.bindings.now) xs)) c.args.arms.now loop.arm-index c.loop-arm-test.false in
    capped_sum loop.sum _ _ (2 ^ 64 - 1) end loop.invariant.0 loop.invariant.1

pub bulk_block-returns : goal.bulk_block-returns
bulk_block-returns t c =
    let loop = c.loop-stat in
    let end = at_end (λ xs. total (map (spec.bulk_stat c.args.bindings.now) xs)) c.args.block.now loop.stat-index c.loop-stat-test.false in
    capped_sum loop.sum _ _ (2 ^ 64 - 1) end loop.invariant.0 loop.invariant.1
