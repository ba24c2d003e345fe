use Rattle.std.proofs.Common.{◌≡◌, min, max, map, drop, ◌+◌, ◌-◌, ◌^◌}
use Rattle.syntax_tree.specs.Need as spec
use Rattle.syntax_tree.proofs.Capped.{capped_bounds, block_turn}
use Rattle.syntax_tree.proofs.Loops.{at_turn}
use Rattle.syntax_tree.proofs.NumericLoops.{need_num_for}
use Rattle.syntax_tree.proofs.width.+need_stats.Goals as goal

pub need_block-loop-stat-preserved : goal.need_block-loop-stat-preserved
need_block-loop-stat-preserved t c =
    let loop = c.loop-stat in
    let cap = 2 ^ 64 - 1 in
    let block = c.args.block.now in
    let before = at_turn (λ ss. max loop.most (min (spec.block_from loop.declared (map spec.need_stat ss)) cap)) block loop.stat-index c.stat-item.result (min (spec.block_need (map spec.need_stat block)) cap) c.loop-stat-test.true c.stat-item.is loop.invariant in
    block_turn loop.most loop.declared cap _ _ _ _ _ _ (spec.need_stat c.stat-item.result) (map spec.need_stat (drop (loop.stat-index + 1) block)) c.declares.ensures c.need_stat.ensures c.saturating_add.ensures c.max-most.ensures c.saturating_add-declared.ensures before

pub need_stat-returns-in-NumFor : goal.need_stat-returns-in-NumFor
need_stat-returns-in-NumFor t c =
    let arm = c.in-NumFor in
    let cap = 2 ^ 64 - 1 in
    let start : c.need_expr-in-NumFor.result ≡ min (spec.need_expr arm.start).need cap = cc in
    let limit : c.need_expr-in-NumFor-2.result ≡ min (spec.need_expr arm.limit).need cap = cc in
    let body : c.need_block-in-NumFor.result ≡ min (spec.block_need (map spec.need_stat arm.body)) cap = cc in
    let all : c.max-in-NumFor-3.result ≡ max (max (min (max c.need_expr-in-NumFor.result c.need_expr-in-NumFor-2.result + 3) cap) c.need_step.result) (min (c.need_block-in-NumFor.result + 4) cap) = cc in
    rw (need_num_for c.args.stat.now arm.name arm.start arm.limit arm.step arm.body arm.is)
    (capped_bounds _ _ _ _ _ cap _ _ _ _ start limit c.need_step.ensures body all)
