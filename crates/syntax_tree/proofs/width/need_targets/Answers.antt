use Rattle.std.proofs.Common.{min, max, map, drop, ◌+◌, ◌-◌, ◌^◌}
use Rattle.syntax_tree.specs.Need as spec
use Rattle.syntax_tree.proofs.Capped.{targets_turn}
use Rattle.syntax_tree.proofs.Loops.{at_turn}
use Rattle.syntax_tree.proofs.width.need_targets.Goals as goal

pub loop-target-preserved : goal.loop-target-preserved
loop-target-preserved c =
    let loop = c.loop-target in
    let cap = 2 ^ 64 - 1 in
    let targets = c.args.targets.now in
    let before = at_turn (λ ts. max loop.most (min (spec.targets_from loop.held (map spec.need_expr ts)) cap)) targets loop.target-index c.target-item.result (min (spec.targets_from 0 (map spec.need_expr targets)) cap) c.loop-target-test.true c.target-item.is loop.invariant in
    targets_turn loop.most loop.held cap _ _ _ _ _ (spec.need_expr c.target-item.result) (map spec.need_expr (drop (loop.target-index + 1) targets)) c.holds.ensures.value c.need_target.ensures c.max-most.ensures c.saturating_add-held.ensures before
