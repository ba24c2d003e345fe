use Rattle.std.proofs.Common.{◌≡◌, ◌≤◌, ◌+◌, min, map, drop, ◌^◌, ◌-◌}
use Rattle.syntax_tree.specs.Lists.{total}
use Rattle.syntax_tree.specs.Bulk as spec
use Rattle.syntax_tree.proofs.length.+bulk_stats.Given as goal

abbrev pub invariant-bulk_block-loop-stat : goal.invariant-bulk_block-loop-stat
invariant-bulk_block-loop-stat l = (l.sum ≤ 2 ^ 64 - 1) × (min (l.sum + total (map (spec.bulk_stat l.bindings) (drop l.stat-index l.block))) (2 ^ 64 - 1) ≡ min (total (map (spec.bulk_stat l.bindings) l.block)) (2 ^ 64 - 1))

abbrev pub invariant-bulk_arms-loop-arm : goal.invariant-bulk_arms-loop-arm
invariant-bulk_arms-loop-arm l = (l.sum ≤ 2 ^ 64 - 1) × (min (l.sum + total (map (spec.bulk_arm l.bindings) (drop l.arm-index l.arms))) (2 ^ 64 - 1) ≡ min (total (map (spec.bulk_arm l.bindings) l.arms)) (2 ^ 64 - 1))
