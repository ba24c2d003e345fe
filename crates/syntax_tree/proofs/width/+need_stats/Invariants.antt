use Rattle.std.proofs.Common.{◌≡◌, min, max, map, drop, ◌^◌, ◌-◌}
use Rattle.syntax_tree.specs.Lists.{greatest}
use Rattle.syntax_tree.specs.Need as spec
use Rattle.syntax_tree.proofs.width.+need_stats.Given as goal

abbrev pub invariant-need_arms-loop-arm : goal.invariant-need_arms-loop-arm
invariant-need_arms-loop-arm l = max l.most (min (greatest (map spec.need_arm (drop l.arm-index l.arms))) (2 ^ 64 - 1)) ≡ min (greatest (map spec.need_arm l.arms)) (2 ^ 64 - 1)

abbrev pub invariant-need_block-loop-stat : goal.invariant-need_block-loop-stat
invariant-need_block-loop-stat l = max l.most (min (spec.block_from l.declared (map spec.need_stat (drop l.stat-index l.block))) (2 ^ 64 - 1)) ≡ min (spec.block_need (map spec.need_stat l.block)) (2 ^ 64 - 1)
