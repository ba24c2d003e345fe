use Rattle.std.proofs.Common.{◌≡◌, min, max, map, drop, ◌^◌, ◌-◌}
use Rattle.syntax_tree.specs.Need as spec
use Rattle.syntax_tree.proofs.width.need_targets.Given as goal

abbrev pub invariant-loop-target : goal.invariant-loop-target
invariant-loop-target l = max l.most (min (spec.targets_from l.held (map spec.need_expr (drop l.target-index l.targets))) (2 ^ 64 - 1)) ≡ min (spec.targets_from 0 (map spec.need_expr l.targets)) (2 ^ 64 - 1)
