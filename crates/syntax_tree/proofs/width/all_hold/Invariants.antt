use Rattle.std.proofs.Common.{◌≡◌, ◌≤◌, ◌+◌, min, map, drop, ◌^◌, ◌-◌}
use Rattle.syntax_tree.specs.Need as spec
use Rattle.syntax_tree.proofs.width.all_hold.Given as goal

abbrev pub invariant-loop-target : goal.invariant-loop-target
invariant-loop-target l = (l.count ≤ 2 ^ 64 - 1) × (min (l.count + spec.all_hold (map spec.need_expr (drop l.target-index l.targets))) (2 ^ 64 - 1) ≡ min (spec.all_hold (map spec.need_expr l.targets)) (2 ^ 64 - 1))
