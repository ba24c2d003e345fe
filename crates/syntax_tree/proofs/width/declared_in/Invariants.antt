use Rattle.std.proofs.Common.{◌≡◌, ◌≤◌, ◌+◌, min, map, drop, ◌^◌, ◌-◌}
use Rattle.syntax_tree.specs.Need as spec
use Rattle.syntax_tree.proofs.width.declared_in.Given as goal

abbrev pub invariant-loop-stat : goal.invariant-loop-stat
invariant-loop-stat l = (l.count ≤ 2 ^ 64 - 1) × (min (l.count + spec.declared_in (map spec.need_stat (drop l.stat-index l.block))) (2 ^ 64 - 1) ≡ min (spec.declared_in (map spec.need_stat l.block)) (2 ^ 64 - 1))
