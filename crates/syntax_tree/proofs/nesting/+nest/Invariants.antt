use Rattle.std.proofs.Common.{◌≡◌, min, max, map, drop, ◌^◌, ◌-◌}
use Rattle.syntax_tree.specs.Lists.{greatest}
use Rattle.syntax_tree.specs.Nest as spec
use Rattle.syntax_tree.proofs.nesting.+nest.Given as goal

abbrev pub invariant-nest_arms-loop-arm : goal.invariant-nest_arms-loop-arm
invariant-nest_arms-loop-arm l = max l.deepest (min (greatest (map spec.nest_arm (drop l.arm-index l.arms))) (2 ^ 64 - 1)) ≡ min (greatest (map spec.nest_arm l.arms)) (2 ^ 64 - 1)

abbrev pub invariant-nest_block-loop-stat : goal.invariant-nest_block-loop-stat
invariant-nest_block-loop-stat l = max l.deepest (min (greatest (map spec.nest_stat (drop l.stat-index l.block))) (2 ^ 64 - 1)) ≡ min (greatest (map spec.nest_stat l.block)) (2 ^ 64 - 1)

abbrev pub invariant-nest_expr_arms-loop-arm : goal.invariant-nest_expr_arms-loop-arm
invariant-nest_expr_arms-loop-arm l = max l.deepest (min (greatest (map spec.nest_expr_arm (drop l.arm-index l.arms))) (2 ^ 64 - 1)) ≡ min (greatest (map spec.nest_expr_arm l.arms)) (2 ^ 64 - 1)

abbrev pub invariant-nest_fields-loop-field : goal.invariant-nest_fields-loop-field
invariant-nest_fields-loop-field l = max l.deepest (min (greatest (map spec.nest_field (drop l.field-index l.fields))) (2 ^ 64 - 1)) ≡ min (greatest (map spec.nest_field l.fields)) (2 ^ 64 - 1)

abbrev pub invariant-nest_list-loop-expr : goal.invariant-nest_list-loop-expr
invariant-nest_list-loop-expr l = max l.deepest (min (greatest (map spec.nest_expr (drop l.expr-index l.list))) (2 ^ 64 - 1)) ≡ min (greatest (map spec.nest_expr l.list)) (2 ^ 64 - 1)
