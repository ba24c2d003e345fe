use Rattle.std.proofs.Common.{◌≡◌, ◌≤◌, ◌+◌, min, map, drop, ◌^◌, ◌-◌}
use Rattle.syntax_tree.specs.Lists.{total}
use Rattle.syntax_tree.specs.Bulk as spec
use Rattle.syntax_tree.proofs.length.+bulk_exprs.Given as goal

abbrev pub invariant-bulk_list-loop-expr : goal.invariant-bulk_list-loop-expr
invariant-bulk_list-loop-expr l = (l.sum ≤ 2 ^ 64 - 1) × (min (l.sum + total (map (spec.bulk_expr l.bindings) (drop l.expr-index l.list))) (2 ^ 64 - 1) ≡ min (total (map (spec.bulk_expr l.bindings) l.list)) (2 ^ 64 - 1))

abbrev pub invariant-bulk_expr_arms-loop-arm : goal.invariant-bulk_expr_arms-loop-arm
invariant-bulk_expr_arms-loop-arm l = (l.sum ≤ 2 ^ 64 - 1) × (min (l.sum + total (map (spec.bulk_expr_arm l.bindings) (drop l.arm-index l.arms))) (2 ^ 64 - 1) ≡ min (total (map (spec.bulk_expr_arm l.bindings) l.arms)) (2 ^ 64 - 1))

abbrev pub invariant-bulk_fields-loop-field : goal.invariant-bulk_fields-loop-field
invariant-bulk_fields-loop-field l = (l.sum ≤ 2 ^ 64 - 1) × (min (l.sum + total (map (spec.bulk_field l.bindings) (drop l.field-index l.fields))) (2 ^ 64 - 1) ≡ min (total (map (spec.bulk_field l.bindings) l.fields)) (2 ^ 64 - 1))
