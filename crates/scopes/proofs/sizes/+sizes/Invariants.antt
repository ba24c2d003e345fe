use Rattle.std.proofs.Common.{◌≡◌, ◌++◌, drop}
use Rattle.syntax_tree.specs.Sizes as spec
use Rattle.scopes.proofs.sizes.+sizes.Given as goal

abbrev pub invariant-size_list-loop-expr : goal.invariant-size_list-loop-expr
invariant-size_list-loop-expr l = l.faults ++ spec.sizes_in_list l.fn.bindings (drop l.expr-index l.list) ≡ l.fn.faults ++ spec.sizes_in_list l.fn.bindings l.list

abbrev pub invariant-size_block-loop-stat : goal.invariant-size_block-loop-stat
invariant-size_block-loop-stat l = l.faults ++ spec.sizes_in_block l.fn.bindings (drop l.stat-index l.block) ≡ l.fn.faults ++ spec.sizes_in_block l.fn.bindings l.block

abbrev pub invariant-size_arms-loop-arm : goal.invariant-size_arms-loop-arm
invariant-size_arms-loop-arm l = l.faults ++ spec.sizes_in_arms l.fn.bindings (drop l.arm-index l.arms) ≡ l.fn.faults ++ spec.sizes_in_arms l.fn.bindings l.arms

abbrev pub invariant-size_expr_arms-loop-arm : goal.invariant-size_expr_arms-loop-arm
invariant-size_expr_arms-loop-arm l = l.faults ++ spec.sizes_in_expr_arms l.fn.bindings (drop l.arm-index l.arms) ≡ l.fn.faults ++ spec.sizes_in_expr_arms l.fn.bindings l.arms

abbrev pub invariant-size_fields-loop-field : goal.invariant-size_fields-loop-field
invariant-size_fields-loop-field l = l.faults ++ spec.sizes_in_fields l.fn.bindings (drop l.field-index l.fields) ≡ l.fn.faults ++ spec.sizes_in_fields l.fn.bindings l.fields
