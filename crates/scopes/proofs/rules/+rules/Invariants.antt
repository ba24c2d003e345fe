use Rattle.std.proofs.Common.{◌≡◌, ◌++◌, map, drop}
use Rattle.syntax_tree.specs.Rules as spec
use Rattle.scopes.proofs.rules.+rules.Given as goal

abbrev pub invariant-rules_list-loop-expr : goal.invariant-rules_list-loop-expr
invariant-rules_list-loop-expr l = l.faults ++ spec.all (map spec.rules_expr (drop l.expr-index l.list)) l.fn.place ≡ l.fn.faults ++ spec.all (map spec.rules_expr l.list) l.fn.place

abbrev pub invariant-rules_arms-loop-arm : goal.invariant-rules_arms-loop-arm
invariant-rules_arms-loop-arm l = l.faults ++ spec.all (map spec.rules_arm (drop l.arm-index l.arms)) l.fn.place ≡ l.fn.faults ++ spec.all (map spec.rules_arm l.arms) l.fn.place

abbrev pub invariant-rules_expr_arms-loop-arm : goal.invariant-rules_expr_arms-loop-arm
invariant-rules_expr_arms-loop-arm l = l.faults ++ spec.all (map spec.rules_expr_arm (drop l.arm-index l.arms)) l.fn.place ≡ l.fn.faults ++ spec.all (map spec.rules_expr_arm l.arms) l.fn.place

abbrev pub invariant-rules_fields-loop-field : goal.invariant-rules_fields-loop-field
invariant-rules_fields-loop-field l = l.faults ++ spec.all (map spec.rules_field (drop l.field-index l.fields)) l.fn.place ≡ l.fn.faults ++ spec.all (map spec.rules_field l.fields) l.fn.place

abbrev pub invariant-rules_block-loop-stat : goal.invariant-rules_block-loop-stat
invariant-rules_block-loop-stat l = l.faults ++ spec.block (map spec.rules_stat (drop l.stat-index l.block)) l.at ≡ l.fn.faults ++ spec.block (map spec.rules_stat l.block) l.fn.place
