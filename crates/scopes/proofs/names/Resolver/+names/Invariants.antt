use Rattle.std.proofs.Common.{◌≡◌, map, drop}
use Rattle.syntax_tree.specs.Names as spec
use Rattle.scopes.proofs.names.Resolver.+names.Given as goal

abbrev pub invariant-block-loop-stat : goal.invariant-block-loop-stat
invariant-block-loop-stat l = spec.block (map spec.names_stat (drop l.stat-index l.block)) l.self ≡ spec.block (map spec.names_stat l.block) l.fn.self

abbrev pub invariant-arms-loop-arm : goal.invariant-arms-loop-arm
invariant-arms-loop-arm l = spec.block (map spec.names_arm (drop l.arm-index l.arms)) l.self ≡ spec.block (map spec.names_arm l.arms) l.fn.self

abbrev pub invariant-expr_arms-loop-arm : goal.invariant-expr_arms-loop-arm
invariant-expr_arms-loop-arm l = spec.block (map spec.names_expr_arm (drop l.arm-index l.arms)) l.self ≡ spec.block (map spec.names_expr_arm l.arms) l.fn.self

abbrev pub invariant-fields-loop-field : goal.invariant-fields-loop-field
invariant-fields-loop-field l = spec.block (map spec.names_field (drop l.field-index l.fields)) l.self ≡ spec.block (map spec.names_field l.fields) l.fn.self

abbrev pub invariant-list-loop-expr : goal.invariant-list-loop-expr
invariant-list-loop-expr l = spec.all l.fn.target (map spec.names_expr (drop l.expr-index l.list)) l.self ≡ spec.all l.fn.target (map spec.names_expr l.list) l.fn.self
