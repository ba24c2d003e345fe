use Rattle.std.proofs.Common.{◌≡◌, ◌<◌, min, max, map, drop, ◌^◌, ◌-◌}
use Rattle.syntax_tree.specs.Lists.{greatest}
use Rattle.syntax_tree.specs.Need as spec
use Rattle.syntax_tree.proofs.width.+need_exprs.Given as goal

abbrev pub invariant-need_expr_arms-loop-arm : goal.invariant-need_expr_arms-loop-arm
invariant-need_expr_arms-loop-arm l = max l.most (min (greatest (map spec.need_expr_arm (drop l.arm-index l.arms))) (2 ^ 64 - 1)) ≡ min (greatest (map spec.need_expr_arm l.arms)) (2 ^ 64 - 1)

abbrev pub invariant-need_list-loop-held : goal.invariant-need_list-loop-held
invariant-need_list-loop-held l = max l.most (min (spec.list_from l.held (map spec.need_expr (drop l.held l.list))) (2 ^ 64 - 1)) ≡ min (spec.list_need (map spec.need_expr l.list)) (2 ^ 64 - 1)

abbrev pub invariant-need_fields-loop-field : goal.invariant-need_fields-loop-field
invariant-need_fields-loop-field l = (l.waiting < 16) × (max l.most (min (spec.fields_from l.waiting (map spec.need_field (drop l.field-index l.fields))) (2 ^ 64 - 1)) ≡ min (spec.fields_from 0 (map spec.need_field l.fields)) (2 ^ 64 - 1))
