use Rattle.std.proofs.Common.{◌≡◌, drop}
use Rattle.node_numbers.specs.Parts as spec
use Rattle.node_numbers.proofs.Turns.{after}
use Rattle.node_numbers.proofs.numbers.Numbers.+numbers.Given as goal

abbrev pub invariant-block-loop-stat : goal.invariant-block-loop-stat
invariant-block-loop-stat l = spec.numbered_list spec.numbered_stat l.block l.fn.self.next ≡ after spec.numbered_stat l.done (drop l.stat-index l.block) l.self.next

abbrev pub invariant-list-loop-expr : goal.invariant-list-loop-expr
invariant-list-loop-expr l = spec.numbered_list spec.numbered_expr l.list l.fn.self.next ≡ after spec.numbered_expr l.done (drop l.expr-index l.list) l.self.next

abbrev pub invariant-arms-loop-arm : goal.invariant-arms-loop-arm
invariant-arms-loop-arm l = spec.numbered_list spec.numbered_arm l.arms l.fn.self.next ≡ after spec.numbered_arm l.done (drop l.arm-index l.arms) l.self.next

abbrev pub invariant-expr_arms-loop-arm : goal.invariant-expr_arms-loop-arm
invariant-expr_arms-loop-arm l = spec.numbered_list spec.numbered_expr_arm l.arms l.fn.self.next ≡ after spec.numbered_expr_arm l.done (drop l.arm-index l.arms) l.self.next

abbrev pub invariant-fields-loop-field : goal.invariant-fields-loop-field
invariant-fields-loop-field l = spec.numbered_list spec.numbered_field l.fields l.fn.self.next ≡ after spec.numbered_field l.done (drop l.field-index l.fields) l.self.next
