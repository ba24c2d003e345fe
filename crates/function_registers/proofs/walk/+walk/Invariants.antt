use Rattle.std.proofs.Common.{◌≡◌, ◌++◌, drop}
use Rattle.function_registers.specs.Registers as spec
use Rattle.function_registers.proofs.walk.+walk.Given as goal

abbrev pub invariant-note_list-loop-expr : goal.invariant-note_list-loop-expr
invariant-note_list-loop-expr l = l.entries ++ spec.in_list (drop l.expr-index l.list) ≡ l.fn.entries ++ spec.in_list l.list

abbrev pub invariant-note_block-loop-stat : goal.invariant-note_block-loop-stat
invariant-note_block-loop-stat l = l.entries ++ spec.in_block (drop l.stat-index l.block) ≡ l.fn.entries ++ spec.in_block l.block

abbrev pub invariant-note_arms-loop-arm : goal.invariant-note_arms-loop-arm
invariant-note_arms-loop-arm l = l.entries ++ spec.in_arms (drop l.arm-index l.arms) ≡ l.fn.entries ++ spec.in_arms l.arms

abbrev pub invariant-note_expr_arms-loop-arm : goal.invariant-note_expr_arms-loop-arm
invariant-note_expr_arms-loop-arm l = l.entries ++ spec.in_expr_arms (drop l.arm-index l.arms) ≡ l.fn.entries ++ spec.in_expr_arms l.arms

abbrev pub invariant-note_fields-loop-field : goal.invariant-note_fields-loop-field
invariant-note_fields-loop-field l = l.entries ++ spec.in_fields (drop l.field-index l.fields) ≡ l.fn.entries ++ spec.in_fields l.fields
