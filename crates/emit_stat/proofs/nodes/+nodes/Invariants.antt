use Rattle.std.proofs.Common.{◌≡◌, false, ◌+◌, ◌-◌, ◌*◌, ◌≤◌, max, map, drop, length}
use Rattle.syntax_tree.specs.Lists.{greatest}
use Rattle.syntax_tree.specs.Need.{need_expr, list_from, need_stat, block_from, declared_in, need_arm, need_expr_arm}
use Rattle.node_code.specs.Code as spec
use Rattle.node_code.specs.Lists as lists
use Rattle.node_code.specs.Conditions as conditions
use Rattle.emit_stat.proofs.nodes.+nodes.Given as goal

abbrev pub decreases-emit_expr : goal.decreases-emit_expr
decreases-emit_expr l = goal.size-emit_expr l * 16 + 0

abbrev pub decreases-emit_function : goal.decreases-emit_function
decreases-emit_function l = goal.size-emit_function l * 16 + 0

abbrev pub decreases-emit_stat : goal.decreases-emit_stat
decreases-emit_stat l = goal.size-emit_stat l * 16 + 5

abbrev pub decreases-emit_list : goal.decreases-emit_list
decreases-emit_list l = goal.size-emit_list l * 16 + 1

abbrev pub decreases-emit_each : goal.decreases-emit_each
decreases-emit_each l = goal.size-emit_each l * 16 + 1

abbrev pub decreases-emit_last : goal.decreases-emit_last
decreases-emit_last l = goal.size-emit_last l * 16 + 1

abbrev pub decreases-emit_exact : goal.decreases-emit_exact
decreases-emit_exact l = goal.size-emit_exact l * 16 + 2

abbrev pub decreases-emit_operand : goal.decreases-emit_operand
decreases-emit_operand l = goal.size-emit_operand l * 16 + 1

abbrev pub decreases-emit_operate : goal.decreases-emit_operate
decreases-emit_operate l = goal.size-emit_operate l * 16 + 2

abbrev pub decreases-emit_jump : goal.decreases-emit_jump
decreases-emit_jump l = goal.size-emit_jump l * 16 + 2

abbrev pub decreases-emit_choices : goal.decreases-emit_choices
decreases-emit_choices l = goal.size-emit_choices l * 16 + 4

abbrev pub decreases-emit_stats : goal.decreases-emit_stats
decreases-emit_stats l = goal.size-emit_stats l * 16 + 6

abbrev pub decreases-emit_body : goal.decreases-emit_body
decreases-emit_body l = goal.size-emit_body l * 16 + 6

abbrev pub decreases-emit_block : goal.decreases-emit_block
decreases-emit_block l = goal.size-emit_block l * 16 + 7

abbrev pub decreases-emit_turn : goal.decreases-emit_turn
decreases-emit_turn l = goal.size-emit_turn l * 16 + 8

abbrev pub decreases-emit_turns : goal.decreases-emit_turns
decreases-emit_turns l = goal.size-emit_turns l * 16 + 4

abbrev pub decreases-emit_arms : goal.decreases-emit_arms
decreases-emit_arms l = goal.size-emit_arms l * 16 + 9

abbrev pub decreases-emit_copied : goal.decreases-emit_copied
decreases-emit_copied l = goal.size-emit_copied l * 16 + 2

abbrev pub decreases-emit_step : goal.decreases-emit_step
decreases-emit_step l = goal.size-emit_step l * 16 + 3

abbrev pub decreases-emit_joined : goal.decreases-emit_joined
decreases-emit_joined l = goal.size-emit_joined l * 16 + 1

abbrev pub decreases-emit_operated : goal.decreases-emit_operated
decreases-emit_operated l = goal.size-emit_operated l * 16 + 3

abbrev pub decreases-emit_update_own : goal.decreases-emit_update_own
decreases-emit_update_own l = goal.size-emit_update_own l * 16 + 3

abbrev pub decreases-emit_update : goal.decreases-emit_update
decreases-emit_update l = goal.size-emit_update l * 16 + 4

abbrev pub invariant-emit_list-loop-i : goal.invariant-emit_list-loop-i
invariant-emit_list-loop-i l = record {
  place : l.at ≡ l.to + l.i;
  small : l.at ≤ 251;
  room : l.to + list_from l.i (map need_expr (drop l.i l.list)) ≤ 250;
  code : l.code.lost ≡ false → (l.fn.code.lost ≡ false) × (lists.list_run (map (spec.expr_code l.b) (drop l.i l.list)) l.at l.code ≡ lists.list_run (map (spec.expr_code l.b) l.list) l.to l.fn.code);
}

abbrev pub invariant-emit_each-loop-i : goal.invariant-emit_each-loop-i
invariant-emit_each-loop-i l = record {
  place : l.at ≡ l.to + l.i;
  small : l.at ≤ 251;
  room : l.to + list_from l.i (map need_expr (drop l.i l.list)) ≤ 250;
  code : l.code.lost ≡ false → (l.fn.code.lost ≡ false) × (lists.each_run (map (spec.expr_code l.b) (drop l.i l.list)) l.at l.code ≡ lists.each_run (map (spec.expr_code l.b) l.list) l.to l.fn.code);
}

abbrev pub invariant-emit_exact-loop-i : goal.invariant-emit_exact-loop-i
invariant-emit_exact-loop-i l = record {
  place : l.at ≤ l.to + l.i;
  count : l.at + l.left ≤ 250;
  room : l.to + list_from l.i (map need_expr (drop l.i l.list)) ≤ 250;
  code : l.code.lost ≡ false → (l.fn.code.lost ≡ false) × (lists.exact_run (map (spec.expr_code l.b) (drop l.i l.list)) l.at l.left l.code ≡ lists.exact_run (map (spec.expr_code l.b) l.list) l.to l.count l.fn.code);
}

abbrev pub invariant-emit_choices-loop-arm : goal.invariant-emit_choices-loop-arm
invariant-emit_choices-loop-arm l = record {
  room : l.to + greatest (map need_expr_arm (drop l.arm-index l.arms)) ≤ 250;
  code : l.code.lost ≡ false → (l.fn.code.lost ≡ false) × (conditions.choices_run (map (spec.choice_code l.b) (drop l.arm-index l.arms)) l.node l.to l.code ≡ conditions.choices_run (map (spec.choice_code l.b) l.arms) l.node l.to l.fn.code);
}

abbrev pub invariant-emit_stats-loop-stat : goal.invariant-emit_stats-loop-stat
invariant-emit_stats-loop-stat l = record {
  place : l.at ≡ l.free + l.declared;
  small : l.at ≤ 250;
  room : l.free + block_from l.declared (map need_stat (drop l.stat-index l.block)) ≤ 250;
  code : l.code.lost ≡ false → (l.fn.code.lost ≡ false) × (spec.stats_run (map (spec.stat_code l.b) (drop l.stat-index l.block)) l.at l.around l.code ≡ spec.stats_run (map (spec.stat_code l.b) l.block) l.free l.around l.fn.code);
}

abbrev pub invariant-emit_body-loop-stat : goal.invariant-emit_body-loop-stat
invariant-emit_body-loop-stat l = record {
  place : l.at ≡ l.free + l.declared;
  small : l.at ≤ 250;
  room : l.free + block_from l.declared (map need_stat (drop l.stat-index l.block)) ≤ 250;
  declared : l.at + spec.declared (map (spec.stat_code l.b) (drop l.stat-index l.block)) ≡ l.free + spec.declared (map (spec.stat_code l.b) l.block);
  held : l.at + declared_in (map need_stat (drop l.stat-index l.block)) ≡ l.free + declared_in (map need_stat l.block);
  code : l.code.lost ≡ false → (l.fn.code.lost ≡ false) × (spec.body_run (map (spec.stat_code l.b) (drop l.stat-index l.block)) l.at l.around l.code ≡ spec.body_run (map (spec.stat_code l.b) l.block) l.free l.around l.fn.code);
}

abbrev pub invariant-emit_arms-loop-i : goal.invariant-emit_arms-loop-i
invariant-emit_arms-loop-i l = record {
  room : l.free + greatest (map need_arm (drop l.i l.arms)) ≤ 250;
  code : l.code.lost ≡ false → (l.fn.code.lost ≡ false) × (spec.arms_run l.b l.other (map (spec.arm_code l.b) (drop l.i l.arms)) l.node l.free l.around l.code ≡ spec.arms_run l.b l.other (map (spec.arm_code l.b) l.arms) l.node l.free l.around l.fn.code);
}

abbrev pub decreases-emit_pass : goal.decreases-emit_pass
decreases-emit_pass l = goal.size-emit_pass l * 16 + 7

abbrev pub decreases-emit_choice : goal.decreases-emit_choice
decreases-emit_choice l = goal.size-emit_choice l * 16 + 3

abbrev pub decreases-emit_arm : goal.decreases-emit_arm
decreases-emit_arm l = goal.size-emit_arm l * 16 + 8
