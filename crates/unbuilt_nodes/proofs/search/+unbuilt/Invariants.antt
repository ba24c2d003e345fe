use Rattle.std.proofs.Common.{◌≡◌, map, drop}
use Rattle.unbuilt_nodes.specs.Unbuilt as unbuilt
use Rattle.unbuilt_nodes.proofs.search.+unbuilt.Given as goal

abbrev pub invariant-in_block-loop-stat : goal.invariant-in_block-loop-stat
invariant-in_block-loop-stat l =
    unbuilt.block (map (unbuilt.unbuilt_in_stat l.fn.names l.fn.bindings) (drop l.stat-index l.block))
    ≡ unbuilt.block (map (unbuilt.unbuilt_in_stat l.fn.names l.fn.bindings) l.block)

abbrev pub invariant-in_arms-loop-arm : goal.invariant-in_arms-loop-arm
invariant-in_arms-loop-arm l =
    unbuilt.block (map (unbuilt.unbuilt_in_arm l.fn.names l.fn.bindings) (drop l.arm-index l.arms))
    ≡ unbuilt.block (map (unbuilt.unbuilt_in_arm l.fn.names l.fn.bindings) l.arms)

abbrev pub invariant-in_expr_arms-loop-arm : goal.invariant-in_expr_arms-loop-arm
invariant-in_expr_arms-loop-arm l =
    unbuilt.block (map (unbuilt.unbuilt_in_expr_arm l.fn.names l.fn.bindings) (drop l.arm-index l.arms))
    ≡ unbuilt.block (map (unbuilt.unbuilt_in_expr_arm l.fn.names l.fn.bindings) l.arms)

abbrev pub invariant-in_values-loop-value : goal.invariant-in_values-loop-value
invariant-in_values-loop-value l =
    unbuilt.values (map (unbuilt.uses_of l.fn.names l.fn.bindings) (drop l.value-index l.values))
    ≡ unbuilt.values (map (unbuilt.uses_of l.fn.names l.fn.bindings) l.values)
