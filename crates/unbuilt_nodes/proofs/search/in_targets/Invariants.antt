use Rattle.std.proofs.Common.{◌≡◌, map, drop}
use Rattle.unbuilt_nodes.specs.Unbuilt as unbuilt
use Rattle.unbuilt_nodes.proofs.search.in_targets.Given as goal

abbrev pub invariant-loop-target : goal.invariant-loop-target
invariant-loop-target l =
    unbuilt.targets (map (unbuilt.uses_of l.fn.names l.fn.bindings) (drop l.target-index l.targets))
    ≡ unbuilt.targets (map (unbuilt.uses_of l.fn.names l.fn.bindings) l.targets)
