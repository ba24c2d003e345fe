use Rattle.std.proofs.Common.{◌≡◌, false, map, drop}
use Rattle.node_code.specs.Code as spec
use Rattle.node_code.specs.Lists as lists
use Rattle.node_code.proofs.queries.count_of.Given as goal

abbrev pub invariant-loop-e : goal.invariant-loop-e
invariant-loop-e l =
    lists.last_from l.many (map (spec.expr_code l.b) (drop l.e-index l.list)) ≡ lists.last_from false (map (spec.expr_code l.b) l.list)
