use Rattle.std.proofs.Common.{◌≡◌, ◌+◌, ◌≤◌, false, map, drop, length}
use Rattle.node_code.specs.Code as spec
use Rattle.node_code.specs.Lists as lists
use Rattle.node_code.proofs.queries.assign_all.Given as goal

abbrev pub invariant-loop-target : goal.invariant-loop-target
invariant-loop-target l = record {
  room : l.at + length (drop l.target-index l.targets) ≤ 250;
  code : l.code.lost ≡ false → (l.fn.code.lost ≡ false) × (lists.assign_all l.b (map (spec.expr_code l.b) (drop l.target-index l.targets)) l.at l.code ≡ lists.assign_all l.b (map (spec.expr_code l.b) l.targets) l.from l.fn.code);
}
