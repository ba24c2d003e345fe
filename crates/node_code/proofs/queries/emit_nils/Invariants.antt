use Rattle.std.proofs.Common.{◌≡◌, ◌+◌, ◌≤◌, false}
use Rattle.node_code.specs.Lists as lists
use Rattle.node_code.proofs.queries.emit_nils.Given as goal

abbrev pub invariant-loop-left : goal.invariant-loop-left
invariant-loop-left l = record {
  room : l.at + l.left ≤ 251;
  code : l.code.lost ≡ false → (l.fn.code.lost ≡ false) × (lists.nils l.at l.left l.code ≡ lists.nils l.to l.count l.fn.code);
}

abbrev pub decreases-loop-left : goal.decreases-loop-left
decreases-loop-left l = l.left
