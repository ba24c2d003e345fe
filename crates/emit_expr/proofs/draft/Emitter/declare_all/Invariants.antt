use Rattle.std.proofs.Common.{◌≡◌, ◌+◌, ◌≤◌, false}
use Rattle.emit_expr.specs.Names as spec
use Rattle.emit_expr.proofs.draft.Emitter.declare_all.Given as goal

abbrev pub invariant-loop-left : goal.invariant-loop-left
invariant-loop-left l = record {
  room : l.at + l.left ≤ 250;
  code : l.self.lost ≡ false → (l.fn.self.lost ≡ false) × (spec.declare_all l.number l.at l.left l.self ≡ spec.declare_all l.fn.number l.register l.count l.fn.self);
}

abbrev pub decreases-loop-left : goal.decreases-loop-left
decreases-loop-left l = l.left
