use Rattle.std.proofs.Common.{◌≡◌, false, drop}
use Rattle.emit_expr.specs.Names as spec
use Rattle.emit_expr.proofs.draft.Emitter.capture_all.Given as goal

abbrev pub invariant-loop-number : goal.invariant-loop-number
invariant-loop-number l =
    l.self.lost ≡ false → (l.fn.self.lost ≡ false) × (spec.captures l.b (drop l.number-index l.numbers) l.self ≡ spec.captures l.b l.numbers l.fn.self)
