use Rattle.std.proofs.Common.{◌≡◌, ◌+◌, drop}
use Rattle.emit_expr.specs.Names as spec
use Rattle.emit_expr.proofs.names.place_in.Given as goal

abbrev pub invariant-loop-i : goal.invariant-loop-i
invariant-loop-i l = spec.place_in l.number l.list ≡ l.i + spec.place_in l.number (drop l.i l.list)
