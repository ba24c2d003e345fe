use Rattle.std.proofs.Common.{◌≡◌, drop}
use Rattle.emit_expr.specs.Names as spec
use Rattle.emit_expr.proofs.names.any_captured.Given as goal

abbrev pub invariant-loop-v : goal.invariant-loop-v
invariant-loop-v l = spec.any_captured l.b l.variables ≡ spec.any_captured l.b (drop l.v-index l.variables)
