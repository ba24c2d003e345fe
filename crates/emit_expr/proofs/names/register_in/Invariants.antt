use Rattle.std.proofs.Common.{◌≡◌, drop}
use Rattle.emit_expr.specs.Names as spec
use Rattle.emit_expr.proofs.names.register_in.Given as goal

abbrev pub invariant-loop-v : goal.invariant-loop-v
invariant-loop-v l = spec.register_in l.number l.variables ≡ spec.register_in l.number (drop l.v-index l.variables)
