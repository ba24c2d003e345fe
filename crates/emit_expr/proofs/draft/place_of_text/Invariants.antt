use Rattle.std.proofs.Common.{◌≡◌, ◌+◌, drop}
use Rattle.emit_expr.specs.Puts as spec
use Rattle.emit_expr.proofs.draft.place_of_text.Given as goal

abbrev pub invariant-loop-i : goal.invariant-loop-i
invariant-loop-i l = spec.place_of_text l.text l.list ≡ l.i + spec.place_of_text l.text (drop l.i l.list)
