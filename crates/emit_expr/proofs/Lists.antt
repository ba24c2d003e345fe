-- One turn of the loops.
use Rattle.std.proofs.Common.{◌≡◌, ℕ, zero, suc, ◌+◌, ◌-◌, ◌<◌, refl, arith}
use Rattle.emit_expr.specs.declared.draft.Emitter.{Emitter}
use Rattle.emit_expr.specs.Puts.{declare}
use Rattle.emit_expr.specs.Names.{declare_all, next_number}

pub declare_next : (number register n : ℕ) (d : Emitter) → 0 < n → declare_all number register n d ≡ declare_all (next_number number) (register + 1) (n - 1) (declare number register d)
declare_next number register zero d lt = absurd (omega arith)
declare_next number register (suc n) d lt = let e : suc n - 1 ≡ n = omega arith in rw e refl
