use Rattle.std.proofs.Common.{sym, ◌∙◌, arith}
use Rattle.emit_expr.proofs.Lists.{declare_next}
use Rattle.emit_expr.proofs.draft.Emitter.declare_all.Goals as goal

pub loop-left-preserved : goal.loop-left-preserved
loop-left-preserved c =
    record {
      room = omega arith;
      code = λ kept.
          let e = c.declare.ensures kept in
          let inv = c.loop-left.invariant.code e.0 in
          (inv.0, rw (c.saturating_add-number.ensures, e.1) (sym (declare_next c.loop-left.number c.loop-left.at c.loop-left.left c.loop-left.self (omega arith)) ∙ inv.1));
    }
