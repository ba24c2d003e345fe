use Rattle.std.proofs.Common.{sym, ◌∙◌, arith}
use Rattle.node_code.proofs.Turns.{nils_next}
use Rattle.node_code.proofs.queries.emit_nils.Goals as goal

pub loop-left-preserved : goal.loop-left-preserved
loop-left-preserved c =
    record {
      room = omega arith;
      code = λ kept.
          let e = c.insn.ensures kept in
          let inv = c.loop-left.invariant.code e.0 in
          (inv.0, rw e.1 (sym (nils_next c.loop-left.at c.loop-left.left c.loop-left.code (omega arith)) ∙ inv.1));
    }
