use Rattle.std.proofs.Common.{sym, ◌∙◌, arith}
use Rattle.node_code.specs.Code as spec
use Rattle.emit_stat.proofs.Rooms.{list_room}
use Rattle.node_code.proofs.Turns.{exact_next, behind_place, behind_count}
use Rattle.emit_stat.proofs.nodes.+nodes.Goals as goal

pub emit_exact-loop-i-preserved : goal.emit_exact-loop-i-preserved
emit_exact-loop-i-preserved t c =
    let inv = c.loop-i.invariant in
    record {
      place = let p = behind_place c.loop-i.at c.loop-i.left _ inv.place in rw c.behind-at.ensures (omega (arith, p));
      count = let p = behind_count c.loop-i.at c.loop-i.left 250 inv.count in rw (c.behind-at.ensures, c.saturating_sub-left.ensures) p;
      room = list_room c.args.to c.loop-i.i 250 c.args.list.now c.index-list-i.result (omega arith) c.index-list-i.is inv.room;
      code = λ kept.
          let e = c.emit_expr.ensures kept in
          let before = inv.code e.0 in
          let turn = exact_next (spec.expr_code c.args.b.now) c.args.list.now c.loop-i.i c.index-list-i.result c.loop-i.at c.loop-i.left c.loop-i.code (omega arith) c.index-list-i.is in
          let so = sym turn ∙ before.1 in
          (before.0, rw (c.behind-at.ensures, c.saturating_sub-left.ensures, e.1) so);
    }
