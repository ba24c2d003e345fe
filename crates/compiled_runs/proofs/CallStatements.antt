-- A call as a statement.
use Rattle.std.proofs.Common.{◌≡◌, ℕ, ◌+◌, ◌≤◌, List, [], ◌∷◌, length, refl, sym, ap, arith, subst}
use Rattle.syntax_tree.specs.declared.bindings.Bindings.{Bindings}
use Rattle.syntax_tree.specs.declared.tree.Expr.{Expr}
use Rattle.syntax_tree.specs.declared.tree.ExprKind.{out-ExprKind}
use Rattle.syntax_tree.specs.declared.tree.Stat.{Stat}
use Rattle.syntax_tree.specs.declared.tree.StatKind.{out-StatKind}
use Rattle.syntax_tree.specs.declared.tree.ExprKind.TheOpen as level
use Rattle.syntax_tree.specs.Need.{StatNeed, need_expr, need_stat}
use Rattle.emit_laws.proofs.Keeps as keeps
use Rattle.node_code.specs.Nodes.{ExprCode}
use Rattle.node_code.specs.Lists.{list_run}
use Rattle.node_code.specs.Code.{expr_code, call_run, plain}
use Rattle.scope_laws.specs.Sight.{expr}
use Rattle.code_simulation.specs.Relation.{Setting}
use Rattle.code_simulation.proofs.Along.{CallsGo}
use Rattle.code_simulation.proofs.Statements.{call_stat_same}
use Rattle.emit_expr.specs.declared.draft.Emitter.{Emitter}
use Rattle.compiled_runs.proofs.Places.{here}
use Rattle.compiled_runs.proofs.Standing.{Script, weak}
use Rattle.compiled_runs.proofs.NodeLevels.{code_of, stat_code_of, stat_need_of}
use Rattle.compiled_runs.proofs.Following.{value_keeps}
use Rattle.compiled_runs.proofs.Lists.{AllHold, codes}
use Rattle.compiled_runs.proofs.Leaves.{Holds}
use Rattle.compiled_runs.proofs.Calls.{call_stands}
use Rattle.compiled_runs.proofs.Statements.{Does, Performs, in_statement, plain_goes}

module _ (p : Setting) (most : ℕ) (calls : (i : ℕ) → i ≤ most → CallsGo p i) (b : Bindings) (whole : Emitter) (script : Script p b whole) where
  call_does : (s : Stat) (e f : Expr) (args : List Expr) → out-StatKind s.kind ≡ level.StatKind::Call e
      → out-ExprKind e.kind ≡ level.ExprKind::Call f args → Holds p most calls b whole script f → AllHold p most b whole script args
      → Does p most b whole script s (plain (λ free l. call_run (expr_code b f) (codes p most b whole script args) free 1))
  call_does s e f args is kind hf a = record {
    declares = sym (ap (λ (n : StatNeed). n.declares) (stat_need_of s (level.StatKind::Call e) is));
    goes = λ h r ps l d lp j place st around allowed.
        let cs = codes p most b whole script args in
        let d1 = (expr_code b f).run (length l) 2 d in
        let d2 = list_run cs (length l + 1) d1 in
        let d3 = call_run (expr_code b f) cs (length l) 1 d in
        let needed : (need_stat s).need ≡ (need_expr e).need = ap (λ (n : StatNeed). n.need) (stat_need_of s (level.StatKind::Call e) is) in
        let room = st.room in
        let c = call_stands p most calls b whole script e f args kind hf a 1 h r [] l d (record {
          at = weak p most b whole script h r (expr e ∷ []) l d
              (in_statement p most b whole script h r s (level.StatKind::Call e) ps l d is st.at refl (omega arith) refl);
          inside = st.inside;
          func = st.func;
          room = omega (arith, room, needed);
        }) in
        plain_goes p most b whole script s (level.StatKind::Call e) h r ps l j d d3 is (λ n. refl)
        (keeps.put _ d d2 (keeps.list_good cs (keeps.exprs_are_good b args) (length l + 1) d d1 (value_keeps b f (length l) 2 d))) st.at
        (call_stat_same p most calls s e f args _ h l j (here d) (here c.callee) (here c.arguments) (here d3) is kind c.callee_runs c.arguments_run
        c.call c.room);
  }

  pub call_performs : (s : Stat) (e f : Expr) (args : List Expr) → out-StatKind s.kind ≡ level.StatKind::Call e
      → out-ExprKind e.kind ≡ level.ExprKind::Call f args → Holds p most calls b whole script f → AllHold p most b whole script args
      → Performs p most b whole script s
  call_performs s e f args is kind hf a =
      subst (Does p most b whole script s) (sym (stat_code_of b s (level.StatKind::Call e) is))
      (subst (λ (c : ExprCode). Does p most b whole script s (plain (λ free l. c.run free 1))) (sym (code_of b e (level.ExprKind::Call f args) kind))
      (call_does s e f args is kind hf a))
