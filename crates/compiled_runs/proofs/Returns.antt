-- `return`.
use Rattle.std.proofs.Common.{◌≡◌, ℕ, ◌≤◌, List, length, map, refl, sym, ap, arith, subst}
use Rattle.syntax_tree.specs.declared.bindings.Bindings.{Bindings}
use Rattle.syntax_tree.specs.declared.tree.Expr.{Expr}
use Rattle.syntax_tree.specs.declared.tree.Stat.{Stat}
use Rattle.syntax_tree.specs.declared.tree.StatKind.{out-StatKind}
use Rattle.syntax_tree.specs.declared.tree.ExprKind.TheOpen as level
use Rattle.syntax_tree.specs.Need.{StatNeed, need_expr, need_stat, list_need}
use Rattle.op_words.specs.declared.insn.Insn.TheVariants as i
use Rattle.emit_expr.specs.declared.draft.Emitter.{Emitter}
use Rattle.emit_expr.specs.Puts.{insn}
use Rattle.emit_laws.proofs.Keeps as keeps
use Rattle.node_code.specs.Lists.{list_run, count_of}
use Rattle.scope_laws.specs.Sight.{expr}
use Rattle.code_simulation.specs.Relation.{Setting}
use Rattle.code_simulation.proofs.Along.{CallsGo}
use Rattle.code_simulation.proofs.Statements.{return_same}
use Rattle.compiled_runs.proofs.Places.{here, before_put}
use Rattle.compiled_runs.proofs.Standing.{Script, weak}
use Rattle.compiled_runs.proofs.NodeLevels.{stat_code_of, stat_need_of}
use Rattle.compiled_runs.proofs.Nodes.{Stand, reads}
use Rattle.compiled_runs.proofs.Lists.{AllHold, codes, list_alone}
use Rattle.compiled_runs.proofs.Statements.{Does, Performs, in_statement, plain_goes}

module _ (p : Setting) (most : ℕ) (calls : (i : ℕ) → i ≤ most → CallsGo p i) (b : Bindings) (whole : Emitter) (script : Script p b whole) where
  pub return_performs : (s : Stat) (es : List Expr) → out-StatKind s.kind ≡ level.Return es → AllHold p most b whole script es
      → Performs p most b whole script s
  return_performs s es is a = subst (Does p most b whole script s) (sym (stat_code_of b s (level.Return es) is)) (record {
    declares = sym (ap (λ (n : StatNeed). n.declares) (stat_need_of s (level.Return es) is));
    goes = λ h r ps l d lp j place st around allowed.
        let cs = codes p most b whole script es in
        let d1 = list_run cs (length l) d in
        let d2 = insn (i.Return (length l) (count_of cs)) d1 in
        let needed : (need_stat s).need ≡ list_need (map need_expr es) = ap (λ (n : StatNeed). n.need) (stat_need_of s (level.Return es) is) in
        let room = st.room in
        let begun : Stand p most b whole script h r (map expr es) l d d1 (list_need (map need_expr es)) =
        record {
          at = weak p most b whole script h r (map expr es) l d
              (in_statement p most b whole script h r s (level.Return es) ps l d is st.at refl (omega arith) refl);
          inside = before_put r.final whole _ d1 st.inside;
          func = st.func;
          room = omega (arith, room, needed);
        } in
        plain_goes p most b whole script s (level.Return es) h r ps l j d d2 is (λ n. refl)
        (keeps.put _ d d1 (keeps.list_good cs (keeps.exprs_are_good b es) (length l) d d (keeps.none d))) st.at
        (return_same p most calls s es (count_of cs) h l j (here d) (here d1) (here d2) (λ c. l) is
        (list_alone p most b whole script h r es a l d begun) (reads p most b whole script h r (i.Return (length l) (count_of cs)) d1 st.inside));
  })
