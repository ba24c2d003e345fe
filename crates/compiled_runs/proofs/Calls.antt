-- Calls of functions, with any number of arguments.
use Rattle.std.proofs.Common.{◌≡◌, ℕ, suc, ◌+◌, ◌≤◌, true, List, ◌∷◌, length, map, None, sym, arith, subst}
use Rattle.syntax_tree.specs.declared.bindings.Bindings.{Bindings}
use Rattle.syntax_tree.specs.declared.tree.Expr.{Expr}
use Rattle.syntax_tree.specs.declared.tree.ExprKind.{out-ExprKind}
use Rattle.syntax_tree.specs.declared.tree.ExprKind.TheOpen as level
use Rattle.syntax_tree.specs.Need.{need_expr, list_need}
use Rattle.value_model.specs.Values.{Value}
use Rattle.op_words.specs.declared.insn.Insn.TheVariants as i
use Rattle.emit_expr.specs.declared.draft.Emitter.{Emitter}
use Rattle.emit_expr.specs.Puts.{insn}
use Rattle.emit_laws.proofs.Grows as grows
use Rattle.node_code.specs.Nodes.{ExprCode, NoTarget}
use Rattle.node_code.specs.Lists.{list_run, count_of}
use Rattle.node_code.specs.Code.{expr_code, call_run}
use Rattle.scope_laws.specs.Sight.{Part, expr}
use Rattle.code_simulation.specs.Slots.{Slot, Temp}
use Rattle.code_simulation.specs.Relation.{Setting}
use Rattle.code_simulation.proofs.Along.{CallsGo, Here, Reads}
use Rattle.code_simulation.proofs.Parts.{ExprRuns, ListRuns}
use Rattle.code_simulation.proofs.Calls.{call_same, call_all}
use Rattle.compiled_runs.proofs.Places.{here}
use Rattle.compiled_runs.proofs.Scopes.{some_none}
use Rattle.compiled_runs.proofs.Standing.{Script}
use Rattle.compiled_runs.proofs.NodeLevels.{code_of}
use Rattle.compiled_runs.proofs.Nodes.{Runs, Stand, reads, As, made_as}
use Rattle.compiled_runs.proofs.Following.{front, above, parts, value_grows, value_keeps}
use Rattle.compiled_runs.proofs.Lists.{AllHold, codes, list_grows, list_alone}
use Rattle.compiled_runs.proofs.Leaves.{Holds}
use Rattle.compiled_runs.proofs.Parentheses.{true_false}

module _ (p : Setting) (most : ℕ) (calls : (i : ℕ) → i ≤ most → CallsGo p i) (b : Bindings) (whole : Emitter) (script : Script p b whole) where
  module _ (e f : Expr) (args : List Expr) (is : out-ExprKind e.kind ≡ level.ExprKind::Call f args) (hf : Holds p most calls b whole script f)
      (a : AllHold p most b whole script args) where
    abbrev cs : List ExprCode
    cs = codes p most b whole script args

    -- the callee and its arguments, and the instruction that calls
    pub record CallStands (h : Here p most) (l : List Slot) (results : ℕ) (d d3 : Emitter) : Type 0 where
      pub callee : Emitter
      pub arguments : Emitter
      pub callee_runs : ExprRuns p most f h l (here d) (here callee)
      pub arguments_run : (v : Value) → ListRuns p most args h (Temp v ∷ l) (here callee) (here arguments) (count_of cs) (λ vs. vs)
      pub call : Reads p most h (here arguments) (i.Call (length l) (count_of cs) results) (here d3)
      pub room : length l ≤ h.proto.registers

    pub call_stands : (results : ℕ) (h : Here p most) (r : Runs p most b whole script h) (ps : List Part) (l : List Slot) (d : Emitter)
        → Stand p most b whole script h r (expr e ∷ ps) l d (call_run (expr_code b f) cs (length l) results d) (need_expr e).need
        → CallStands h l results d (call_run (expr_code b f) cs (length l) results d)
    call_stands results h r ps l d s =
        let d1 = (expr_code b f).run (length l) 2 d in
        let d2 = list_run cs (length l + 1) d1 in
        let call = i.Call (length l) (count_of cs) results in
        let d3 = insn call d2 in
        let s1 = parts p most b whole script h r e (level.ExprKind::Call f args) ps l d d3 is s in
        let g = grows.put _ d2 d2 (grows.none d2) in
        let one : suc (length l) ≡ length l + 1 = omega arith in
        record {
          callee = d1;
          arguments = d2;
          callee_runs = hf.value h r (map expr args) l d
              (front p most b whole script h r (expr f ∷ map expr args) l d d1 d3 _ (need_expr f).need s1
              (grows.after d1 d2 d3 (list_grows p most b whole script args (length l + 1) d1) g) (omega arith));
          arguments_run = λ v.
              subst (λ m. Stand p most b whole script h r (map expr args) (Temp v ∷ l) d1 (list_run cs m d1) (list_need (map need_expr args))
              → ListRuns p most args h (Temp v ∷ l) (here d1) (here (list_run cs m d1)) (count_of cs) (λ vs. vs)) one
              (list_alone p most b whole script h r args a (Temp v ∷ l) d1)
              (above p most b whole script h r f (map expr args) l d d1 d2 d3 _ (list_need (map need_expr args)) s1
              (value_grows b f (length l) 2 d) (value_keeps b f (length l) 2 d) g (omega arith) v);
          call = reads p most b whole script h r call d2 s.inside;
          room = omega (arith, s.room);
        }

    pub call_holds : Holds p most calls b whole script e
    call_holds = subst (As p most b whole script e) (sym (code_of b e (level.ExprKind::Call f args) is))
        (made_as p most b whole script e e.id true None NoTarget (call_run (expr_code b f) cs)
        (λ h r ps l d s.
        let c = call_stands 2 h r ps l d s in
        call_same p most calls e f args (count_of cs) h l (here d) (here c.callee) (here c.arguments) _ is c.callee_runs c.arguments_run c.call c.room)
        (λ m results h r ps l d s.
        let c = call_stands results h r ps l d s in
        call_all p most calls e f args (count_of cs) results h l (here d) (here c.callee) (here c.arguments) _ is c.callee_runs c.arguments_run c.call
        c.room)
        (λ m. absurd (true_false m)) (λ m. absurd (true_false m)) (λ n m. some_none m))
