-- Runs of `..`.
use Rattle.std.proofs.Common.{◌≡◌, ℕ, suc, ◌+◌, ◌-◌, ◌≤◌, List, [], ◌∷◌, ◌++◌, length, map, refl, sym, ap, arith, subst}
use Rattle.std.proofs.lemmas.List.{length-map}
use Rattle.syntax_tree.specs.declared.bindings.Bindings.{Bindings}
use Rattle.syntax_tree.specs.declared.tree.Expr.{Expr}
use Rattle.syntax_tree.specs.declared.tree.ExprKind.{out-ExprKind}
use Rattle.syntax_tree.specs.declared.tree.ExprKind.TheOpen as level
use Rattle.syntax_tree.specs.Need.{need_expr, list_need}
use Rattle.value_model.specs.Values.{Value}
use Rattle.emit_expr.specs.declared.draft.Emitter.{Emitter}
use Rattle.emit_expr.specs.Puts.{insn}
use Rattle.emit_laws.specs.Growing.{Grows}
use Rattle.emit_laws.proofs.Grows as grows
use Rattle.node_code.specs.Lists.{each_run}
use Rattle.node_code.specs.Conditions.{concat_insn, concat_run}
use Rattle.node_code.specs.Code.{expr_code}
use Rattle.scope_laws.specs.Sight.{Part, expr}
use Rattle.code_simulation.specs.Slots.{Slot, temps}
use Rattle.code_simulation.specs.Relation.{Setting}
use Rattle.code_simulation.proofs.Along.{CallsGo, Here}
use Rattle.code_simulation.proofs.Parts.{ExprRuns}
use Rattle.code_simulation.proofs.Registers.{temps_append}
use Rattle.code_simulation.proofs.Concats.{OperandsRun, operands_none, operands_more, concat_same}
use Rattle.compiled_runs.proofs.Places.{here}
use Rattle.compiled_runs.proofs.Standing.{Script}
use Rattle.compiled_runs.proofs.NodeLevels.{code_of}
use Rattle.compiled_runs.proofs.Nodes.{Runs, Stand, reads, As}
use Rattle.compiled_runs.proofs.Following.{front, above, parts, value_grows, value_keeps}
use Rattle.compiled_runs.proofs.Lists.{AllHold, codes, need_first, need_rest}
use Rattle.compiled_runs.proofs.Leaves.{Holds, single_as}

module _ (p : Setting) (most : ℕ) (calls : (i : ℕ) → i ≤ most → CallsGo p i) (b : Bindings) (whole : Emitter) (script : Script p b whole) where
  each_grows : (es : List Expr) (at : ℕ) (d : Emitter) → Grows d (each_run (codes p most b whole script es) at d)
  each_grows es at d = grows.each_good (codes p most b whole script es) (grows.exprs_are_good b es) at d d (grows.none d)

  module _ (h : Here p most) (r : Runs p most b whole script h) where
    abbrev Stands : List Part → List Slot → (d d' : Emitter) → ℕ → Type 0
    Stands ps l d d' n = Stand p most b whole script h r ps l d d' n

    value_at : (e : Expr) → As p most b whole script e (expr_code b e) → (ps : List Part) (l : List Slot) (at : ℕ) (d : Emitter) → length l ≡ at
        → Stands (expr e ∷ ps) l d ((expr_code b e).run at 2 d) (need_expr e).need → ExprRuns p most e h l (here d) (here ((expr_code b e).run at 2 d))
    value_at e a ps l at d is =
        subst (λ m. Stands (expr e ∷ ps) l d ((expr_code b e).run m 2 d) (need_expr e).need
        → ExprRuns p most e h l (here d) (here ((expr_code b e).run m 2 d))) is (a.value h r ps l d)

    -- the rest of the operands, in the registers behind those that are there
    operands_run : (es : List Expr) → AllHold p most b whole script es → (us : List Value) (l : List Slot) (at : ℕ) (d : Emitter)
        → length (temps us l) ≡ at → Stands (map expr es) (temps us l) d (each_run (codes p most b whole script es) at d) (list_need (map need_expr es))
        → OperandsRun p most calls es h l us (here d) (here (each_run (codes p most b whole script es) at d))
    operands_run [] a us l at d is s = operands_none p most calls h l us (here d)
    operands_run (e ∷ []) a us l at d is s =
        let d1 = (expr_code b e).run at 2 d in
        operands_more p most calls e [] h l us (here d) (here d1) (here d1)
        (value_at e a.0 [] (temps us l) at d is
        (front p most b whole script h r (expr e ∷ []) (temps us l) d d1 d1 _ (need_expr e).need s (grows.none d1) (need_first (need_expr e) [])))
        (λ v. operands_none p most calls h l (us ++ v ∷ []) (here d1))
    operands_run (e ∷ f ∷ es) a us l at d is s =
        let d1 = (expr_code b e).run at 2 d in
        let d2 = each_run (codes p most b whole script (f ∷ es)) (at + 1) d1 in
        let m = list_need (map need_expr (f ∷ es)) in
        operands_more p most calls e (f ∷ es) h l us (here d) (here d1) (here d2)
        (value_at e a.0 (map expr (f ∷ es)) (temps us l) at d is
        (front p most b whole script h r (expr e ∷ map expr (f ∷ es)) (temps us l) d d1 d2 _ (need_expr e).need s
        (each_grows (f ∷ es) (at + 1) d1) (need_first (need_expr e) (map need_expr (f ∷ es)))))
        (λ v.
        let more = temps_append us (v ∷ []) l in
        let size : length (temps (us ++ v ∷ []) l) ≡ suc (length (temps us l)) = ap length more in
        operands_run (f ∷ es) a.1 (us ++ v ∷ []) l (at + 1) d1 (omega (arith, size, is))
        (subst (λ sl. Stands (map expr (f ∷ es)) sl d1 d2 m) (sym more)
        (above p most b whole script h r e (map expr (f ∷ es)) (temps us l) d d1 d2 d2 _ m s (value_grows b e at 2 d) (value_keeps b e at 2 d)
        (grows.none d2) (need_rest (need_expr e) (need_expr f) (map need_expr es)) v)))

  pub concat_holds : (e x : Expr) (es : List Expr) → out-ExprKind e.kind ≡ level.Concat (x ∷ es) → AllHold p most b whole script (x ∷ es)
      → Holds p most calls b whole script e
  concat_holds e x es is a = subst (As p most b whole script e) (sym (code_of b e (level.Concat (x ∷ es)) is))
      (single_as p most calls b whole script e (level.Concat (x ∷ es)) (concat_run (codes p most b whole script (x ∷ es))) is refl
      (λ h r ps l d s.
      let cs = codes p most b whole script (x ∷ es) in
      let d1 = each_run cs (length l) d in
      let d2 = insn (concat_insn cs (length l)) d1 in
      let s1 = parts p most b whole script h r e (level.Concat (x ∷ es)) ps l d d2 is s in
      let size = length-map es (expr_code b) in
      concat_same p most calls e (x ∷ es) (length es) (length l + length cs - 1) h l (here d) (here d1) (here d2) is refl (omega (arith, size))
      (operands_run h r (x ∷ es) a [] l (length l) d refl
      (front p most b whole script h r (map expr (x ∷ es)) l d d1 d2 _ (list_need (map need_expr (x ∷ es))) s1 (grows.put _ d1 d1 (grows.none d1))
      (omega arith)))
      (reads p most b whole script h r (concat_insn cs (length l)) d1 s.inside) (omega (arith, s.room))))
