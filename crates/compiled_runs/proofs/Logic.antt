-- `and` and `or`, as values and as conditions.
use Rattle.std.proofs.Common.{◌≡◌, ℕ, ◌≤◌, pos, true, false, [], ◌∷◌, length, refl, sym, arith, subst}
use Rattle.syntax_tree.specs.declared.bindings.Bindings.{Bindings}
use Rattle.syntax_tree.specs.declared.tree.BinOp.TheVariants as op
use Rattle.syntax_tree.specs.declared.tree.Expr.{Expr}
use Rattle.syntax_tree.specs.declared.tree.ExprKind.{out-ExprKind}
use Rattle.syntax_tree.specs.declared.tree.ExprKind.TheOpen as level
use Rattle.syntax_tree.specs.Need.{need_expr}
use Rattle.op_words.specs.declared.insn.Insn.TheVariants as i
use Rattle.emit_expr.specs.declared.draft.Emitter.{Emitter}
use Rattle.emit_expr.specs.Puts.{label, branch, place}
use Rattle.emit_laws.proofs.Grows as grows
use Rattle.emit_laws.proofs.Keeps as keeps
use Rattle.node_code.specs.Nodes.{ExprCode}
use Rattle.node_code.specs.Conditions.{and_run, or_run, and_jump, or_jump}
use Rattle.node_code.specs.Code.{expr_code}
use Rattle.scope_laws.specs.Sight.{expr}
use Rattle.code_simulation.specs.Relation.{Setting}
use Rattle.code_simulation.proofs.Along.{CallsGo}
use Rattle.code_simulation.proofs.Parts.{ExprRuns, CondRuns}
use Rattle.code_simulation.proofs.Conditions.{and_same, or_same, cond_and, cond_or}
use Rattle.compiled_runs.proofs.Places.{here, before, before_put, here_place, rises, label_read}
use Rattle.compiled_runs.proofs.Standing.{Script}
use Rattle.compiled_runs.proofs.NodeLevels.{code_of}
use Rattle.compiled_runs.proofs.Nodes.{As, ValueRuns, jump_at}
use Rattle.compiled_runs.proofs.Following.{front, next, parts, value_grows, value_keeps, jump_grows, jump_keeps}
use Rattle.compiled_runs.proofs.Leaves.{Holds}
use Rattle.compiled_runs.proofs.Parentheses.{JumpRuns, decided_as}

module _ (p : Setting) (most : ℕ) (calls : (i : ℕ) → i ≤ most → CallsGo p i) (b : Bindings) (whole : Emitter) (script : Script p b whole) where
  module _ (e x y : Expr) (hx : Holds p most calls b whole script x) (hy : Holds p most calls b whole script y) where
    abbrev cx : ExprCode
    cx = expr_code b x

    abbrev cy : ExprCode
    cy = expr_code b y

    -- ---- values

    and_value : out-ExprKind e.kind ≡ level.Binary op.And x y → ValueRuns p most b whole script e (λ to results. and_run cx cy e.id to)
    and_value is h r ps l d s =
        let end = label e.id 0 in
        let d1 = cx.run (length l) 2 d in
        let d2 = branch (i.JumpIfNot (length l) (pos 0)) end d1 in
        let d3 = cy.run (length l) 2 d2 in
        let d4 = place end d3 in
        let s1 = parts p most b whole script h r e (level.Binary op.And x y) ps l d d4 is s in
        let g = value_grows b y (length l) 2 d2 in
        let j = jump_at p most b whole script h r (i.JumpIfNot (length l) (pos 0)) end d1
        (before r.final whole d2 d3 g (before_put r.final whole _ d3 s.inside)) in
        subst (λ n. ExprRuns p most e h l (here d) n) (sym (here_place end d3))
        (and_same p most e x y j.by h l (here d) (here d1) (here d2) (here d3) is
        (hx.value h r (expr y ∷ []) l d
        (front p most b whole script h r (expr x ∷ expr y ∷ []) l d d1 d4 _ (need_expr x).need s1
        (grows.put _ d1 d3 (grows.after d1 d2 d3 (grows.put _ d1 d1 (grows.none d1)) g)) (omega arith)))
        j.reads (j.on (here d3) (label_read r.final whole h.proto.code r.read end d3 s.inside) (rises d2 d3 g))
        (hy.value h r [] l d2
        (next p most b whole script h r x (expr y ∷ []) l d d2 d3 d4 _ (need_expr y).need s1
        (grows.put _ d d1 (value_grows b x (length l) 2 d)) (keeps.put _ d d1 (value_keeps b x (length l) 2 d))
        (grows.put _ d3 d3 (grows.none d3)) (omega arith))))

    or_value : out-ExprKind e.kind ≡ level.Binary op.Or x y → ValueRuns p most b whole script e (λ to results. or_run cx cy e.id to)
    or_value is h r ps l d s =
        let end = label e.id 0 in
        let d1 = cx.run (length l) 2 d in
        let d2 = branch (i.JumpIf (length l) (pos 0)) end d1 in
        let d3 = cy.run (length l) 2 d2 in
        let d4 = place end d3 in
        let s1 = parts p most b whole script h r e (level.Binary op.Or x y) ps l d d4 is s in
        let g = value_grows b y (length l) 2 d2 in
        let j = jump_at p most b whole script h r (i.JumpIf (length l) (pos 0)) end d1
        (before r.final whole d2 d3 g (before_put r.final whole _ d3 s.inside)) in
        subst (λ n. ExprRuns p most e h l (here d) n) (sym (here_place end d3))
        (or_same p most e x y j.by h l (here d) (here d1) (here d2) (here d3) is
        (hx.value h r (expr y ∷ []) l d
        (front p most b whole script h r (expr x ∷ expr y ∷ []) l d d1 d4 _ (need_expr x).need s1
        (grows.put _ d1 d3 (grows.after d1 d2 d3 (grows.put _ d1 d1 (grows.none d1)) g)) (omega arith)))
        j.reads (j.on (here d3) (label_read r.final whole h.proto.code r.read end d3 s.inside) (rises d2 d3 g))
        (hy.value h r [] l d2
        (next p most b whole script h r x (expr y ∷ []) l d d2 d3 d4 _ (need_expr y).need s1
        (grows.put _ d d1 (value_grows b x (length l) 2 d)) (keeps.put _ d d1 (value_keeps b x (length l) 2 d))
        (grows.put _ d3 d3 (grows.none d3)) (omega arith))))

    -- ---- conditions

    and_cond : out-ExprKind e.kind ≡ level.Binary op.And x y → JumpRuns p most b whole script e (and_jump cx cy e.id)
    and_cond is true h r ps l d to target s placed le =
        let own = label e.id 0 in
        let d1 = cx.jump false (length l) own d in
        let d2 = cy.jump true (length l) to d1 in
        let d3 = place own d2 in
        let s1 = parts p most b whole script h r e (level.Binary op.And x y) ps l d d3 is s in
        let g = jump_grows b y true (length l) to d1 in
        let same = here_place own d2 in
        subst (λ n. CondRuns p most e h l (here d) target n) (sym same)
        (cond_and p most e x y h l (here d) (here d1) target (here d2) is
        (hx.cond false h r (expr y ∷ []) l d own (here d2)
        (front p most b whole script h r (expr x ∷ expr y ∷ []) l d d1 d3 _ (need_expr x).need s1 (grows.put _ d1 d2 g) (omega arith))
        (label_read r.final whole h.proto.code r.read own d2 s.inside) (rises d1 d2 g))
        (hy.cond true h r [] l d1 to target
        (next p most b whole script h r x (expr y ∷ []) l d d1 d2 d3 _ (need_expr y).need s1
        (jump_grows b x false (length l) own d) (jump_keeps b x false (length l) own d) (grows.put _ d2 d2 (grows.none d2)) (omega arith))
        placed (omega (arith, le, same))))
    and_cond is false h r ps l d to target s placed le =
        let d1 = cx.jump false (length l) to d in
        let d2 = cy.jump false (length l) to d1 in
        let s1 = parts p most b whole script h r e (level.Binary op.And x y) ps l d d2 is s in
        let g = jump_grows b y false (length l) to d1 in
        let up = rises d1 d2 g in
        cond_and p most e x y h l (here d) (here d1) (here d2) target is
        (hx.cond false h r (expr y ∷ []) l d to target
        (front p most b whole script h r (expr x ∷ expr y ∷ []) l d d1 d2 _ (need_expr x).need s1 g (omega arith))
        placed (omega (arith, le, up)))
        (hy.cond false h r [] l d1 to target
        (next p most b whole script h r x (expr y ∷ []) l d d1 d2 d2 _ (need_expr y).need s1
        (jump_grows b x false (length l) to d) (jump_keeps b x false (length l) to d) (grows.none d2) (omega arith))
        placed le)

    or_cond : out-ExprKind e.kind ≡ level.Binary op.Or x y → JumpRuns p most b whole script e (or_jump cx cy e.id)
    or_cond is true h r ps l d to target s placed le =
        let d1 = cx.jump true (length l) to d in
        let d2 = cy.jump true (length l) to d1 in
        let s1 = parts p most b whole script h r e (level.Binary op.Or x y) ps l d d2 is s in
        let g = jump_grows b y true (length l) to d1 in
        let up = rises d1 d2 g in
        cond_or p most e x y h l (here d) (here d1) target (here d2) is
        (hx.cond true h r (expr y ∷ []) l d to target
        (front p most b whole script h r (expr x ∷ expr y ∷ []) l d d1 d2 _ (need_expr x).need s1 g (omega arith))
        placed (omega (arith, le, up)))
        (hy.cond true h r [] l d1 to target
        (next p most b whole script h r x (expr y ∷ []) l d d1 d2 d2 _ (need_expr y).need s1
        (jump_grows b x true (length l) to d) (jump_keeps b x true (length l) to d) (grows.none d2) (omega arith))
        placed le)
    or_cond is false h r ps l d to target s placed le =
        let own = label e.id 0 in
        let d1 = cx.jump true (length l) own d in
        let d2 = cy.jump false (length l) to d1 in
        let d3 = place own d2 in
        let s1 = parts p most b whole script h r e (level.Binary op.Or x y) ps l d d3 is s in
        let g = jump_grows b y false (length l) to d1 in
        let same = here_place own d2 in
        subst (λ n. CondRuns p most e h l (here d) n target) (sym same)
        (cond_or p most e x y h l (here d) (here d1) (here d2) target is
        (hx.cond true h r (expr y ∷ []) l d own (here d2)
        (front p most b whole script h r (expr x ∷ expr y ∷ []) l d d1 d3 _ (need_expr x).need s1 (grows.put _ d1 d2 g) (omega arith))
        (label_read r.final whole h.proto.code r.read own d2 s.inside) (rises d1 d2 g))
        (hy.cond false h r [] l d1 to target
        (next p most b whole script h r x (expr y ∷ []) l d d1 d2 d3 _ (need_expr y).need s1
        (jump_grows b x true (length l) own d) (jump_keeps b x true (length l) own d) (grows.put _ d2 d2 (grows.none d2)) (omega arith))
        placed (omega (arith, le, same))))

    pub and_holds : out-ExprKind e.kind ≡ level.Binary op.And x y → Holds p most calls b whole script e
    and_holds is = subst (As p most b whole script e) (sym (code_of b e (level.Binary op.And x y) is))
        (decided_as p most b whole script e (level.Binary op.And x y) (and_run cx cy e.id) (and_jump cx cy e.id) is refl (and_value is) (and_cond is))

    pub or_holds : out-ExprKind e.kind ≡ level.Binary op.Or x y → Holds p most calls b whole script e
    or_holds is = subst (As p most b whole script e) (sym (code_of b e (level.Binary op.Or x y) is))
        (decided_as p most b whole script e (level.Binary op.Or x y) (or_run cx cy e.id) (or_jump cx cy e.id) is refl (or_value is) (or_cond is))
