-- Parts that follow one another: the first of them, those behind it, and the parts of an expression.
use Rattle.std.proofs.Common.{◌≡◌, ℕ, ◌+◌, ◌≤◌, List, ◌∷◌, length, ◌∙◌, arith, subst}
use Rattle.syntax_tree.specs.declared.bindings.Bindings.{Bindings}
use Rattle.syntax_tree.specs.declared.tree.Expr.{Expr}
use Rattle.syntax_tree.specs.declared.tree.ExprKind.{out-ExprKind}
use Rattle.syntax_tree.specs.Need as need
use Rattle.syntax_tree.specs.Need.{ExprNeed, need_expr}
use Rattle.value_model.specs.Values.{Value}
use Rattle.emit_expr.specs.declared.draft.Emitter.{Emitter}
use Rattle.emit_laws.specs.Growing.{Grows}
use Rattle.emit_laws.proofs.Grows as grows
use Rattle.emit_laws.proofs.Keeps as keeps
use Rattle.emit_laws.proofs.Keeps.{Keeps}
use Rattle.node_code.specs.Code.{expr_code}
use Rattle.node_code.specs.Nodes.{operand_run}
use Rattle.scope_laws.specs.Sight.{Part, expr, ExprLevel, expr_parts}
use Rattle.scope_laws.proofs.Levels as levels
use Rattle.code_simulation.specs.Slots.{Slot, Temp}
use Rattle.code_simulation.specs.Relation.{Setting}
use Rattle.code_simulation.proofs.Along.{Here}
use Rattle.compiled_runs.proofs.Places.{before}
use Rattle.compiled_runs.proofs.Standing as standing
use Rattle.compiled_runs.proofs.Standing.{Script}
use Rattle.compiled_runs.proofs.NodeLevels.{need_of}
use Rattle.compiled_runs.proofs.Nodes.{Runs, Stand}

-- ---- what an expression's code adds and keeps

pub value_grows : (b : Bindings) (e : Expr) (to results : ℕ) (d : Emitter) → Grows d ((expr_code b e).run to results d)
value_grows b e to results d = (grows.expr_is_good b e).run to results d d (grows.none d)

pub value_keeps : (b : Bindings) (e : Expr) (to results : ℕ) (d : Emitter) → Keeps d ((expr_code b e).run to results d)
value_keeps b e to results d = (keeps.expr_is_good b e).run to results d d (keeps.none d)

pub jump_grows : (b : Bindings) (e : Expr) (so : _) (to label : ℕ) (d : Emitter) → Grows d ((expr_code b e).jump so to label d)
jump_grows b e so to label d = (grows.expr_is_good b e).jump so to label d d (grows.none d)

pub jump_keeps : (b : Bindings) (e : Expr) (so : _) (to label : ℕ) (d : Emitter) → Keeps d ((expr_code b e).jump so to label d)
jump_keeps b e so to label d = (keeps.expr_is_good b e).jump so to label d d (keeps.none d)

pub operand_grows : (b : Bindings) (e : Expr) (to : ℕ) (d : Emitter) → Grows d (operand_run (expr_code b e) to d)
operand_grows b e to d = grows.operand_run_good (expr_code b e) (grows.expr_is_good b e) to d d (grows.none d)

pub operand_keeps : (b : Bindings) (e : Expr) (to : ℕ) (d : Emitter) → Keeps d (operand_run (expr_code b e) to d)
operand_keeps b e to d = keeps.operand_run_good (expr_code b e) (keeps.expr_is_good b e) to d d (keeps.none d)

module _ (p : Setting) (most : ℕ) (b : Bindings) (whole : Emitter) (script : Script p b whole) where
  module _ (h : Here p most) (r : Runs p most b whole script h) where
    abbrev Stands : List Part → List Slot → (d d' : Emitter) → ℕ → Type 0
    Stands ps l d d' n = Stand p most b whole script h r ps l d d' n

    -- the first part, where more is emitted behind it
    pub front : (ps : List Part) (l : List Slot) (d d1 d2 : Emitter) (n m : ℕ) → Stands ps l d d2 n → Grows d1 d2 → m ≤ n → Stands ps l d d1 m
    front ps l d d1 d2 n m s g le =
        record { at = s.at; inside = before r.final whole d1 d2 g s.inside; func = s.func; room = omega (arith, s.room, le) }

    -- the same parts, behind what is no part's
    pub later : (ps : List Part) (l : List Slot) (d d1 d2 : Emitter) (n : ℕ) → Stands ps l d d2 n → Grows d d1 → Keeps d d1 → Stands ps l d1 d2 n
    later ps l d d1 d2 n s g k = record {
      at = standing.kept p most b whole script h r ps l d d1 k s.at;
      inside = s.inside;
      func = g.func ∙ s.func;
      room = s.room;
    }

    -- behind an expression
    pub next : (e : Expr) (ps : List Part) (l : List Slot) (d d1 d2 d3 : Emitter) (n m : ℕ) → Stands (expr e ∷ ps) l d d3 n → Grows d d1 → Keeps d d1
        → Grows d2 d3 → m ≤ n → Stands ps l d1 d2 m
    next e ps l d d1 d2 d3 n m s g k g2 le = record {
      at = standing.kept p most b whole script h r ps l d d1 k (standing.next_expr p most b whole script h r e ps l d s.at);
      inside = before r.final whole d2 d3 g2 s.inside;
      func = g.func ∙ s.func;
      room = omega (arith, s.room, le);
    }

    -- behind one whose value, or another, stands in the next register
    pub above : (e : Expr) (ps : List Part) (l : List Slot) (d d1 d2 d3 : Emitter) (n m : ℕ) → Stands (expr e ∷ ps) l d d3 n → Grows d d1 → Keeps d d1
        → Grows d2 d3 → 1 + m ≤ n → (v : Value) → Stands ps (Temp v ∷ l) d1 d2 m
    above e ps l d d1 d2 d3 n m s g k g2 le v = record {
      at = standing.pushed p most b whole script h r ps l d1
          (standing.kept p most b whole script h r ps l d d1 k (standing.next_expr p most b whole script h r e ps l d s.at)) v;
      inside = before r.final whole d2 d3 g2 s.inside;
      func = g.func ∙ s.func;
      room = omega (arith, s.room, le);
    }

    -- the parts of an expression
    pub parts : (e : Expr) (x : ExprLevel) (ps : List Part) (l : List Slot) (d d' : Emitter) → out-ExprKind e.kind ≡ x
        → Stands (expr e ∷ ps) l d d' (need_expr e).need → Stands (expr_parts x) l d d' (levels.at_expr_level need.steps x).need
    parts e x ps l d d' is s = record {
      at = standing.in_expr p most b whole script h r e x ps l d is s.at;
      inside = s.inside;
      func = s.func;
      room = subst (λ (n : ExprNeed). length l + n.need ≤ h.proto.registers) (need_of e x is) s.room;
    }
