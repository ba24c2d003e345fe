-- What the fold of proper trees says of a node.
use Rattle.std.proofs.Common.{◌≡◌, ℕ, zero, suc, ◌+◌, ◌≤◌, Bool, true, false, ◌&&◌, IsTrue, List, [], ◌∷◌, length, map, Some, slice_get, refl, sym, ap, subst, ◌∙◌, arith, rules, true≢false}
use Rattle.std.proofs.lemmas.Option.{same_Some, none-some}
use Rattle.syntax_tree.specs.declared.tree.Arm.{Arm}
use Rattle.syntax_tree.specs.declared.tree.BinOp.{BinOp}
use Rattle.syntax_tree.specs.declared.tree.Expr.{Expr, out-Expr}
use Rattle.syntax_tree.specs.declared.tree.ExprArm.{ExprArm}
use Rattle.syntax_tree.specs.declared.tree.ExprKind.{ExprKind, out-ExprKind, roll-ExprKind}
use Rattle.syntax_tree.specs.declared.tree.ExprKind as expr
use Rattle.syntax_tree.specs.declared.tree.ExprKind.TheFolds as folds
use Rattle.syntax_tree.specs.declared.tree.ExprKind.TheOpen as level
use Rattle.syntax_tree.specs.declared.tree.ExprKind.TheOpen.{ExprKind-F, StatKind-F}
use Rattle.syntax_tree.specs.declared.tree.ExprKind.TheViews as views
use Rattle.syntax_tree.specs.declared.tree.Field.{Field}
use Rattle.syntax_tree.specs.declared.tree.FieldKind.{FieldKind}
use Rattle.syntax_tree.specs.declared.tree.FuncBody.{FuncBody}
use Rattle.syntax_tree.specs.declared.tree.Stat.{Stat, out-Stat}
use Rattle.syntax_tree.specs.declared.tree.StatKind.{StatKind, out-StatKind, roll-StatKind}
use Rattle.syntax_tree.specs.declared.tree.StatKind as stat
use Rattle.syntax_tree.specs.Proper.{Form, all_targets, all_proper, has_one, has_two, computes, stands_between, kind_form, stat_kind_proper, steps, form_expr, proper_stat, proper_func, proper_arm, proper_expr_arm, proper_field, IsCall, function_call, method_call, IsTarget, name, index, member, ProperNodes}

-- ---- a node by its parts

abbrev ExprNode : Type 0
ExprNode = ExprKind-F ExprKind FieldKind StatKind Arm Expr ExprArm Field FuncBody Stat

abbrev StatNode : Type 0
StatNode = StatKind-F ExprKind FieldKind StatKind Arm Expr ExprArm Field FuncBody Stat

abbrev at_kind : ExprKind → Form
at_kind =
    folds.fold-ExprKind Form Bool Bool Bool Form Bool Bool Bool Bool steps.kind steps.field_kind steps.stat_kind steps.arm steps.expr
    steps.expr_arm steps.field steps.func steps.stat

abbrev at_field_kind : FieldKind → Bool
at_field_kind =
    folds.fold-FieldKind Form Bool Bool Bool Form Bool Bool Bool Bool steps.kind steps.field_kind steps.stat_kind steps.arm steps.expr
    steps.expr_arm steps.field steps.func steps.stat

abbrev at_stat_kind : StatKind → Bool
at_stat_kind =
    folds.fold-StatKind Form Bool Bool Bool Form Bool Bool Bool Bool steps.kind steps.field_kind steps.stat_kind steps.arm steps.expr
    steps.expr_arm steps.field steps.func steps.stat

abbrev kind_level : ExprNode → ExprKind-F Form Bool Bool Bool Form Bool Bool Bool Bool
kind_level =
    folds.map-ExprKind ExprKind FieldKind StatKind Arm Expr ExprArm Field FuncBody Stat Form Bool Bool Bool Form Bool Bool Bool Bool at_kind
    at_field_kind at_stat_kind proper_arm form_expr proper_expr_arm proper_field proper_func proper_stat

abbrev stat_level : StatNode → StatKind-F Form Bool Bool Bool Form Bool Bool Bool Bool
stat_level =
    folds.map-StatKind ExprKind FieldKind StatKind Arm Expr ExprArm Field FuncBody Stat Form Bool Bool Bool Form Bool Bool Bool Bool at_kind
    at_field_kind at_stat_kind proper_arm form_expr proper_expr_arm proper_field proper_func proper_stat

rolled : (e : Expr) → roll-ExprKind (out-ExprKind e.kind) ≡ e.kind
rolled e = search (rules, folds.the_lemmas, views.the_lemmas)

form_is : (e : Expr) (x : ExprNode) → out-ExprKind e.kind ≡ x → form_expr e ≡ kind_form (kind_level x)
form_is e x h =
    folds.fold-roll-Expr Form Bool Bool Bool Form Bool Bool Bool Bool steps.kind steps.field_kind steps.stat_kind steps.arm steps.expr
    steps.expr_arm steps.field steps.func steps.stat (out-Expr e)
    ∙ ap at_kind (sym (rolled e) ∙ ap roll-ExprKind h)
    ∙ folds.fold-roll-ExprKind Form Bool Bool Bool Form Bool Bool Bool Bool steps.kind steps.field_kind steps.stat_kind steps.arm steps.expr
    steps.expr_arm steps.field steps.func steps.stat x

stat_is : (t : Stat) (x : StatNode) → out-StatKind t.kind ≡ x → proper_stat t ≡ stat_kind_proper (stat_level x)
stat_is t x h =
    let same : roll-StatKind (out-StatKind t.kind) ≡ t.kind = search (rules, folds.the_lemmas, views.the_lemmas) in
    folds.fold-roll-Stat Form Bool Bool Bool Form Bool Bool Bool Bool steps.kind steps.field_kind steps.stat_kind steps.arm steps.expr
    steps.expr_arm steps.field steps.func steps.stat (out-Stat t)
    ∙ ap at_stat_kind (sym same ∙ ap roll-StatKind h)
    ∙ folds.fold-roll-StatKind Form Bool Bool Bool Form Bool Bool Bool Bool steps.kind steps.field_kind steps.stat_kind steps.arm steps.expr
    steps.expr_arm steps.field steps.func steps.stat x

left : (a b : Bool) → IsTrue (a && b) → IsTrue a
left true b h = refl
left false b h = h

right : (a b : Bool) → IsTrue (a && b) → IsTrue b
right true b h = h
right false b h = absurd (true≢false (sym h))

-- ---- calls and targets

call_by : (e : Expr) (x : ExprNode) → roll-ExprKind x ≡ e.kind → IsTrue (kind_form (kind_level x)).calls → IsCall e
call_by e (level.ExprKind::Call callee args) h c = function_call callee args (sym h ∙ views.rolls-ExprKind::Call callee args)
call_by e (level.Method object x args) h c = method_call object x args (sym h ∙ views.rolls-Method object x args)
call_by e _ h c = absurd (true≢false (sym c))

target_by : (e : Expr) (x : ExprNode) → roll-ExprKind x ≡ e.kind → IsTrue (kind_form (kind_level x)).target → IsTarget e
target_by e (level.Name x) h c = name x (sym h ∙ views.rolls-Name x)
target_by e (level.Index table key) h c = index table key (sym h ∙ views.rolls-Index table key)
target_by e (level.Member table x) h c = member table x (sym h ∙ views.rolls-Member table x)
target_by e _ h c = absurd (true≢false (sym c))

is_call : (e : Expr) → IsTrue (form_expr e).calls → IsCall e
is_call e h = call_by e (out-ExprKind e.kind) (rolled e) (subst (λ (f : Form). IsTrue f.calls) (form_is e (out-ExprKind e.kind) refl) h)

is_target : (e : Expr) → IsTrue (form_expr e).target → IsTarget e
is_target e h = target_by e (out-ExprKind e.kind) (rolled e) (subst (λ (f : Form). IsTrue f.target) (form_is e (out-ExprKind e.kind) refl) h)

each_target : (es : List Expr) → IsTrue (all_targets (map form_expr es)) → (k : ℕ) (e : Expr) → slice_get es k ≡ Some e → IsTarget e
each_target [] h k e there = absurd (none-some e there)
each_target (x ∷ es) h zero e there =
    subst IsTarget (same_Some x e there) (is_target x (left (form_expr x).target (all_targets (map form_expr es)) h))
each_target (x ∷ es) h (suc k) e there = each_target es (right (form_expr x).target (all_targets (map form_expr es)) h) k e there

two : (es : List Expr) → IsTrue (has_two (map form_expr es)) → 2 ≤ length es
two [] h = absurd (true≢false (sym h))
two (a ∷ []) h = absurd (true≢false (sym h))
two (a ∷ b ∷ es) h = omega arith

-- ---- the nodes

pub proper_nodes : ProperNodes
proper_nodes = record {
  call = λ s e h p.
      let told = sym (stat_is s (level.StatKind::Call e) (ap out-StatKind h ∙ views.outs-StatKind::Call e)) ∙ p in
      is_call e (left (form_expr e).calls (form_expr e).proper told);
  assigned = λ s ts vs h p k e there.
      let told = sym (stat_is s (level.Assign ts vs) (ap out-StatKind h ∙ views.outs-Assign ts vs)) ∙ p in
      let front = left (has_one (map form_expr ts) && all_targets (map form_expr ts)) (all_proper (map form_expr ts)) (left _ (has_one (map form_expr vs)) (left _ (all_proper (map form_expr vs)) told)) in
      each_target ts (right (has_one (map form_expr ts)) (all_targets (map form_expr ts)) front) k e there;
  compound = λ s o t v h p.
      let told = sym (stat_is s (level.Compound o t v) (ap out-StatKind h ∙ views.outs-Compound o t v)) ∙ p in
      let front = left (computes o && (form_expr t).target) (form_expr t).proper (left _ (form_expr v).proper told) in (
        is_target t (right (computes o) (form_expr t).target front),
        left (computes o) (form_expr t).target front,
      );
  run = λ e es h p.
      let told = ap (λ (f : Form). f.proper) (sym (form_is e (level.Concat es) (ap out-ExprKind h ∙ views.outs-Concat es))) ∙ p in
      two es (left (has_two (map form_expr es)) (all_proper (map form_expr es)) told);
  between = λ e o a b h p.
      let told = ap (λ (f : Form). f.proper) (sym (form_is e (level.Binary o a b) (ap out-ExprKind h ∙ views.outs-Binary o a b))) ∙ p in
      left (stands_between o) (form_expr a).proper (left _ (form_expr b).proper told);
}
