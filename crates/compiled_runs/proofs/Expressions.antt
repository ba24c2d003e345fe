-- Each expression all of whose nodes are built does what its code does: by induction over the tree.
use Rattle.std.proofs.Common.{◌≡◌, ℕ, ◌≤◌, Bool, true, false, ◌&&◌, List, [], ◌∷◌, map, rules, refl, sym, ap, ◌∙◌}
use Rattle.syntax_tree.specs.declared.bindings.Bindings.{Bindings}
use Rattle.syntax_tree.specs.declared.tree.BinOp.TheVariants as op
use Rattle.syntax_tree.specs.declared.tree.UnOp.TheVariants as unary
use Rattle.syntax_tree.specs.declared.tree.Expr.{Expr}
use Rattle.syntax_tree.specs.declared.tree.ExprArm.{ExprArm}
use Rattle.syntax_tree.specs.declared.tree.ExprKind.{ExprKind, out-ExprKind, roll-ExprKind}
use Rattle.syntax_tree.specs.declared.tree.ExprKind.TheFolds as folds
use Rattle.syntax_tree.specs.declared.tree.ExprKind.TheViews as views
use Rattle.syntax_tree.specs.declared.tree.ExprKind.TheOpen as level
use Rattle.syntax_tree.specs.Proper.{all}
use Rattle.value_model.specs.declared.operator.ArithOp.TheVariants as arith_op
use Rattle.value_model.specs.declared.operator.CompareOp.TheVariants as compare_op
use Rattle.value_model.specs.Choices.{Compare}
use Rattle.emit_expr.specs.declared.draft.Emitter.{Emitter}
use Rattle.emit_laws.specs.Induction as induction
use Rattle.emit_laws.specs.Induction.{With}
use Rattle.scope_laws.specs.Sight.{ExprLevel}
use Rattle.scope_laws.proofs.Levels as levels
use Rattle.code_simulation.specs.Relation.{Setting}
use Rattle.code_simulation.proofs.Along.{CallsGo}
use Rattle.compiled_runs.specs.Built as built
use Rattle.compiled_runs.specs.Built.{built_expr, built_expr_arm}
use Rattle.compiled_runs.proofs.Standing.{Script}
use Rattle.compiled_runs.proofs.Leaves as leaves
use Rattle.compiled_runs.proofs.Leaves.{Holds}
use Rattle.compiled_runs.proofs.Lists.{AllHold}
use Rattle.compiled_runs.proofs.Parentheses.{false_true, vararg_holds, paren_holds}
use Rattle.compiled_runs.proofs.Operators as operators
use Rattle.compiled_runs.proofs.Logic.{and_holds, or_holds}
use Rattle.compiled_runs.proofs.Comparisons as comparisons
use Rattle.compiled_runs.proofs.Concats.{concat_holds}
use Rattle.compiled_runs.proofs.Calls.{call_holds}
use Rattle.compiled_runs.proofs.Choices.{ArmsHold, if_holds}
use Rattle.compiled_runs.proofs.Functions.{FunctionsCoded, function_holds}

pub both_true : (s t : Bool) → (s && t) ≡ true → (s ≡ true) × (t ≡ true)
both_true true t e = (refl, e)
both_true false t e = absurd (false_true e)

out_roll : (x : ExprLevel) → out-ExprKind (roll-ExprKind x) ≡ x
out_roll x = search (rules, folds.the_lemmas, views.the_lemmas)

module _ (p : Setting) (most : ℕ) (calls : (i : ℕ) → i ≤ most → CallsGo p i) (b : Bindings) (whole : Emitter) (script : Script p b whole)
    (coded : FunctionsCoded p most b whole script) where
  abbrev Does : Expr → Type 0
  Does e = Holds p most calls b whole script e

  -- ---- what is shown of each node

  abbrev kind_ok : ExprKind → Type 0
  kind_ok k = (e : Expr) → e.kind ≡ k → levels.at_kind built.steps k ≡ true → Does e

  abbrev expr_ok : Expr → Type 0
  expr_ok e = built_expr e ≡ true → Does e

  abbrev choice_ok : ExprArm → Type 0
  choice_ok a = built_expr_arm a ≡ true → Does a.cond × Does a.value

  abbrev none : {A : Type 0} → A → Type 0
  none a = Unit {0}

  abbrev KindWith : Type 0
  KindWith = induction.kind_with kind_ok (λ _. Unit {0}) (λ _. Unit {0}) (λ _. Unit {0}) expr_ok choice_ok (λ _. Unit {0}) (λ _. Unit {0}) (λ _. Unit {0})

  abbrev kind_parts : KindWith → ExprLevel
  kind_parts y =
      induction.kind_parts kind_ok (λ _. Unit {0}) (λ _. Unit {0}) (λ _. Unit {0}) expr_ok choice_ok (λ _. Unit {0}) (λ _. Unit {0}) (λ _. Unit {0}) y

  all_hold : (es : List (With expr_ok)) → all (map built_expr (map (λ z. z.0) es)) ≡ true → AllHold p most b whole script (map (λ z. z.0) es)
  all_hold [] t = tt
  all_hold (e ∷ es) t =
      let s = both_true (built_expr e.0) (all (map built_expr (map (λ z. z.0) es))) t in (e.1 s.0, all_hold es s.1)

  arms_hold : (arms : List (With choice_ok)) → all (map built_expr_arm (map (λ z. z.0) arms)) ≡ true
      → ArmsHold p most calls b whole script (map (λ z. z.0) arms)
  arms_hold [] t = tt
  arms_hold (a ∷ arms) t =
      let s = both_true (built_expr_arm a.0) (all (map built_expr_arm (map (λ z. z.0) arms))) t in (a.1 s.0, arms_hold arms s.1)

  arithmetic : (o : _) (a : _) → operators.IsArithmetic o a → (e : Expr) (x y : With expr_ok) → out-ExprKind e.kind ≡ level.Binary o x.0 y.0
      → (built_expr x.0 && built_expr y.0) ≡ true → Does e
  arithmetic o a ar e x y is t =
      let s = both_true (built_expr x.0) (built_expr y.0) t in
      operators.arithmetic_holds p most calls b whole script o a ar e x.0 y.0 is (x.1 s.0) (y.1 s.1)

  comparison : (o : _) (operation : _) (opposite : Bool) → comparisons.IsComparison p most o operation opposite → (e : Expr) (x y : With expr_ok)
      → out-ExprKind e.kind ≡ level.Binary o x.0 y.0 → (built_expr x.0 && built_expr y.0) ≡ true → Does e
  comparison o operation opposite c e x y is t =
      let s = both_true (built_expr x.0) (built_expr y.0) t in
      comparisons.comparison_holds p most calls b whole script o operation opposite c e x.0 y.0 is (x.1 s.0) (y.1 s.1)

  by_kind : (y : KindWith) (e : Expr) → out-ExprKind e.kind ≡ kind_parts y → levels.at_expr_level built.steps (kind_parts y) ≡ true → Does e
  by_kind level.Nil e is t = leaves.nil_holds p most calls b whole script e is
  by_kind level.True e is t = leaves.true_holds p most calls b whole script e is
  by_kind level.False e is t = leaves.false_holds p most calls b whole script e is
  by_kind (level.Num n) e is t = leaves.number_holds p most calls b whole script e n is
  by_kind (level.Str x) e is t = leaves.text_holds p most calls b whole script e x is
  by_kind level.Vararg e is t = vararg_holds p most calls b whole script e is
  by_kind (level.Name x) e is t = leaves.name_holds p most calls b whole script e x is
  by_kind (level.Paren x) e is t = paren_holds p most calls b whole script e x.0 is (x.1 t)
  by_kind (level.Unary unary.Not x) e is t = operators.not_holds p most calls b whole script e x.0 (x.1 t) is
  by_kind (level.Unary unary.Len x) e is t = operators.length_holds p most calls b whole script e x.0 (x.1 t) is
  by_kind (level.Unary unary.Minus x) e is t = operators.minus_holds p most calls b whole script e x.0 (x.1 t) is
  by_kind (level.Binary op.And x y) e is t =
      let s = both_true (built_expr x.0) (built_expr y.0) t in and_holds p most calls b whole script e x.0 y.0 (x.1 s.0) (y.1 s.1) is
  by_kind (level.Binary op.Or x y) e is t =
      let s = both_true (built_expr x.0) (built_expr y.0) t in or_holds p most calls b whole script e x.0 y.0 (x.1 s.0) (y.1 s.1) is
  by_kind (level.Binary op.Lt x y) e is t = comparison op.Lt (Compare compare_op.Lt) false (comparisons.lt_is p most) e x y is t
  by_kind (level.Binary op.Gt x y) e is t = comparison op.Gt (λ v u. Compare compare_op.Lt u v) false (comparisons.gt_is p most) e x y is t
  by_kind (level.Binary op.Le x y) e is t = comparison op.Le (Compare compare_op.Le) false (comparisons.le_is p most) e x y is t
  by_kind (level.Binary op.Ge x y) e is t = comparison op.Ge (λ v u. Compare compare_op.Le u v) false (comparisons.ge_is p most) e x y is t
  by_kind (level.Binary op.Ne x y) e is t = comparison op.Ne (Compare compare_op.Eq) true (comparisons.ne_is p most) e x y is t
  by_kind (level.Binary op.Eq x y) e is t = comparison op.Eq (Compare compare_op.Eq) false (comparisons.eq_is p most) e x y is t
  by_kind (level.Binary op.Concat x y) e is t = absurd (false_true t)
  by_kind (level.Binary op.Add x y) e is t = arithmetic op.Add arith_op.Add operators.add_is e x y is t
  by_kind (level.Binary op.Sub x y) e is t = arithmetic op.Sub arith_op.Sub operators.sub_is e x y is t
  by_kind (level.Binary op.Mul x y) e is t = arithmetic op.Mul arith_op.Mul operators.mul_is e x y is t
  by_kind (level.Binary op.Div x y) e is t = arithmetic op.Div arith_op.Div operators.div_is e x y is t
  by_kind (level.Binary op.Idiv x y) e is t = arithmetic op.Idiv arith_op.Idiv operators.idiv_is e x y is t
  by_kind (level.Binary op.Mod x y) e is t = arithmetic op.Mod arith_op.Mod operators.mod_is e x y is t
  by_kind (level.Binary op.Pow x y) e is t = arithmetic op.Pow arith_op.Pow operators.pow_is e x y is t
  by_kind (level.Concat []) e is t = absurd (false_true t)
  by_kind (level.Concat (x ∷ es)) e is t = concat_holds p most calls b whole script e x.0 (map (λ z. z.0) es) is (all_hold (x ∷ es) t)
  by_kind (level.ExprKind::Call f args) e is t =
      let s = both_true (built_expr f.0) (all (map built_expr (map (λ z. z.0) args))) t in
      call_holds p most calls b whole script e f.0 (map (λ z. z.0) args) is (f.1 s.0) (all_hold args s.1)
  by_kind (level.Function f) e is t = function_holds p most calls b whole script coded e f.0 is
  by_kind (level.ExprKind::If arms other) e is t =
      let s = both_true (all (map built_expr_arm (map (λ z. z.0) arms))) (built_expr other.0) t in
      if_holds p most calls b whole script e (map (λ z. z.0) arms) other.0 is (arms_hold arms s.0) (other.1 s.1)
  by_kind (level.Index x y) e is t = absurd (false_true t)
  by_kind (level.Member x n) e is t = absurd (false_true t)
  by_kind (level.Method x n args) e is t = absurd (false_true t)
  by_kind (level.Table fs) e is t = absurd (false_true t)
  by_kind (level.Interp xs es) e is t = absurd (false_true t)

  -- ---- the induction

  every : induction.Steps kind_ok (λ _. Unit {0}) (λ _. Unit {0}) (λ _. Unit {0}) expr_ok choice_ok (λ _. Unit {0}) (λ _. Unit {0}) (λ _. Unit {0})
  every = record {
    kind = λ y e is t. by_kind y e (ap out-ExprKind is ∙ out_roll (kind_parts y)) (sym (levels.rolled_expr built.steps (kind_parts y)) ∙ t);
    field_kind = λ y. tt;
    stat_kind = λ y. tt;
    arm = λ y. tt;
    expr = λ y t. y.kind.1 _ refl (sym (levels.expr_is built.steps _) ∙ t);
    expr_arm = λ y t.
        let s = both_true (built_expr y.cond.0) (built_expr y.value.0) (sym (levels.expr_arm_is built.steps _) ∙ t) in
        (y.cond.1 s.0, y.value.1 s.1);
    field = λ y. tt;
    func = λ y. tt;
    stat = λ y. tt;
  }

  pub built_holds : (e : Expr) → built_expr e ≡ true → Holds p most calls b whole script e
  built_holds =
      induction.all_expr kind_ok (λ _. Unit {0}) (λ _. Unit {0}) (λ _. Unit {0}) expr_ok choice_ok (λ _. Unit {0}) (λ _. Unit {0}) (λ _. Unit {0}) every
