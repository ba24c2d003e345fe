-- The faults of the sizes of a part of the tree, by those of its parts.
use Rattle.std.proofs.Common.{◌≡◌, ◌∙◌, List, sym, ap, rules}
use Rattle.syntax_tree.specs.declared.bindings.Bindings.{Bindings}
use Rattle.syntax_tree.specs.declared.fault.ScopeFault.{ScopeFault}
use Rattle.syntax_tree.specs.declared.tree.ExprKind.{ExprKind, roll-ExprKind, out-ExprKind}
use Rattle.syntax_tree.specs.declared.tree.FieldKind.{FieldKind}
use Rattle.syntax_tree.specs.declared.tree.StatKind.{StatKind, roll-StatKind, out-StatKind}
use Rattle.syntax_tree.specs.declared.tree.Arm.{Arm, roll-Arm, out-Arm}
use Rattle.syntax_tree.specs.declared.tree.Expr.{Expr, roll-Expr, out-Expr}
use Rattle.syntax_tree.specs.declared.tree.ExprArm.{ExprArm, roll-ExprArm, out-ExprArm}
use Rattle.syntax_tree.specs.declared.tree.Field.{Field}
use Rattle.syntax_tree.specs.declared.tree.FuncBody.{FuncBody, roll-FuncBody, out-FuncBody}
use Rattle.syntax_tree.specs.declared.tree.Stat.{Stat, roll-Stat, out-Stat}
use Rattle.syntax_tree.specs.declared.tree.ExprKind.TheFolds as folds
use Rattle.syntax_tree.specs.declared.tree.ExprKind.TheOpen.{ExprKind-F, StatKind-F, Arm-F, Expr-F, ExprArm-F, FuncBody-F, Stat-F}
use Rattle.syntax_tree.specs.declared.tree.ExprKind.TheViews as views
use Rattle.syntax_tree.specs.Sizes as spec

module _ (b : Bindings) where
  abbrev F : Type 0
  F = List ScopeFault

  abbrev pub sizes_kind : ExprKind → List ScopeFault
  sizes_kind = folds.para-ExprKind F F F F F F F F F (spec.kind_sizes b) (spec.field_kind_sizes b) (spec.stat_kind_sizes b) (spec.arm_sizes b)
      (spec.expr_sizes b) (spec.expr_arm_sizes b) (spec.field_sizes b) (spec.func_sizes b) (spec.stat_sizes b)

  abbrev pub sizes_field_kind : FieldKind → List ScopeFault
  sizes_field_kind = folds.para-FieldKind F F F F F F F F F (spec.kind_sizes b) (spec.field_kind_sizes b) (spec.stat_kind_sizes b) (spec.arm_sizes b)
      (spec.expr_sizes b) (spec.expr_arm_sizes b) (spec.field_sizes b) (spec.func_sizes b) (spec.stat_sizes b)

  abbrev pub sizes_stat_kind : StatKind → List ScopeFault
  sizes_stat_kind = folds.para-StatKind F F F F F F F F F (spec.kind_sizes b) (spec.field_kind_sizes b) (spec.stat_kind_sizes b) (spec.arm_sizes b)
      (spec.expr_sizes b) (spec.expr_arm_sizes b) (spec.field_sizes b) (spec.func_sizes b) (spec.stat_sizes b)

  abbrev pub sizes_arm : Arm → List ScopeFault
  sizes_arm = folds.para-Arm F F F F F F F F F (spec.kind_sizes b) (spec.field_kind_sizes b) (spec.stat_kind_sizes b) (spec.arm_sizes b)
      (spec.expr_sizes b) (spec.expr_arm_sizes b) (spec.field_sizes b) (spec.func_sizes b) (spec.stat_sizes b)

  abbrev pub sizes_expr : Expr → List ScopeFault
  sizes_expr = folds.para-Expr F F F F F F F F F (spec.kind_sizes b) (spec.field_kind_sizes b) (spec.stat_kind_sizes b) (spec.arm_sizes b)
      (spec.expr_sizes b) (spec.expr_arm_sizes b) (spec.field_sizes b) (spec.func_sizes b) (spec.stat_sizes b)

  abbrev pub sizes_expr_arm : ExprArm → List ScopeFault
  sizes_expr_arm = folds.para-ExprArm F F F F F F F F F (spec.kind_sizes b) (spec.field_kind_sizes b) (spec.stat_kind_sizes b) (spec.arm_sizes b)
      (spec.expr_sizes b) (spec.expr_arm_sizes b) (spec.field_sizes b) (spec.func_sizes b) (spec.stat_sizes b)

  abbrev pub sizes_field : Field → List ScopeFault
  sizes_field = folds.para-Field F F F F F F F F F (spec.kind_sizes b) (spec.field_kind_sizes b) (spec.stat_kind_sizes b) (spec.arm_sizes b)
      (spec.expr_sizes b) (spec.expr_arm_sizes b) (spec.field_sizes b) (spec.func_sizes b) (spec.stat_sizes b)

  abbrev pub sizes_func : FuncBody → List ScopeFault
  sizes_func = folds.para-FuncBody F F F F F F F F F (spec.kind_sizes b) (spec.field_kind_sizes b) (spec.stat_kind_sizes b) (spec.arm_sizes b)
      (spec.expr_sizes b) (spec.expr_arm_sizes b) (spec.field_sizes b) (spec.func_sizes b) (spec.stat_sizes b)

  abbrev pub sizes_stat : Stat → List ScopeFault
  sizes_stat = folds.para-Stat F F F F F F F F F (spec.kind_sizes b) (spec.field_kind_sizes b) (spec.stat_kind_sizes b) (spec.arm_sizes b)
      (spec.expr_sizes b) (spec.expr_arm_sizes b) (spec.field_sizes b) (spec.func_sizes b) (spec.stat_sizes b)

  -- at a level
  abbrev pub kind_level : ExprKind-F ExprKind FieldKind StatKind Arm Expr ExprArm Field FuncBody Stat → List ScopeFault
  kind_level l = spec.kind_sizes b (folds.map-ExprKind ExprKind FieldKind StatKind Arm Expr ExprArm Field FuncBody Stat (spec.With ExprKind)
      (spec.With FieldKind) (spec.With StatKind) (spec.With Arm) (spec.With Expr) (spec.With ExprArm) (spec.With Field) (spec.With FuncBody)
      (spec.With Stat) (λ t. (t, sizes_kind t)) (λ t. (t, sizes_field_kind t)) (λ t. (t, sizes_stat_kind t)) (λ t. (t, sizes_arm t))
      (λ t. (t, sizes_expr t)) (λ t. (t, sizes_expr_arm t)) (λ t. (t, sizes_field t)) (λ t. (t, sizes_func t)) (λ t. (t, sizes_stat t)) l)

  pub kind_is : (t : ExprKind) → sizes_kind t ≡ kind_level (out-ExprKind t)
  kind_is t =
      let same : roll-ExprKind (out-ExprKind t) ≡ t = search (rules, folds.the_lemmas, views.the_lemmas) in
      ap sizes_kind (sym same) ∙ folds.para-roll-ExprKind F F F F F F F F F (spec.kind_sizes b) (spec.field_kind_sizes b) (spec.stat_kind_sizes b)
      (spec.arm_sizes b) (spec.expr_sizes b) (spec.expr_arm_sizes b) (spec.field_sizes b) (spec.func_sizes b) (spec.stat_sizes b) (out-ExprKind t)

  abbrev pub stat_kind_level : StatKind-F ExprKind FieldKind StatKind Arm Expr ExprArm Field FuncBody Stat → List ScopeFault
  stat_kind_level l = spec.stat_kind_sizes b (folds.map-StatKind ExprKind FieldKind StatKind Arm Expr ExprArm Field FuncBody Stat
      (spec.With ExprKind) (spec.With FieldKind) (spec.With StatKind) (spec.With Arm) (spec.With Expr) (spec.With ExprArm) (spec.With Field)
      (spec.With FuncBody) (spec.With Stat) (λ t. (t, sizes_kind t)) (λ t. (t, sizes_field_kind t)) (λ t. (t, sizes_stat_kind t))
      (λ t. (t, sizes_arm t)) (λ t. (t, sizes_expr t)) (λ t. (t, sizes_expr_arm t)) (λ t. (t, sizes_field t)) (λ t. (t, sizes_func t))
      (λ t. (t, sizes_stat t)) l)

  pub stat_kind_is : (t : StatKind) → sizes_stat_kind t ≡ stat_kind_level (out-StatKind t)
  stat_kind_is t =
      let same : roll-StatKind (out-StatKind t) ≡ t = search (rules, folds.the_lemmas, views.the_lemmas) in
      ap sizes_stat_kind (sym same) ∙ folds.para-roll-StatKind F F F F F F F F F (spec.kind_sizes b) (spec.field_kind_sizes b)
      (spec.stat_kind_sizes b) (spec.arm_sizes b) (spec.expr_sizes b) (spec.expr_arm_sizes b) (spec.field_sizes b) (spec.func_sizes b)
      (spec.stat_sizes b) (out-StatKind t)

  abbrev pub arm_level : Arm-F ExprKind FieldKind StatKind Arm Expr ExprArm Field FuncBody Stat → List ScopeFault
  arm_level l = spec.arm_sizes b (folds.map-Arm ExprKind FieldKind StatKind Arm Expr ExprArm Field FuncBody Stat (spec.With ExprKind)
      (spec.With FieldKind) (spec.With StatKind) (spec.With Arm) (spec.With Expr) (spec.With ExprArm) (spec.With Field) (spec.With FuncBody)
      (spec.With Stat) (λ t. (t, sizes_kind t)) (λ t. (t, sizes_field_kind t)) (λ t. (t, sizes_stat_kind t)) (λ t. (t, sizes_arm t))
      (λ t. (t, sizes_expr t)) (λ t. (t, sizes_expr_arm t)) (λ t. (t, sizes_field t)) (λ t. (t, sizes_func t)) (λ t. (t, sizes_stat t)) l)

  pub arm_is : (t : Arm) → sizes_arm t ≡ arm_level (out-Arm t)
  arm_is t =
      let same : roll-Arm (out-Arm t) ≡ t = search (rules, folds.the_lemmas, views.the_lemmas) in
      ap sizes_arm (sym same) ∙ folds.para-roll-Arm F F F F F F F F F (spec.kind_sizes b) (spec.field_kind_sizes b) (spec.stat_kind_sizes b)
      (spec.arm_sizes b) (spec.expr_sizes b) (spec.expr_arm_sizes b) (spec.field_sizes b) (spec.func_sizes b) (spec.stat_sizes b) (out-Arm t)

  abbrev pub expr_level : Expr-F ExprKind FieldKind StatKind Arm Expr ExprArm Field FuncBody Stat → List ScopeFault
  expr_level l = spec.expr_sizes b (folds.map-Expr ExprKind FieldKind StatKind Arm Expr ExprArm Field FuncBody Stat (spec.With ExprKind)
      (spec.With FieldKind) (spec.With StatKind) (spec.With Arm) (spec.With Expr) (spec.With ExprArm) (spec.With Field) (spec.With FuncBody)
      (spec.With Stat) (λ t. (t, sizes_kind t)) (λ t. (t, sizes_field_kind t)) (λ t. (t, sizes_stat_kind t)) (λ t. (t, sizes_arm t))
      (λ t. (t, sizes_expr t)) (λ t. (t, sizes_expr_arm t)) (λ t. (t, sizes_field t)) (λ t. (t, sizes_func t)) (λ t. (t, sizes_stat t)) l)

  pub expr_is : (t : Expr) → sizes_expr t ≡ expr_level (out-Expr t)
  expr_is t =
      let same : roll-Expr (out-Expr t) ≡ t = search (rules, folds.the_lemmas, views.the_lemmas) in
      ap sizes_expr (sym same) ∙ folds.para-roll-Expr F F F F F F F F F (spec.kind_sizes b) (spec.field_kind_sizes b) (spec.stat_kind_sizes b)
      (spec.arm_sizes b) (spec.expr_sizes b) (spec.expr_arm_sizes b) (spec.field_sizes b) (spec.func_sizes b) (spec.stat_sizes b) (out-Expr t)

  abbrev pub expr_arm_level : ExprArm-F ExprKind FieldKind StatKind Arm Expr ExprArm Field FuncBody Stat → List ScopeFault
  expr_arm_level l = spec.expr_arm_sizes b (folds.map-ExprArm ExprKind FieldKind StatKind Arm Expr ExprArm Field FuncBody Stat (spec.With ExprKind)
      (spec.With FieldKind) (spec.With StatKind) (spec.With Arm) (spec.With Expr) (spec.With ExprArm) (spec.With Field) (spec.With FuncBody)
      (spec.With Stat) (λ t. (t, sizes_kind t)) (λ t. (t, sizes_field_kind t)) (λ t. (t, sizes_stat_kind t)) (λ t. (t, sizes_arm t))
      (λ t. (t, sizes_expr t)) (λ t. (t, sizes_expr_arm t)) (λ t. (t, sizes_field t)) (λ t. (t, sizes_func t)) (λ t. (t, sizes_stat t)) l)

  pub expr_arm_is : (t : ExprArm) → sizes_expr_arm t ≡ expr_arm_level (out-ExprArm t)
  expr_arm_is t =
      let same : roll-ExprArm (out-ExprArm t) ≡ t = search (rules, folds.the_lemmas, views.the_lemmas) in
      ap sizes_expr_arm (sym same) ∙ folds.para-roll-ExprArm F F F F F F F F F (spec.kind_sizes b) (spec.field_kind_sizes b) (spec.stat_kind_sizes b)
      (spec.arm_sizes b) (spec.expr_sizes b) (spec.expr_arm_sizes b) (spec.field_sizes b) (spec.func_sizes b) (spec.stat_sizes b) (out-ExprArm t)

  abbrev pub func_level : FuncBody-F ExprKind FieldKind StatKind Arm Expr ExprArm Field FuncBody Stat → List ScopeFault
  func_level l = spec.func_sizes b (folds.map-FuncBody ExprKind FieldKind StatKind Arm Expr ExprArm Field FuncBody Stat (spec.With ExprKind)
      (spec.With FieldKind) (spec.With StatKind) (spec.With Arm) (spec.With Expr) (spec.With ExprArm) (spec.With Field) (spec.With FuncBody)
      (spec.With Stat) (λ t. (t, sizes_kind t)) (λ t. (t, sizes_field_kind t)) (λ t. (t, sizes_stat_kind t)) (λ t. (t, sizes_arm t))
      (λ t. (t, sizes_expr t)) (λ t. (t, sizes_expr_arm t)) (λ t. (t, sizes_field t)) (λ t. (t, sizes_func t)) (λ t. (t, sizes_stat t)) l)

  pub func_is : (t : FuncBody) → sizes_func t ≡ func_level (out-FuncBody t)
  func_is t =
      let same : roll-FuncBody (out-FuncBody t) ≡ t = search (rules, folds.the_lemmas, views.the_lemmas) in
      ap sizes_func (sym same) ∙ folds.para-roll-FuncBody F F F F F F F F F (spec.kind_sizes b) (spec.field_kind_sizes b) (spec.stat_kind_sizes b)
      (spec.arm_sizes b) (spec.expr_sizes b) (spec.expr_arm_sizes b) (spec.field_sizes b) (spec.func_sizes b) (spec.stat_sizes b) (out-FuncBody t)

  abbrev pub stat_level : Stat-F ExprKind FieldKind StatKind Arm Expr ExprArm Field FuncBody Stat → List ScopeFault
  stat_level l = spec.stat_sizes b (folds.map-Stat ExprKind FieldKind StatKind Arm Expr ExprArm Field FuncBody Stat (spec.With ExprKind)
      (spec.With FieldKind) (spec.With StatKind) (spec.With Arm) (spec.With Expr) (spec.With ExprArm) (spec.With Field) (spec.With FuncBody)
      (spec.With Stat) (λ t. (t, sizes_kind t)) (λ t. (t, sizes_field_kind t)) (λ t. (t, sizes_stat_kind t)) (λ t. (t, sizes_arm t))
      (λ t. (t, sizes_expr t)) (λ t. (t, sizes_expr_arm t)) (λ t. (t, sizes_field t)) (λ t. (t, sizes_func t)) (λ t. (t, sizes_stat t)) l)

  pub stat_is : (t : Stat) → sizes_stat t ≡ stat_level (out-Stat t)
  stat_is t =
      let same : roll-Stat (out-Stat t) ≡ t = search (rules, folds.the_lemmas, views.the_lemmas) in
      ap sizes_stat (sym same) ∙ folds.para-roll-Stat F F F F F F F F F (spec.kind_sizes b) (spec.field_kind_sizes b) (spec.stat_kind_sizes b)
      (spec.arm_sizes b) (spec.expr_sizes b) (spec.expr_arm_sizes b) (spec.field_sizes b) (spec.func_sizes b) (spec.stat_sizes b) (out-Stat t)
