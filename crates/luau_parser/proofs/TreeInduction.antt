-- Induction over the tree: what holds of each level whose parts it holds of holds of every tree.
use Rattle.std.proofs.Common.{subst}
use Rattle.syntax_tree.specs.declared.tree.ExprKind.{ExprKind, roll-ExprKind}
use Rattle.syntax_tree.specs.declared.tree.FieldKind.{FieldKind, roll-FieldKind}
use Rattle.syntax_tree.specs.declared.tree.StatKind.{StatKind, roll-StatKind}
use Rattle.syntax_tree.specs.declared.tree.Arm.{Arm, roll-Arm}
use Rattle.syntax_tree.specs.declared.tree.Expr.{Expr, roll-Expr}
use Rattle.syntax_tree.specs.declared.tree.ExprArm.{ExprArm, roll-ExprArm}
use Rattle.syntax_tree.specs.declared.tree.Field.{Field, roll-Field}
use Rattle.syntax_tree.specs.declared.tree.FuncBody.{FuncBody, roll-FuncBody}
use Rattle.syntax_tree.specs.declared.tree.Stat.{Stat, roll-Stat}
use Rattle.syntax_tree.specs.declared.tree.ExprKind.TheFolds as folds
use Rattle.syntax_tree.specs.declared.tree.ExprKind.TheOpen.{ExprKind-F, FieldKind-F, StatKind-F, Arm-F, Expr-F, ExprArm-F, Field-F, FuncBody-F, Stat-F}

-- a part with what holds of it
abbrev pub With : {A : Type 0} → (A → Type 0) → Type 0
With {A} P = (a : A) × P a

module _ (P0 : ExprKind → Type 0) (P1 : FieldKind → Type 0) (P2 : StatKind → Type 0) (P3 : Arm → Type 0) (P4 : Expr → Type 0)
    (P5 : ExprArm → Type 0) (P6 : Field → Type 0) (P7 : FuncBody → Type 0) (P8 : Stat → Type 0) where
  abbrev pub kind_with : Type 0
  kind_with = ExprKind-F (With P0) (With P1) (With P2) (With P3) (With P4) (With P5) (With P6) (With P7) (With P8)

  abbrev pub kind_of : kind_with → ExprKind
  kind_of y =
      roll-ExprKind (folds.map-ExprKind (With P0) (With P1) (With P2) (With P3) (With P4) (With P5) (With P6) (With P7) (With P8) ExprKind
      FieldKind StatKind Arm Expr ExprArm Field FuncBody Stat (λ a. a.0) (λ a. a.0) (λ a. a.0) (λ a. a.0) (λ a. a.0) (λ a. a.0) (λ a. a.0)
      (λ a. a.0) (λ a. a.0) y)

  abbrev pub field_kind_with : Type 0
  field_kind_with = FieldKind-F (With P0) (With P1) (With P2) (With P3) (With P4) (With P5) (With P6) (With P7) (With P8)

  abbrev pub field_kind_of : field_kind_with → FieldKind
  field_kind_of y =
      roll-FieldKind (folds.map-FieldKind (With P0) (With P1) (With P2) (With P3) (With P4) (With P5) (With P6) (With P7) (With P8)
      ExprKind FieldKind StatKind Arm Expr ExprArm Field FuncBody Stat (λ a. a.0) (λ a. a.0) (λ a. a.0) (λ a. a.0) (λ a. a.0) (λ a. a.0)
      (λ a. a.0) (λ a. a.0) (λ a. a.0) y)

  abbrev pub stat_kind_with : Type 0
  stat_kind_with = StatKind-F (With P0) (With P1) (With P2) (With P3) (With P4) (With P5) (With P6) (With P7) (With P8)

  abbrev pub stat_kind_of : stat_kind_with → StatKind
  stat_kind_of y =
      roll-StatKind (folds.map-StatKind (With P0) (With P1) (With P2) (With P3) (With P4) (With P5) (With P6) (With P7) (With P8) ExprKind
      FieldKind StatKind Arm Expr ExprArm Field FuncBody Stat (λ a. a.0) (λ a. a.0) (λ a. a.0) (λ a. a.0) (λ a. a.0) (λ a. a.0) (λ a. a.0)
      (λ a. a.0) (λ a. a.0) y)

  abbrev pub arm_with : Type 0
  arm_with = Arm-F (With P0) (With P1) (With P2) (With P3) (With P4) (With P5) (With P6) (With P7) (With P8)

  abbrev pub arm_of : arm_with → Arm
  arm_of y =
      roll-Arm (folds.map-Arm (With P0) (With P1) (With P2) (With P3) (With P4) (With P5) (With P6) (With P7) (With P8) ExprKind FieldKind
      StatKind Arm Expr ExprArm Field FuncBody Stat (λ a. a.0) (λ a. a.0) (λ a. a.0) (λ a. a.0) (λ a. a.0) (λ a. a.0) (λ a. a.0)
      (λ a. a.0) (λ a. a.0) y)

  abbrev pub expr_with : Type 0
  expr_with = Expr-F (With P0) (With P1) (With P2) (With P3) (With P4) (With P5) (With P6) (With P7) (With P8)

  abbrev pub expr_of : expr_with → Expr
  expr_of y =
      roll-Expr (folds.map-Expr (With P0) (With P1) (With P2) (With P3) (With P4) (With P5) (With P6) (With P7) (With P8) ExprKind
      FieldKind StatKind Arm Expr ExprArm Field FuncBody Stat (λ a. a.0) (λ a. a.0) (λ a. a.0) (λ a. a.0) (λ a. a.0) (λ a. a.0) (λ a. a.0)
      (λ a. a.0) (λ a. a.0) y)

  abbrev pub expr_arm_with : Type 0
  expr_arm_with = ExprArm-F (With P0) (With P1) (With P2) (With P3) (With P4) (With P5) (With P6) (With P7) (With P8)

  abbrev pub expr_arm_of : expr_arm_with → ExprArm
  expr_arm_of y =
      roll-ExprArm (folds.map-ExprArm (With P0) (With P1) (With P2) (With P3) (With P4) (With P5) (With P6) (With P7) (With P8) ExprKind
      FieldKind StatKind Arm Expr ExprArm Field FuncBody Stat (λ a. a.0) (λ a. a.0) (λ a. a.0) (λ a. a.0) (λ a. a.0) (λ a. a.0) (λ a. a.0)
      (λ a. a.0) (λ a. a.0) y)

  abbrev pub field_with : Type 0
  field_with = Field-F (With P0) (With P1) (With P2) (With P3) (With P4) (With P5) (With P6) (With P7) (With P8)

  abbrev pub field_of : field_with → Field
  field_of y =
      roll-Field (folds.map-Field (With P0) (With P1) (With P2) (With P3) (With P4) (With P5) (With P6) (With P7) (With P8) ExprKind
      FieldKind StatKind Arm Expr ExprArm Field FuncBody Stat (λ a. a.0) (λ a. a.0) (λ a. a.0) (λ a. a.0) (λ a. a.0) (λ a. a.0) (λ a. a.0)
      (λ a. a.0) (λ a. a.0) y)

  abbrev pub func_with : Type 0
  func_with = FuncBody-F (With P0) (With P1) (With P2) (With P3) (With P4) (With P5) (With P6) (With P7) (With P8)

  abbrev pub func_of : func_with → FuncBody
  func_of y =
      roll-FuncBody (folds.map-FuncBody (With P0) (With P1) (With P2) (With P3) (With P4) (With P5) (With P6) (With P7) (With P8) ExprKind
      FieldKind StatKind Arm Expr ExprArm Field FuncBody Stat (λ a. a.0) (λ a. a.0) (λ a. a.0) (λ a. a.0) (λ a. a.0) (λ a. a.0) (λ a. a.0)
      (λ a. a.0) (λ a. a.0) y)

  abbrev pub stat_with : Type 0
  stat_with = Stat-F (With P0) (With P1) (With P2) (With P3) (With P4) (With P5) (With P6) (With P7) (With P8)

  abbrev pub stat_of : stat_with → Stat
  stat_of y =
      roll-Stat (folds.map-Stat (With P0) (With P1) (With P2) (With P3) (With P4) (With P5) (With P6) (With P7) (With P8) ExprKind
      FieldKind StatKind Arm Expr ExprArm Field FuncBody Stat (λ a. a.0) (λ a. a.0) (λ a. a.0) (λ a. a.0) (λ a. a.0) (λ a. a.0) (λ a. a.0)
      (λ a. a.0) (λ a. a.0) y)

  pub record Steps : Type 0 where
    pub kind : (y : kind_with) → P0 (kind_of y)
    pub field_kind : (y : field_kind_with) → P1 (field_kind_of y)
    pub stat_kind : (y : stat_kind_with) → P2 (stat_kind_of y)
    pub arm : (y : arm_with) → P3 (arm_of y)
    pub expr : (y : expr_with) → P4 (expr_of y)
    pub expr_arm : (y : expr_arm_with) → P5 (expr_arm_of y)
    pub field : (y : field_with) → P6 (field_of y)
    pub func : (y : func_with) → P7 (func_of y)
    pub stat : (y : stat_with) → P8 (stat_of y)

  pub all_func : Steps → (t : FuncBody) → P7 t
  all_func s = folds.ind-FuncBody P0 P1 P2 P3 P4 P5 P6 P7 P8
      (λ x y e. subst (λ z. P0 (roll-ExprKind z)) e (s.kind y)) (λ x y e. subst (λ z. P1 (roll-FieldKind z)) e (s.field_kind y))
      (λ x y e. subst (λ z. P2 (roll-StatKind z)) e (s.stat_kind y)) (λ x y e. subst (λ z. P3 (roll-Arm z)) e (s.arm y))
      (λ x y e. subst (λ z. P4 (roll-Expr z)) e (s.expr y)) (λ x y e. subst (λ z. P5 (roll-ExprArm z)) e (s.expr_arm y))
      (λ x y e. subst (λ z. P6 (roll-Field z)) e (s.field y)) (λ x y e. subst (λ z. P7 (roll-FuncBody z)) e (s.func y))
      (λ x y e. subst (λ z. P8 (roll-Stat z)) e (s.stat y))
