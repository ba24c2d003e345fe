-- What a function of the tree gives at a node, by what it gives for the node's parts.
use Rattle.std.proofs.Common.{◌≡◌}
use Rattle.syntax_tree.specs.declared.tree.ExprKind.{ExprKind, roll-ExprKind}
use Rattle.syntax_tree.specs.declared.tree.FieldKind.{FieldKind, roll-FieldKind}
use Rattle.syntax_tree.specs.declared.tree.StatKind.{StatKind, roll-StatKind}
use Rattle.syntax_tree.specs.declared.tree.Arm.{Arm, roll-Arm}
use Rattle.syntax_tree.specs.declared.tree.Expr.{Expr, roll-Expr}
use Rattle.syntax_tree.specs.declared.tree.ExprArm.{ExprArm, roll-ExprArm}
use Rattle.syntax_tree.specs.declared.tree.Field.{Field, roll-Field}
use Rattle.syntax_tree.specs.declared.tree.FuncBody.{FuncBody, roll-FuncBody}
use Rattle.syntax_tree.specs.declared.tree.Stat.{Stat, roll-Stat}
use Rattle.syntax_tree.specs.declared.tree.ExprKind.TheFolds as folds
use Rattle.syntax_tree.specs.declared.tree.ExprKind.TheOpen.{ExprKind-F, FieldKind-F, StatKind-F, Arm-F, Expr-F, ExprArm-F, Field-F, FuncBody-F, Stat-F}
use Rattle.syntax_tree.specs.Fold.{Steps, at_arm, at_expr, at_expr_arm, at_field, at_func, at_stat}

-- a node whose parts are nodes
abbrev pub ExprKindNode : Type 0
ExprKindNode = ExprKind-F ExprKind FieldKind StatKind Arm Expr ExprArm Field FuncBody Stat

abbrev pub FieldKindNode : Type 0
FieldKindNode = FieldKind-F ExprKind FieldKind StatKind Arm Expr ExprArm Field FuncBody Stat

abbrev pub StatKindNode : Type 0
StatKindNode = StatKind-F ExprKind FieldKind StatKind Arm Expr ExprArm Field FuncBody Stat

abbrev pub ArmNode : Type 0
ArmNode = Arm-F ExprKind FieldKind StatKind Arm Expr ExprArm Field FuncBody Stat

abbrev pub ExprNode : Type 0
ExprNode = Expr-F ExprKind FieldKind StatKind Arm Expr ExprArm Field FuncBody Stat

abbrev pub ExprArmNode : Type 0
ExprArmNode = ExprArm-F ExprKind FieldKind StatKind Arm Expr ExprArm Field FuncBody Stat

abbrev pub FieldNode : Type 0
FieldNode = Field-F ExprKind FieldKind StatKind Arm Expr ExprArm Field FuncBody Stat

abbrev pub FuncBodyNode : Type 0
FuncBodyNode = FuncBody-F ExprKind FieldKind StatKind Arm Expr ExprArm Field FuncBody Stat

abbrev pub StatNode : Type 0
StatNode = Stat-F ExprKind FieldKind StatKind Arm Expr ExprArm Field FuncBody Stat

module _ {K L M A E X F B S : Type 0} (s : Steps K L M A E X F B S) where
  abbrev pub at_kind : ExprKind → K
  at_kind = folds.fold-ExprKind K L M A E X F B S s.kind s.field_kind s.stat_kind s.arm s.expr s.expr_arm s.field s.func s.stat

  abbrev pub at_field_kind : FieldKind → L
  at_field_kind = folds.fold-FieldKind K L M A E X F B S s.kind s.field_kind s.stat_kind s.arm s.expr s.expr_arm s.field s.func s.stat

  abbrev pub at_stat_kind : StatKind → M
  at_stat_kind = folds.fold-StatKind K L M A E X F B S s.kind s.field_kind s.stat_kind s.arm s.expr s.expr_arm s.field s.func s.stat

  abbrev pub kind_level : ExprKindNode → ExprKind-F K L M A E X F B S
  kind_level =
      folds.map-ExprKind ExprKind FieldKind StatKind Arm Expr ExprArm Field FuncBody Stat K L M A E X F B S at_kind at_field_kind
      at_stat_kind (at_arm s) (at_expr s) (at_expr_arm s) (at_field s) (at_func s) (at_stat s)

  abbrev pub field_kind_level : FieldKindNode → FieldKind-F K L M A E X F B S
  field_kind_level =
      folds.map-FieldKind ExprKind FieldKind StatKind Arm Expr ExprArm Field FuncBody Stat K L M A E X F B S at_kind at_field_kind
      at_stat_kind (at_arm s) (at_expr s) (at_expr_arm s) (at_field s) (at_func s) (at_stat s)

  abbrev pub stat_kind_level : StatKindNode → StatKind-F K L M A E X F B S
  stat_kind_level =
      folds.map-StatKind ExprKind FieldKind StatKind Arm Expr ExprArm Field FuncBody Stat K L M A E X F B S at_kind at_field_kind
      at_stat_kind (at_arm s) (at_expr s) (at_expr_arm s) (at_field s) (at_func s) (at_stat s)

  abbrev pub arm_level : ArmNode → Arm-F K L M A E X F B S
  arm_level =
      folds.map-Arm ExprKind FieldKind StatKind Arm Expr ExprArm Field FuncBody Stat K L M A E X F B S at_kind at_field_kind at_stat_kind
      (at_arm s) (at_expr s) (at_expr_arm s) (at_field s) (at_func s) (at_stat s)

  abbrev pub expr_level : ExprNode → Expr-F K L M A E X F B S
  expr_level =
      folds.map-Expr ExprKind FieldKind StatKind Arm Expr ExprArm Field FuncBody Stat K L M A E X F B S at_kind at_field_kind at_stat_kind
      (at_arm s) (at_expr s) (at_expr_arm s) (at_field s) (at_func s) (at_stat s)

  abbrev pub expr_arm_level : ExprArmNode → ExprArm-F K L M A E X F B S
  expr_arm_level =
      folds.map-ExprArm ExprKind FieldKind StatKind Arm Expr ExprArm Field FuncBody Stat K L M A E X F B S at_kind at_field_kind
      at_stat_kind (at_arm s) (at_expr s) (at_expr_arm s) (at_field s) (at_func s) (at_stat s)

  abbrev pub field_level : FieldNode → Field-F K L M A E X F B S
  field_level =
      folds.map-Field ExprKind FieldKind StatKind Arm Expr ExprArm Field FuncBody Stat K L M A E X F B S at_kind at_field_kind
      at_stat_kind (at_arm s) (at_expr s) (at_expr_arm s) (at_field s) (at_func s) (at_stat s)

  abbrev pub func_level : FuncBodyNode → FuncBody-F K L M A E X F B S
  func_level =
      folds.map-FuncBody ExprKind FieldKind StatKind Arm Expr ExprArm Field FuncBody Stat K L M A E X F B S at_kind at_field_kind
      at_stat_kind (at_arm s) (at_expr s) (at_expr_arm s) (at_field s) (at_func s) (at_stat s)

  abbrev pub stat_level : StatNode → Stat-F K L M A E X F B S
  stat_level =
      folds.map-Stat ExprKind FieldKind StatKind Arm Expr ExprArm Field FuncBody Stat K L M A E X F B S at_kind at_field_kind at_stat_kind
      (at_arm s) (at_expr s) (at_expr_arm s) (at_field s) (at_func s) (at_stat s)

  pub kind_is : (x : ExprKindNode) → at_kind (roll-ExprKind x) ≡ s.kind (kind_level x)
  kind_is = folds.fold-roll-ExprKind K L M A E X F B S s.kind s.field_kind s.stat_kind s.arm s.expr s.expr_arm s.field s.func s.stat

  pub field_kind_is : (x : FieldKindNode) → at_field_kind (roll-FieldKind x) ≡ s.field_kind (field_kind_level x)
  field_kind_is = folds.fold-roll-FieldKind K L M A E X F B S s.kind s.field_kind s.stat_kind s.arm s.expr s.expr_arm s.field s.func s.stat

  pub stat_kind_is : (x : StatKindNode) → at_stat_kind (roll-StatKind x) ≡ s.stat_kind (stat_kind_level x)
  stat_kind_is = folds.fold-roll-StatKind K L M A E X F B S s.kind s.field_kind s.stat_kind s.arm s.expr s.expr_arm s.field s.func s.stat

  pub arm_is : (x : ArmNode) → at_arm s (roll-Arm x) ≡ s.arm (arm_level x)
  arm_is = folds.fold-roll-Arm K L M A E X F B S s.kind s.field_kind s.stat_kind s.arm s.expr s.expr_arm s.field s.func s.stat

  pub expr_is : (x : ExprNode) → at_expr s (roll-Expr x) ≡ s.expr (expr_level x)
  expr_is = folds.fold-roll-Expr K L M A E X F B S s.kind s.field_kind s.stat_kind s.arm s.expr s.expr_arm s.field s.func s.stat

  pub expr_arm_is : (x : ExprArmNode) → at_expr_arm s (roll-ExprArm x) ≡ s.expr_arm (expr_arm_level x)
  expr_arm_is = folds.fold-roll-ExprArm K L M A E X F B S s.kind s.field_kind s.stat_kind s.arm s.expr s.expr_arm s.field s.func s.stat

  pub field_is : (x : FieldNode) → at_field s (roll-Field x) ≡ s.field (field_level x)
  field_is = folds.fold-roll-Field K L M A E X F B S s.kind s.field_kind s.stat_kind s.arm s.expr s.expr_arm s.field s.func s.stat

  pub func_is : (x : FuncBodyNode) → at_func s (roll-FuncBody x) ≡ s.func (func_level x)
  func_is = folds.fold-roll-FuncBody K L M A E X F B S s.kind s.field_kind s.stat_kind s.arm s.expr s.expr_arm s.field s.func s.stat

  pub stat_is : (x : StatNode) → at_stat s (roll-Stat x) ≡ s.stat (stat_level x)
  stat_is = folds.fold-roll-Stat K L M A E X F B S s.kind s.field_kind s.stat_kind s.arm s.expr s.expr_arm s.field s.func s.stat
