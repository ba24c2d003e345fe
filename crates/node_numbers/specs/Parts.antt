-- What the numbering of a tree does to its parts.
use Rattle.std.specs.Prelude.{ℕ, ◌≡◌, ◌+◌, map, List, Option, Some, None}
use Rattle.syntax_tree.specs.declared.tree.Arm.{Arm}
use Rattle.syntax_tree.specs.declared.tree.Expr.{Expr}
use Rattle.syntax_tree.specs.declared.tree.ExprArm.{ExprArm}
use Rattle.syntax_tree.specs.declared.tree.ExprKind.{ExprKind}
use Rattle.syntax_tree.specs.declared.tree.ExprKind.TheFolds as folds
use Rattle.syntax_tree.specs.declared.tree.Field.{Field}
use Rattle.syntax_tree.specs.declared.tree.FieldKind.{FieldKind}
use Rattle.syntax_tree.specs.declared.tree.FuncBody.{FuncBody}
use Rattle.syntax_tree.specs.declared.tree.Stat.{Stat}
use Rattle.syntax_tree.specs.declared.tree.StatKind.{StatKind}
use Rattle.syntax_tree.specs.Numbers as spec
use Rattle.syntax_tree.specs.Numbers.{Numbering, same, ◌>>◌}

-- from the first free number on, the numbering gives this part, and this is the next free number
abbrev pub Gives : {A : Type 0} → Numbering A → ℕ → A → ℕ → Type 0
Gives numbering first part next = numbering first ≡ (part, next)

-- a node's own number
abbrev pub numbered_node : Numbering ℕ
numbered_node n = (n, n + 1)

abbrev pub numbered_arm : Arm → Numbering Arm
numbered_arm = folds.fold-Arm (Numbering ExprKind) (Numbering FieldKind) (Numbering StatKind) (Numbering Arm) (Numbering Expr) (Numbering ExprArm) (Numbering Field) (Numbering FuncBody) (Numbering Stat) spec.expr_kind spec.field_kind spec.stat_kind spec.arm_level spec.expr_level spec.expr_arm_level spec.field_level spec.func_level spec.stat_level

abbrev pub numbered_expr : Expr → Numbering Expr
numbered_expr = folds.fold-Expr (Numbering ExprKind) (Numbering FieldKind) (Numbering StatKind) (Numbering Arm) (Numbering Expr) (Numbering ExprArm) (Numbering Field) (Numbering FuncBody) (Numbering Stat) spec.expr_kind spec.field_kind spec.stat_kind spec.arm_level spec.expr_level spec.expr_arm_level spec.field_level spec.func_level spec.stat_level

abbrev pub numbered_expr_arm : ExprArm → Numbering ExprArm
numbered_expr_arm = folds.fold-ExprArm (Numbering ExprKind) (Numbering FieldKind) (Numbering StatKind) (Numbering Arm) (Numbering Expr) (Numbering ExprArm) (Numbering Field) (Numbering FuncBody) (Numbering Stat) spec.expr_kind spec.field_kind spec.stat_kind spec.arm_level spec.expr_level spec.expr_arm_level spec.field_level spec.func_level spec.stat_level

abbrev pub numbered_expr_kind : ExprKind → Numbering ExprKind
numbered_expr_kind = folds.fold-ExprKind (Numbering ExprKind) (Numbering FieldKind) (Numbering StatKind) (Numbering Arm) (Numbering Expr) (Numbering ExprArm) (Numbering Field) (Numbering FuncBody) (Numbering Stat) spec.expr_kind spec.field_kind spec.stat_kind spec.arm_level spec.expr_level spec.expr_arm_level spec.field_level spec.func_level spec.stat_level

abbrev pub numbered_field : Field → Numbering Field
numbered_field = folds.fold-Field (Numbering ExprKind) (Numbering FieldKind) (Numbering StatKind) (Numbering Arm) (Numbering Expr) (Numbering ExprArm) (Numbering Field) (Numbering FuncBody) (Numbering Stat) spec.expr_kind spec.field_kind spec.stat_kind spec.arm_level spec.expr_level spec.expr_arm_level spec.field_level spec.func_level spec.stat_level

abbrev pub numbered_stat : Stat → Numbering Stat
numbered_stat = folds.fold-Stat (Numbering ExprKind) (Numbering FieldKind) (Numbering StatKind) (Numbering Arm) (Numbering Expr) (Numbering ExprArm) (Numbering Field) (Numbering FuncBody) (Numbering Stat) spec.expr_kind spec.field_kind spec.stat_kind spec.arm_level spec.expr_level spec.expr_arm_level spec.field_level spec.func_level spec.stat_level

abbrev pub numbered_stat_kind : StatKind → Numbering StatKind
numbered_stat_kind = folds.fold-StatKind (Numbering ExprKind) (Numbering FieldKind) (Numbering StatKind) (Numbering Arm) (Numbering Expr) (Numbering ExprArm) (Numbering Field) (Numbering FuncBody) (Numbering Stat) spec.expr_kind spec.field_kind spec.stat_kind spec.arm_level spec.expr_level spec.expr_arm_level spec.field_level spec.func_level spec.stat_level

-- each of a list in turn
abbrev pub numbered_list : {A : Type 0} → (A → Numbering A) → List A → Numbering (List A)
numbered_list numbered parts = spec.list (map numbered parts)

abbrev pub numbered_step : Option Expr → Numbering (Option Expr)
numbered_step None = same None
numbered_step (Some step) = same Some >> numbered_expr step
