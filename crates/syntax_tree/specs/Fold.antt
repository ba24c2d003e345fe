-- Functions of the tree that are given by what they do at each of its levels. A level is a node whose parts
-- are not nodes but the results for these nodes.
use Rattle.syntax_tree.specs.declared.tree.Arm.{Arm}
use Rattle.syntax_tree.specs.declared.tree.Expr.{Expr}
use Rattle.syntax_tree.specs.declared.tree.ExprArm.{ExprArm}
use Rattle.syntax_tree.specs.declared.tree.Field.{Field}
use Rattle.syntax_tree.specs.declared.tree.FuncBody.{FuncBody}
use Rattle.syntax_tree.specs.declared.tree.Stat.{Stat}
use Rattle.syntax_tree.specs.declared.tree.ExprKind.TheFolds as folds
use Rattle.syntax_tree.specs.declared.tree.ExprKind.TheOpen.{ExprKind-F, FieldKind-F, StatKind-F, Arm-F, Expr-F, ExprArm-F, Field-F, FuncBody-F, Stat-F}

-- What a function of the tree does at each level. The types of the results stand in the order kind of an
-- expression, kind of a field, kind of a statement, arm of a statement, expression, arm of an expression,
-- field, function, statement.
pub record Steps (K L M A E X F B S : Type 0) : Type 0 where
  pub kind : ExprKind-F K L M A E X F B S → K
  pub field_kind : FieldKind-F K L M A E X F B S → L
  pub stat_kind : StatKind-F K L M A E X F B S → M
  pub arm : Arm-F K L M A E X F B S → A
  pub expr : Expr-F K L M A E X F B S → E
  pub expr_arm : ExprArm-F K L M A E X F B S → X
  pub field : Field-F K L M A E X F B S → F
  pub func : FuncBody-F K L M A E X F B S → B
  pub stat : Stat-F K L M A E X F B S → S

module _ {K L M A E X F B S : Type 0} (s : Steps K L M A E X F B S) where
  abbrev pub at_arm : Arm → A
  at_arm = folds.fold-Arm K L M A E X F B S s.kind s.field_kind s.stat_kind s.arm s.expr s.expr_arm s.field s.func s.stat

  abbrev pub at_expr : Expr → E
  at_expr = folds.fold-Expr K L M A E X F B S s.kind s.field_kind s.stat_kind s.arm s.expr s.expr_arm s.field s.func s.stat

  abbrev pub at_expr_arm : ExprArm → X
  at_expr_arm = folds.fold-ExprArm K L M A E X F B S s.kind s.field_kind s.stat_kind s.arm s.expr s.expr_arm s.field s.func s.stat

  abbrev pub at_field : Field → F
  at_field = folds.fold-Field K L M A E X F B S s.kind s.field_kind s.stat_kind s.arm s.expr s.expr_arm s.field s.func s.stat

  abbrev pub at_func : FuncBody → B
  at_func = folds.fold-FuncBody K L M A E X F B S s.kind s.field_kind s.stat_kind s.arm s.expr s.expr_arm s.field s.func s.stat

  abbrev pub at_stat : Stat → S
  at_stat = folds.fold-Stat K L M A E X F B S s.kind s.field_kind s.stat_kind s.arm s.expr s.expr_arm s.field s.func s.stat
