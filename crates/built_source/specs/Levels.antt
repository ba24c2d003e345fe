-- One level of a node, as it is opened: its kind, with its parts.
use Rattle.syntax_tree.specs.declared.tree.Arm.{Arm}
use Rattle.syntax_tree.specs.declared.tree.Expr.{Expr}
use Rattle.syntax_tree.specs.declared.tree.ExprArm.{ExprArm}
use Rattle.syntax_tree.specs.declared.tree.ExprKind.{ExprKind}
use Rattle.syntax_tree.specs.declared.tree.Field.{Field}
use Rattle.syntax_tree.specs.declared.tree.FieldKind.{FieldKind}
use Rattle.syntax_tree.specs.declared.tree.FuncBody.{FuncBody}
use Rattle.syntax_tree.specs.declared.tree.Stat.{Stat}
use Rattle.syntax_tree.specs.declared.tree.StatKind.{StatKind}
use Rattle.syntax_tree.specs.declared.tree.ExprKind.TheOpen.{ExprKind-F, StatKind-F}

abbrev pub ExprLevel : Type 0
ExprLevel = ExprKind-F ExprKind FieldKind StatKind Arm Expr ExprArm Field FuncBody Stat

abbrev pub StatLevel : Type 0
StatLevel = StatKind-F ExprKind FieldKind StatKind Arm Expr ExprArm Field FuncBody Stat
