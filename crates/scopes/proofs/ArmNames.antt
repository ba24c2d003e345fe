-- What is known after an arm of an `if` statement.
use Rattle.std.proofs.Common.{◌≡◌, map, false, rules}
use Rattle.syntax_tree.specs.declared.tree.Arm.{Arm, out-Arm}
use Rattle.syntax_tree.specs.declared.tree.ExprKind.TheFolds as folds
use Rattle.syntax_tree.specs.declared.tree.ExprKind.TheViews as views
use Rattle.syntax_tree.specs.Names as spec

pub arm_is : (a : Arm) (k : spec.Known) → spec.names_arm a k ≡ spec.closed (spec.block (map spec.names_stat (out-Arm a).body)) (spec.names_expr (out-Arm a).cond false k)
arm_is a k = search (rules, folds.the_lemmas, views.the_lemmas)
