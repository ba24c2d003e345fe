-- How many words the code of a tree takes at most. With the name of `print` it has at most one more constant than that.
use Rattle.std.specs.Prelude.{ℕ, ◌+◌, ◌-◌, List, map, Option, Some, None}
use Rattle.syntax_tree.specs.declared.tree.Arm.{Arm}
use Rattle.syntax_tree.specs.declared.tree.Expr.{Expr}
use Rattle.syntax_tree.specs.declared.tree.ExprKind.TheOpen as level
use Rattle.syntax_tree.specs.declared.tree.ExprKind.TheOpen.{ExprKind-F, StatKind-F}
use Rattle.syntax_tree.specs.declared.tree.Stat.{Stat}
use Rattle.syntax_tree.specs.Fold.{Steps, at_expr, at_stat, at_arm}
use Rattle.syntax_tree.specs.Limits.{most_bulk}
use Rattle.syntax_tree.specs.Lists.{total}

-- so many words may the statements of a script take, beside the two of its function's begin and end
abbrev pub most_words : ℕ
most_words = most_bulk - 2

-- the sum of some counts, if there are any
abbrev pub total_of : Option (List ℕ) → ℕ
total_of None = 0
total_of (Some ns) = total ns

-- one word for each number, name and operation, and three for a call of `print`, whose callee is not counted
abbrev pub kind_words : ExprKind-F ℕ (Unit {0}) ℕ ℕ ℕ (Unit {0}) (Unit {0}) (Unit {0}) ℕ → ℕ
kind_words (level.Num v) = 1
kind_words (level.Name x) = 1
kind_words (level.Binary op a b) = a + b + 1
kind_words (level.ExprKind::Call callee args) = total args + 3
kind_words _ = 0

-- An assignment copies its value. A condition's jump has a second word, and a loop jumps back
abbrev pub stat_kind_words : StatKind-F ℕ (Unit {0}) ℕ ℕ ℕ (Unit {0}) (Unit {0}) (Unit {0}) ℕ → ℕ
stat_kind_words (level.Local xs es) = total es
stat_kind_words (level.Assign ts es) = total es + 1
stat_kind_words (level.StatKind::Call call) = call
stat_kind_words (level.StatKind::If arms other) = total arms + total_of other
stat_kind_words (level.While cond body) = cond + total body + 2
stat_kind_words _ = 0

-- the jump over the block of `else` is counted at the arm
abbrev pub steps : Steps ℕ (Unit {0}) ℕ ℕ ℕ (Unit {0}) (Unit {0}) (Unit {0}) ℕ
steps = record {
  kind = kind_words;
  field_kind = λ _. tt;
  stat_kind = stat_kind_words;
  arm = λ a. a.cond + total a.body + 2;
  expr = λ e. e.kind;
  expr_arm = λ _. tt;
  field = λ _. tt;
  func = λ _. tt;
  stat = λ s. s.kind;
}

abbrev pub expr_words : Expr → ℕ
expr_words = at_expr steps

abbrev pub arm_words : Arm → ℕ
arm_words = at_arm steps

abbrev pub stat_words : Stat → ℕ
stat_words = at_stat steps

abbrev pub block_words : List Stat → ℕ
block_words ss = total (map stat_words ss)
