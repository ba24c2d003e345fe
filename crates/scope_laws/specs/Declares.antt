-- How many locals a part of the text declares, parameters and the variables of loops included.
use Rattle.std.specs.Prelude.{ℕ, ◌+◌, length, List, Option, Some, None}
use Rattle.syntax_tree.specs.declared.tree.Arm.{Arm}
use Rattle.syntax_tree.specs.declared.tree.Expr.{Expr}
use Rattle.syntax_tree.specs.declared.tree.ExprArm.{ExprArm}
use Rattle.syntax_tree.specs.declared.tree.ExprKind.TheOpen as level
use Rattle.syntax_tree.specs.declared.tree.ExprKind.TheOpen.{ExprKind-F, FieldKind-F, StatKind-F}
use Rattle.syntax_tree.specs.declared.tree.Field.{Field}
use Rattle.syntax_tree.specs.declared.tree.FuncBody.{FuncBody}
use Rattle.syntax_tree.specs.declared.tree.Stat.{Stat}
use Rattle.syntax_tree.specs.Fold.{Steps, at_arm, at_expr, at_expr_arm, at_field, at_func, at_stat}
use Rattle.syntax_tree.specs.Lists.{total, or_zero}

abbrev pub kind_declares : ExprKind-F ℕ ℕ ℕ ℕ ℕ ℕ ℕ ℕ ℕ → ℕ
kind_declares level.Nil = 0
kind_declares level.True = 0
kind_declares level.False = 0
kind_declares (level.Num n) = 0
kind_declares (level.Str text) = 0
kind_declares level.Vararg = 0
kind_declares (level.Name name) = 0
kind_declares (level.Paren e) = e
kind_declares (level.Unary op e) = e
kind_declares (level.Binary op a b) = a + b
kind_declares (level.Concat es) = total es
kind_declares (level.Index table key) = table + key
kind_declares (level.Member table name) = table
kind_declares (level.ExprKind::Call callee args) = callee + total args
kind_declares (level.Method object name args) = object + total args
kind_declares (level.Table fields) = total fields
kind_declares (level.Function func) = func
kind_declares (level.ExprKind::If arms other) = total arms + other
kind_declares (level.Interp texts values) = total values

abbrev pub field_kind_declares : FieldKind-F ℕ ℕ ℕ ℕ ℕ ℕ ℕ ℕ ℕ → ℕ
field_kind_declares (level.Item value) = value
field_kind_declares (level.Named name value) = value
field_kind_declares (level.Keyed key value) = key + value

abbrev pub else_declares : Option (List ℕ) → ℕ
else_declares None = 0
else_declares (Some body) = total body

abbrev pub stat_kind_declares : StatKind-F ℕ ℕ ℕ ℕ ℕ ℕ ℕ ℕ ℕ → ℕ
stat_kind_declares (level.Local names values) = length names + total values
stat_kind_declares (level.Assign targets values) = total targets + total values
stat_kind_declares (level.Compound op target value) = target + value
stat_kind_declares (level.StatKind::Call call) = call
stat_kind_declares (level.Do body) = total body
stat_kind_declares (level.While cond body) = cond + total body
stat_kind_declares (level.Repeat body cond) = total body + cond
stat_kind_declares (level.StatKind::If arms other) = total arms + else_declares other
stat_kind_declares (level.NumFor name start limit step body) = 1 + start + limit + or_zero step + total body
stat_kind_declares (level.GenFor names values body) = length names + total values + total body
stat_kind_declares (level.LocalFunction name func) = 1 + func
stat_kind_declares (level.Return values) = total values
stat_kind_declares level.Break = 0
stat_kind_declares level.Continue = 0

abbrev pub steps : Steps ℕ ℕ ℕ ℕ ℕ ℕ ℕ ℕ ℕ
steps = record {
  kind = kind_declares;
  field_kind = field_kind_declares;
  stat_kind = stat_kind_declares;
  arm = λ a. a.cond + total a.body;
  expr = λ e. e.kind;
  expr_arm = λ a. a.cond + a.value;
  field = λ f. f.kind;
  func = λ f. length f.params + total f.body;
  stat = λ s. s.kind;
}

abbrev pub declares_expr : Expr → ℕ
declares_expr = at_expr steps

abbrev pub declares_stat : Stat → ℕ
declares_stat = at_stat steps

abbrev pub declares_func : FuncBody → ℕ
declares_func = at_func steps

abbrev pub declares_arm : Arm → ℕ
declares_arm = at_arm steps

abbrev pub declares_expr_arm : ExprArm → ℕ
declares_expr_arm = at_expr_arm steps

abbrev pub declares_field : Field → ℕ
declares_field = at_field steps
