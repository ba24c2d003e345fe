-- How long a function's code may be: 8, and 6 for each expression node, 8 for each statement node, 2 for each
-- name declared in a Local, NumFor or GenFor, and 1 for each variable captured by a function that is made
-- directly in it. The bodies of such functions are not counted.
use Rattle.std.specs.Prelude.{ℕ, ◌+◌, ◌*◌, length, slice_get, option_map, List, Option, Some, None}
use Rattle.syntax_tree.specs.declared.bindings.Bindings.{Bindings}
use Rattle.syntax_tree.specs.declared.tree.Arm.{Arm}
use Rattle.syntax_tree.specs.declared.tree.Expr.{Expr}
use Rattle.syntax_tree.specs.declared.tree.ExprArm.{ExprArm}
use Rattle.syntax_tree.specs.declared.tree.Field.{Field}
use Rattle.syntax_tree.specs.declared.tree.FuncBody.{FuncBody}
use Rattle.syntax_tree.specs.declared.tree.Stat.{Stat}
use Rattle.syntax_tree.specs.declared.tree.ExprKind.TheOpen as level
use Rattle.syntax_tree.specs.declared.tree.ExprKind.TheOpen.{ExprKind-F, FieldKind-F, StatKind-F, Arm-F, Expr-F, ExprArm-F, Field-F, FuncBody-F, Stat-F}
use Rattle.syntax_tree.specs.Fold.{Steps, at_expr, at_stat, at_func, at_arm, at_expr_arm, at_field}
use Rattle.syntax_tree.specs.Lists.{total, or_zero}

-- What a function adds where it is made, and its own bulk.
pub record FuncBulk : Type 0 where
  pub made : ℕ
  pub own : ℕ

-- what the parts of an expression node count, and the node itself
abbrev pub expr_node : ℕ → ℕ
expr_node parts = 6 + parts

abbrev pub stat_node : ℕ → ℕ
stat_node parts = 8 + parts

abbrev pub kind_bulk : ExprKind-F ℕ ℕ ℕ ℕ ℕ ℕ ℕ FuncBulk ℕ → ℕ
kind_bulk level.Nil = expr_node 0
kind_bulk level.True = expr_node 0
kind_bulk level.False = expr_node 0
kind_bulk (level.Num n) = expr_node 0
kind_bulk (level.Str text) = expr_node 0
kind_bulk level.Vararg = expr_node 0
kind_bulk (level.Name name) = expr_node 0
kind_bulk (level.Paren e) = expr_node e
kind_bulk (level.Unary op e) = expr_node e
kind_bulk (level.Binary op a b) = expr_node (a + b)
kind_bulk (level.Concat es) = expr_node (total es)
kind_bulk (level.Index table key) = expr_node (table + key)
kind_bulk (level.Member table name) = expr_node table
kind_bulk (level.ExprKind::Call callee args) = expr_node (callee + total args)
kind_bulk (level.Method object name args) = expr_node (object + total args)
kind_bulk (level.Table fields) = expr_node (total fields)
kind_bulk (level.Function func) = expr_node func.made
kind_bulk (level.ExprKind::If arms other) = expr_node (total arms + other)
kind_bulk (level.Interp texts values) = expr_node (total values)

abbrev pub field_kind_bulk : FieldKind-F ℕ ℕ ℕ ℕ ℕ ℕ ℕ FuncBulk ℕ → ℕ
field_kind_bulk (level.Item value) = value
field_kind_bulk (level.Named name value) = value
field_kind_bulk (level.Keyed key value) = key + value

abbrev pub else_bulk : Option (List ℕ) → ℕ
else_bulk None = 0
else_bulk (Some body) = total body

abbrev pub stat_kind_bulk : StatKind-F ℕ ℕ ℕ ℕ ℕ ℕ ℕ FuncBulk ℕ → ℕ
stat_kind_bulk (level.Local names values) = stat_node (2 * length names + total values)
stat_kind_bulk (level.Assign targets values) = stat_node (total targets + total values)
stat_kind_bulk (level.Compound op target value) = stat_node (target + value)
stat_kind_bulk (level.StatKind::Call call) = stat_node call
stat_kind_bulk (level.Do body) = stat_node (total body)
stat_kind_bulk (level.While cond body) = stat_node (cond + total body)
stat_kind_bulk (level.Repeat body cond) = stat_node (total body + cond)
stat_kind_bulk (level.StatKind::If arms other) = stat_node (total arms + else_bulk other)
stat_kind_bulk (level.NumFor name start limit step body) = stat_node (2 + (start + limit) + or_zero step + total body)
stat_kind_bulk (level.GenFor names values body) = stat_node (2 * length names + total values + total body)
stat_kind_bulk (level.LocalFunction name func) = stat_node func.made
stat_kind_bulk (level.Return values) = stat_node (total values)
stat_kind_bulk level.Break = stat_node 0
stat_kind_bulk level.Continue = stat_node 0

module _ (bindings : Bindings) where
  -- the variables that the function captures
  abbrev pub captured : ℕ → ℕ
  captured id = or_zero (option_map length (slice_get bindings.upvalues id))

  abbrev pub steps : Steps ℕ ℕ ℕ ℕ ℕ ℕ ℕ FuncBulk ℕ
  steps = record { kind = kind_bulk; field_kind = field_kind_bulk; stat_kind = stat_kind_bulk; arm = λ a. a.cond + total a.body; expr = λ e. e.kind; expr_arm = λ a. a.cond + a.value; field = λ f. f.kind; func = λ f. record { made = captured f.id; own = 8 + total f.body }; stat = λ s. s.kind }

  abbrev pub bulk_expr : Expr → ℕ
  bulk_expr = at_expr steps

  abbrev pub bulk_stat : Stat → ℕ
  bulk_stat = at_stat steps

  abbrev pub bulk_arm : Arm → ℕ
  bulk_arm = at_arm steps

  abbrev pub bulk_expr_arm : ExprArm → ℕ
  bulk_expr_arm = at_expr_arm steps

  abbrev pub bulk_field : Field → ℕ
  bulk_field = at_field steps

  abbrev pub bulk_func : FuncBody → FuncBulk
  bulk_func = at_func steps

  abbrev pub bulk : FuncBody → ℕ
  bulk func = (bulk_func func).own

  abbrev pub bulk_step : Option Expr → ℕ
  bulk_step None = 0
  bulk_step (Some e) = bulk_expr e
