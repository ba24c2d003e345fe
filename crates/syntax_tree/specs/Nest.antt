-- How deep a tree nests: the greatest number of these nodes on one path: Do, While, Repeat, If, NumFor, GenFor,
-- LocalFunction, Paren, Unary, Binary, Concat, Index, Member, Call, Method, Table, Function, If as an expression, Interp.
use Rattle.std.specs.Prelude.{ℕ, ◌+◌, max, List, Option, Some, None}
use Rattle.syntax_tree.specs.declared.tree.Arm.{Arm}
use Rattle.syntax_tree.specs.declared.tree.Expr.{Expr}
use Rattle.syntax_tree.specs.declared.tree.ExprArm.{ExprArm}
use Rattle.syntax_tree.specs.declared.tree.Field.{Field}
use Rattle.syntax_tree.specs.declared.tree.FuncBody.{FuncBody}
use Rattle.syntax_tree.specs.declared.tree.Stat.{Stat}
use Rattle.syntax_tree.specs.declared.tree.Tree.{Tree}
use Rattle.syntax_tree.specs.declared.tree.ExprKind.TheOpen as level
use Rattle.syntax_tree.specs.declared.tree.ExprKind.TheOpen.{ExprKind-F, FieldKind-F, StatKind-F, Arm-F, Expr-F, ExprArm-F, Field-F, FuncBody-F, Stat-F}
use Rattle.syntax_tree.specs.Fold.{Steps, at_expr, at_stat, at_func, at_arm, at_expr_arm, at_field}
use Rattle.syntax_tree.specs.Lists.{greatest, or_zero}

-- a node of the list above, over the deepest of its parts
abbrev pub one_more : ℕ → ℕ
one_more parts = parts + 1

abbrev pub kind_nest : ExprKind-F ℕ ℕ ℕ ℕ ℕ ℕ ℕ ℕ ℕ → ℕ
kind_nest level.Nil = 0
kind_nest level.True = 0
kind_nest level.False = 0
kind_nest (level.Num n) = 0
kind_nest (level.Str text) = 0
kind_nest level.Vararg = 0
kind_nest (level.Name name) = 0
kind_nest (level.Paren e) = one_more e
kind_nest (level.Unary op e) = one_more e
kind_nest (level.Binary op a b) = one_more (max a b)
kind_nest (level.Concat es) = one_more (greatest es)
kind_nest (level.Index table key) = one_more (max table key)
kind_nest (level.Member table name) = one_more table
kind_nest (level.ExprKind::Call callee args) = one_more (max callee (greatest args))
kind_nest (level.Method object name args) = one_more (max object (greatest args))
kind_nest (level.Table fields) = one_more (greatest fields)
kind_nest (level.Function func) = one_more func
kind_nest (level.ExprKind::If arms other) = one_more (max (greatest arms) other)
kind_nest (level.Interp texts values) = one_more (greatest values)

abbrev pub field_kind_nest : FieldKind-F ℕ ℕ ℕ ℕ ℕ ℕ ℕ ℕ ℕ → ℕ
field_kind_nest (level.Item value) = value
field_kind_nest (level.Named name value) = value
field_kind_nest (level.Keyed key value) = max key value

abbrev pub else_nest : Option (List ℕ) → ℕ
else_nest None = 0
else_nest (Some body) = greatest body

abbrev pub stat_kind_nest : StatKind-F ℕ ℕ ℕ ℕ ℕ ℕ ℕ ℕ ℕ → ℕ
stat_kind_nest (level.Local names values) = greatest values
stat_kind_nest (level.Assign targets values) = max (greatest targets) (greatest values)
stat_kind_nest (level.Compound op target value) = max target value
stat_kind_nest (level.StatKind::Call call) = call
stat_kind_nest (level.Do body) = one_more (greatest body)
stat_kind_nest (level.While cond body) = one_more (max cond (greatest body))
stat_kind_nest (level.Repeat body cond) = one_more (max (greatest body) cond)
stat_kind_nest (level.StatKind::If arms other) = one_more (max (greatest arms) (else_nest other))
stat_kind_nest (level.NumFor name start limit step body) = one_more (max (max start limit) (max (or_zero step) (greatest body)))
stat_kind_nest (level.GenFor names values body) = one_more (max (greatest values) (greatest body))
stat_kind_nest (level.LocalFunction name func) = one_more func
stat_kind_nest (level.Return values) = greatest values
stat_kind_nest level.Break = 0
stat_kind_nest level.Continue = 0

abbrev pub steps : Steps ℕ ℕ ℕ ℕ ℕ ℕ ℕ ℕ ℕ
steps = record { kind = kind_nest; field_kind = field_kind_nest; stat_kind = stat_kind_nest; arm = λ a. max a.cond (greatest a.body); expr = λ e. e.kind; expr_arm = λ a. max a.cond a.value; field = λ f. f.kind; func = λ f. greatest f.body; stat = λ s. s.kind }

abbrev pub nest_expr : Expr → ℕ
nest_expr = at_expr steps

abbrev pub nest_stat : Stat → ℕ
nest_stat = at_stat steps

abbrev pub nest_func : FuncBody → ℕ
nest_func = at_func steps

abbrev pub nest_arm : Arm → ℕ
nest_arm = at_arm steps

abbrev pub nest_expr_arm : ExprArm → ℕ
nest_expr_arm = at_expr_arm steps

abbrev pub nest_field : Field → ℕ
nest_field = at_field steps

abbrev pub nest_step : Option Expr → ℕ
nest_step None = 0
nest_step (Some e) = nest_expr e

abbrev pub nest : Tree → ℕ
nest tree = nest_func tree.main
