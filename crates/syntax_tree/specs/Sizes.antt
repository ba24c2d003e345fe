-- The rules on the size of a function: the registers that it needs, and its bulk. The fault is at the function.
use Rattle.std.specs.Prelude.{ℕ, nat_lt, if◌then◌else◌, map, List, [], ◌∷◌, ◌++◌, Option, Some, None}
use Rattle.syntax_tree.specs.declared.bindings.Bindings.{Bindings}
use Rattle.syntax_tree.specs.declared.fault.ScopeFault.{ScopeFault}
use Rattle.syntax_tree.specs.declared.fault.ScopeRule.TheVariants as rule
use Rattle.syntax_tree.specs.declared.tree.Arm.{Arm}
use Rattle.syntax_tree.specs.declared.tree.Expr.{Expr}
use Rattle.syntax_tree.specs.declared.tree.ExprArm.{ExprArm}
use Rattle.syntax_tree.specs.declared.tree.Field.{Field}
use Rattle.syntax_tree.specs.declared.tree.FuncBody.{FuncBody, out-FuncBody}
use Rattle.syntax_tree.specs.declared.tree.Stat.{Stat}
use Rattle.syntax_tree.specs.declared.tree.ExprKind.{ExprKind}
use Rattle.syntax_tree.specs.declared.tree.FieldKind.{FieldKind}
use Rattle.syntax_tree.specs.declared.tree.StatKind.{StatKind}
use Rattle.syntax_tree.specs.declared.tree.ExprKind.TheFolds as folds
use Rattle.syntax_tree.specs.declared.tree.ExprKind.TheOpen as level
use Rattle.syntax_tree.specs.declared.tree.ExprKind.TheOpen.{ExprKind-F, FieldKind-F, StatKind-F, Arm-F, Expr-F, ExprArm-F, Field-F, FuncBody-F, Stat-F}
use Rattle.syntax_tree.specs.Bulk.{bulk}
use Rattle.syntax_tree.specs.Faults.{fault}
use Rattle.syntax_tree.specs.Limits.{most_registers, most_bulk}
use Rattle.syntax_tree.specs.Need.{need}

-- a part of the tree, and the faults of the functions in it
abbrev pub With : Type 0 → Type 0
With A = A × List ScopeFault

abbrev pub in_all : {A : Type 0} → List (With A) → List ScopeFault
in_all [] = []
in_all (p ∷ ps) = p.1 ++ in_all ps

abbrev pub in_maybe : {A : Type 0} → Option (With A) → List ScopeFault
in_maybe None = []
in_maybe (Some p) = p.1

abbrev pub in_else : {A : Type 0} → Option (List (With A)) → List ScopeFault
in_else None = []
in_else (Some ps) = in_all ps

module _ (bindings : Bindings) where
  -- the faults of one function
  abbrev pub size_faults : FuncBody → List ScopeFault
  size_faults f =
      (if nat_lt most_registers (need f) then fault rule.TooWide (out-FuncBody f).at else []) ++ (if nat_lt most_bulk (bulk bindings f) then fault rule.TooLong (out-FuncBody f).at else [])

  -- the faults of a function, and of those in it
  abbrev pub made : With FuncBody → List ScopeFault
  made f = size_faults f.0 ++ f.1

  abbrev pub kind_sizes : ExprKind-F (With ExprKind) (With FieldKind) (With StatKind) (With Arm) (With Expr) (With ExprArm) (With Field) (With FuncBody) (With Stat) → List ScopeFault
  kind_sizes level.Nil = []
  kind_sizes level.True = []
  kind_sizes level.False = []
  kind_sizes (level.Num n) = []
  kind_sizes (level.Str text) = []
  kind_sizes level.Vararg = []
  kind_sizes (level.Name name) = []
  kind_sizes (level.Paren e) = e.1
  kind_sizes (level.Unary op e) = e.1
  kind_sizes (level.Binary op a b) = a.1 ++ b.1
  kind_sizes (level.Concat es) = in_all es
  kind_sizes (level.Index table key) = table.1 ++ key.1
  kind_sizes (level.Member table name) = table.1
  kind_sizes (level.ExprKind::Call callee args) = callee.1 ++ in_all args
  kind_sizes (level.Method object name args) = object.1 ++ in_all args
  kind_sizes (level.Table fields) = in_all fields
  kind_sizes (level.Function func) = made func
  kind_sizes (level.ExprKind::If arms other) = in_all arms ++ other.1
  kind_sizes (level.Interp texts values) = in_all values

  abbrev pub field_kind_sizes : FieldKind-F (With ExprKind) (With FieldKind) (With StatKind) (With Arm) (With Expr) (With ExprArm) (With Field) (With FuncBody) (With Stat) → List ScopeFault
  field_kind_sizes (level.Item value) = value.1
  field_kind_sizes (level.Named name value) = value.1
  field_kind_sizes (level.Keyed key value) = key.1 ++ value.1

  abbrev pub stat_kind_sizes : StatKind-F (With ExprKind) (With FieldKind) (With StatKind) (With Arm) (With Expr) (With ExprArm) (With Field) (With FuncBody) (With Stat) → List ScopeFault
  stat_kind_sizes (level.Local names values) = in_all values
  stat_kind_sizes (level.Assign targets values) = in_all targets ++ in_all values
  stat_kind_sizes (level.Compound op target value) = target.1 ++ value.1
  stat_kind_sizes (level.StatKind::Call call) = call.1
  stat_kind_sizes (level.Do body) = in_all body
  stat_kind_sizes (level.While cond body) = cond.1 ++ in_all body
  stat_kind_sizes (level.Repeat body cond) = in_all body ++ cond.1
  stat_kind_sizes (level.StatKind::If arms other) = in_all arms ++ in_else other
  stat_kind_sizes (level.NumFor name start limit step body) = start.1 ++ (limit.1 ++ (in_maybe step ++ in_all body))
  stat_kind_sizes (level.GenFor names values body) = in_all values ++ in_all body
  stat_kind_sizes (level.LocalFunction name func) = made func
  stat_kind_sizes (level.Return values) = in_all values
  stat_kind_sizes level.Break = []
  stat_kind_sizes level.Continue = []

  abbrev pub arm_sizes : Arm-F (With ExprKind) (With FieldKind) (With StatKind) (With Arm) (With Expr) (With ExprArm) (With Field) (With FuncBody) (With Stat) → List ScopeFault
  arm_sizes a = a.cond.1 ++ in_all a.body

  abbrev pub expr_sizes : Expr-F (With ExprKind) (With FieldKind) (With StatKind) (With Arm) (With Expr) (With ExprArm) (With Field) (With FuncBody) (With Stat) → List ScopeFault
  expr_sizes e = e.kind.1

  abbrev pub expr_arm_sizes : ExprArm-F (With ExprKind) (With FieldKind) (With StatKind) (With Arm) (With Expr) (With ExprArm) (With Field) (With FuncBody) (With Stat) → List ScopeFault
  expr_arm_sizes a = a.cond.1 ++ a.value.1

  abbrev pub field_sizes : Field-F (With ExprKind) (With FieldKind) (With StatKind) (With Arm) (With Expr) (With ExprArm) (With Field) (With FuncBody) (With Stat) → List ScopeFault
  field_sizes f = f.kind.1

  abbrev pub func_sizes : FuncBody-F (With ExprKind) (With FieldKind) (With StatKind) (With Arm) (With Expr) (With ExprArm) (With Field) (With FuncBody) (With Stat) → List ScopeFault
  func_sizes f = in_all f.body

  abbrev pub stat_sizes : Stat-F (With ExprKind) (With FieldKind) (With StatKind) (With Arm) (With Expr) (With ExprArm) (With Field) (With FuncBody) (With Stat) → List ScopeFault
  stat_sizes s = s.kind.1

  abbrev pub sizes_in_expr : Expr → List ScopeFault
  sizes_in_expr = folds.para-Expr (List ScopeFault) (List ScopeFault) (List ScopeFault) (List ScopeFault) (List ScopeFault) (List ScopeFault) (List ScopeFault) (List ScopeFault) (List ScopeFault) kind_sizes field_kind_sizes stat_kind_sizes arm_sizes expr_sizes expr_arm_sizes field_sizes func_sizes stat_sizes

  abbrev pub sizes_in_stat : Stat → List ScopeFault
  sizes_in_stat = folds.para-Stat (List ScopeFault) (List ScopeFault) (List ScopeFault) (List ScopeFault) (List ScopeFault) (List ScopeFault) (List ScopeFault) (List ScopeFault) (List ScopeFault) kind_sizes field_kind_sizes stat_kind_sizes arm_sizes expr_sizes expr_arm_sizes field_sizes func_sizes stat_sizes

  abbrev pub sizes_in_arm : Arm → List ScopeFault
  sizes_in_arm = folds.para-Arm (List ScopeFault) (List ScopeFault) (List ScopeFault) (List ScopeFault) (List ScopeFault) (List ScopeFault) (List ScopeFault) (List ScopeFault) (List ScopeFault) kind_sizes field_kind_sizes stat_kind_sizes arm_sizes expr_sizes expr_arm_sizes field_sizes func_sizes stat_sizes

  abbrev pub sizes_in_expr_arm : ExprArm → List ScopeFault
  sizes_in_expr_arm = folds.para-ExprArm (List ScopeFault) (List ScopeFault) (List ScopeFault) (List ScopeFault) (List ScopeFault) (List ScopeFault) (List ScopeFault) (List ScopeFault) (List ScopeFault) kind_sizes field_kind_sizes stat_kind_sizes arm_sizes expr_sizes expr_arm_sizes field_sizes func_sizes stat_sizes

  abbrev pub sizes_in_field : Field → List ScopeFault
  sizes_in_field = folds.para-Field (List ScopeFault) (List ScopeFault) (List ScopeFault) (List ScopeFault) (List ScopeFault) (List ScopeFault) (List ScopeFault) (List ScopeFault) (List ScopeFault) kind_sizes field_kind_sizes stat_kind_sizes arm_sizes expr_sizes expr_arm_sizes field_sizes func_sizes stat_sizes

  abbrev pub sizes_in_func : FuncBody → List ScopeFault
  sizes_in_func = folds.para-FuncBody (List ScopeFault) (List ScopeFault) (List ScopeFault) (List ScopeFault) (List ScopeFault) (List ScopeFault) (List ScopeFault) (List ScopeFault) (List ScopeFault) kind_sizes field_kind_sizes stat_kind_sizes arm_sizes expr_sizes expr_arm_sizes field_sizes func_sizes stat_sizes

  -- the faults of a function and of those in it
  abbrev pub all_sizes : FuncBody → List ScopeFault
  all_sizes f = size_faults f ++ sizes_in_func f

  -- the faults of the functions in a list
  abbrev pub sizes_in_list : List Expr → List ScopeFault
  sizes_in_list es = in_all (map (λ e. (e, sizes_in_expr e)) es)

  abbrev pub sizes_in_block : List Stat → List ScopeFault
  sizes_in_block ss = in_all (map (λ s. (s, sizes_in_stat s)) ss)

  abbrev pub sizes_in_step : Option Expr → List ScopeFault
  sizes_in_step None = []
  sizes_in_step (Some e) = sizes_in_expr e

  abbrev pub sizes_in_arms : List Arm → List ScopeFault
  sizes_in_arms arms = in_all (map (λ a. (a, sizes_in_arm a)) arms)

  abbrev pub sizes_in_expr_arms : List ExprArm → List ScopeFault
  sizes_in_expr_arms arms = in_all (map (λ a. (a, sizes_in_expr_arm a)) arms)

  abbrev pub sizes_in_fields : List Field → List ScopeFault
  sizes_in_fields fs = in_all (map (λ f. (f, sizes_in_field f)) fs)
