-- How many registers each function of a tree has: as many as it needs, but one at least.
use Rattle.std.specs.Prelude.{ℕ, max, min, nat_eq, if◌then◌else◌, map, List, [], ◌∷◌, ◌++◌, Option, Some, None}
use Rattle.function_registers.specs.declared.walk.FuncRegisters.{FuncRegisters}
use Rattle.syntax_tree.specs.declared.tree.Arm.{Arm}
use Rattle.syntax_tree.specs.declared.tree.Expr.{Expr}
use Rattle.syntax_tree.specs.declared.tree.ExprArm.{ExprArm}
use Rattle.syntax_tree.specs.declared.tree.Field.{Field}
use Rattle.syntax_tree.specs.declared.tree.FuncBody.{FuncBody, out-FuncBody}
use Rattle.syntax_tree.specs.declared.tree.Stat.{Stat}
use Rattle.syntax_tree.specs.declared.tree.ExprKind.{ExprKind}
use Rattle.syntax_tree.specs.declared.tree.FieldKind.{FieldKind}
use Rattle.syntax_tree.specs.declared.tree.StatKind.{StatKind}
use Rattle.syntax_tree.specs.declared.tree.ExprKind.TheFolds as folds
use Rattle.syntax_tree.specs.declared.tree.ExprKind.TheOpen as level
use Rattle.syntax_tree.specs.declared.tree.ExprKind.TheOpen.{ExprKind-F, FieldKind-F, StatKind-F, Arm-F, Expr-F, ExprArm-F, Field-F, FuncBody-F, Stat-F}
use Rattle.syntax_tree.specs.Need.{need}

-- a part of the tree, and the registers of the functions in it
abbrev pub With : Type 0 → Type 0
With A = A × List FuncRegisters

abbrev pub in_all : {A : Type 0} → List (With A) → List FuncRegisters
in_all [] = []
in_all (p ∷ ps) = p.1 ++ in_all ps

abbrev pub in_maybe : {A : Type 0} → Option (With A) → List FuncRegisters
in_maybe None = []
in_maybe (Some p) = p.1

abbrev pub in_else : {A : Type 0} → Option (List (With A)) → List FuncRegisters
in_else None = []
in_else (Some ps) = in_all ps

-- of one function: 255 where it needs more
abbrev pub registers_for : FuncBody → ℕ
registers_for f = min (max (need f) 1) 255

abbrev pub own_entry : FuncBody → List FuncRegisters
own_entry f = record { func = (out-FuncBody f).id; registers = registers_for f } ∷ []

-- the registers of a function, and of those in it
abbrev pub made : With FuncBody → List FuncRegisters
made f = own_entry f.0 ++ f.1

abbrev pub kind_entries : ExprKind-F (With ExprKind) (With FieldKind) (With StatKind) (With Arm) (With Expr) (With ExprArm) (With Field) (With FuncBody) (With Stat) → List FuncRegisters
kind_entries level.Nil = []
kind_entries level.True = []
kind_entries level.False = []
kind_entries (level.Num n) = []
kind_entries (level.Str text) = []
kind_entries level.Vararg = []
kind_entries (level.Name name) = []
kind_entries (level.Paren e) = e.1
kind_entries (level.Unary op e) = e.1
kind_entries (level.Binary op a b) = a.1 ++ b.1
kind_entries (level.Concat es) = in_all es
kind_entries (level.Index table key) = table.1 ++ key.1
kind_entries (level.Member table name) = table.1
kind_entries (level.ExprKind::Call callee args) = callee.1 ++ in_all args
kind_entries (level.Method object name args) = object.1 ++ in_all args
kind_entries (level.Table fields) = in_all fields
kind_entries (level.Function func) = made func
kind_entries (level.ExprKind::If arms other) = in_all arms ++ other.1
kind_entries (level.Interp texts values) = in_all values

abbrev pub field_kind_entries : FieldKind-F (With ExprKind) (With FieldKind) (With StatKind) (With Arm) (With Expr) (With ExprArm) (With Field) (With FuncBody) (With Stat) → List FuncRegisters
field_kind_entries (level.Item value) = value.1
field_kind_entries (level.Named name value) = value.1
field_kind_entries (level.Keyed key value) = key.1 ++ value.1

abbrev pub stat_kind_entries : StatKind-F (With ExprKind) (With FieldKind) (With StatKind) (With Arm) (With Expr) (With ExprArm) (With Field) (With FuncBody) (With Stat) → List FuncRegisters
stat_kind_entries (level.Local names values) = in_all values
stat_kind_entries (level.Assign targets values) = in_all targets ++ in_all values
stat_kind_entries (level.Compound op target value) = target.1 ++ value.1
stat_kind_entries (level.StatKind::Call call) = call.1
stat_kind_entries (level.Do body) = in_all body
stat_kind_entries (level.While cond body) = cond.1 ++ in_all body
stat_kind_entries (level.Repeat body cond) = in_all body ++ cond.1
stat_kind_entries (level.StatKind::If arms other) = in_all arms ++ in_else other
stat_kind_entries (level.NumFor name start limit step body) = start.1 ++ (limit.1 ++ (in_maybe step ++ in_all body))
stat_kind_entries (level.GenFor names values body) = in_all values ++ in_all body
stat_kind_entries (level.LocalFunction name func) = made func
stat_kind_entries (level.Return values) = in_all values
stat_kind_entries level.Break = []
stat_kind_entries level.Continue = []

abbrev pub arm_entries : Arm-F (With ExprKind) (With FieldKind) (With StatKind) (With Arm) (With Expr) (With ExprArm) (With Field) (With FuncBody) (With Stat) → List FuncRegisters
arm_entries a = a.cond.1 ++ in_all a.body

abbrev pub expr_entries : Expr-F (With ExprKind) (With FieldKind) (With StatKind) (With Arm) (With Expr) (With ExprArm) (With Field) (With FuncBody) (With Stat) → List FuncRegisters
expr_entries e = e.kind.1

abbrev pub expr_arm_entries : ExprArm-F (With ExprKind) (With FieldKind) (With StatKind) (With Arm) (With Expr) (With ExprArm) (With Field) (With FuncBody) (With Stat) → List FuncRegisters
expr_arm_entries a = a.cond.1 ++ a.value.1

abbrev pub field_entries : Field-F (With ExprKind) (With FieldKind) (With StatKind) (With Arm) (With Expr) (With ExprArm) (With Field) (With FuncBody) (With Stat) → List FuncRegisters
field_entries f = f.kind.1

abbrev pub func_entries : FuncBody-F (With ExprKind) (With FieldKind) (With StatKind) (With Arm) (With Expr) (With ExprArm) (With Field) (With FuncBody) (With Stat) → List FuncRegisters
func_entries f = in_all f.body

abbrev pub stat_entries : Stat-F (With ExprKind) (With FieldKind) (With StatKind) (With Arm) (With Expr) (With ExprArm) (With Field) (With FuncBody) (With Stat) → List FuncRegisters
stat_entries s = s.kind.1

abbrev pub in_expr : Expr → List FuncRegisters
in_expr = folds.para-Expr (List FuncRegisters) (List FuncRegisters) (List FuncRegisters) (List FuncRegisters) (List FuncRegisters) (List FuncRegisters) (List FuncRegisters) (List FuncRegisters) (List FuncRegisters) kind_entries field_kind_entries stat_kind_entries arm_entries expr_entries expr_arm_entries field_entries func_entries stat_entries

abbrev pub in_stat : Stat → List FuncRegisters
in_stat = folds.para-Stat (List FuncRegisters) (List FuncRegisters) (List FuncRegisters) (List FuncRegisters) (List FuncRegisters) (List FuncRegisters) (List FuncRegisters) (List FuncRegisters) (List FuncRegisters) kind_entries field_kind_entries stat_kind_entries arm_entries expr_entries expr_arm_entries field_entries func_entries stat_entries

abbrev pub in_arm : Arm → List FuncRegisters
in_arm = folds.para-Arm (List FuncRegisters) (List FuncRegisters) (List FuncRegisters) (List FuncRegisters) (List FuncRegisters) (List FuncRegisters) (List FuncRegisters) (List FuncRegisters) (List FuncRegisters) kind_entries field_kind_entries stat_kind_entries arm_entries expr_entries expr_arm_entries field_entries func_entries stat_entries

abbrev pub in_expr_arm : ExprArm → List FuncRegisters
in_expr_arm = folds.para-ExprArm (List FuncRegisters) (List FuncRegisters) (List FuncRegisters) (List FuncRegisters) (List FuncRegisters) (List FuncRegisters) (List FuncRegisters) (List FuncRegisters) (List FuncRegisters) kind_entries field_kind_entries stat_kind_entries arm_entries expr_entries expr_arm_entries field_entries func_entries stat_entries

abbrev pub in_field : Field → List FuncRegisters
in_field = folds.para-Field (List FuncRegisters) (List FuncRegisters) (List FuncRegisters) (List FuncRegisters) (List FuncRegisters) (List FuncRegisters) (List FuncRegisters) (List FuncRegisters) (List FuncRegisters) kind_entries field_kind_entries stat_kind_entries arm_entries expr_entries expr_arm_entries field_entries func_entries stat_entries

abbrev pub in_func : FuncBody → List FuncRegisters
in_func = folds.para-FuncBody (List FuncRegisters) (List FuncRegisters) (List FuncRegisters) (List FuncRegisters) (List FuncRegisters) (List FuncRegisters) (List FuncRegisters) (List FuncRegisters) (List FuncRegisters) kind_entries field_kind_entries stat_kind_entries arm_entries expr_entries expr_arm_entries field_entries func_entries stat_entries

-- the registers of a function and of those in it
abbrev pub all_entries : FuncBody → List FuncRegisters
all_entries f = own_entry f ++ in_func f

-- the registers of the functions in a list
abbrev pub in_list : List Expr → List FuncRegisters
in_list es = in_all (map (λ e. (e, in_expr e)) es)

abbrev pub in_block : List Stat → List FuncRegisters
in_block ss = in_all (map (λ s. (s, in_stat s)) ss)

abbrev pub in_step : Option Expr → List FuncRegisters
in_step None = []
in_step (Some e) = in_expr e

abbrev pub in_arms : List Arm → List FuncRegisters
in_arms arms = in_all (map (λ a. (a, in_arm a)) arms)

abbrev pub in_expr_arms : List ExprArm → List FuncRegisters
in_expr_arms arms = in_all (map (λ a. (a, in_expr_arm a)) arms)

abbrev pub in_fields : List Field → List FuncRegisters
in_fields fs = in_all (map (λ f. (f, in_field f)) fs)

-- what the list says of a function; 1 where it says nothing
abbrev pub registers_in : (func : ℕ) → List FuncRegisters → ℕ
registers_in func [] = 1
registers_in func (e ∷ es) = if nat_eq e.func func then e.registers else registers_in func es

-- how many registers the function with that number has, among those of a tree
abbrev pub registers_of : (main : FuncBody) → (func : ℕ) → ℕ
registers_of main func = registers_in func (all_entries main)
