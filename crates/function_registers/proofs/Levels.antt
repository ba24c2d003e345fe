-- The registers of the functions of a part of the tree, by those of its parts.
use Rattle.std.proofs.Common.{◌≡◌, ◌∙◌, ◌++◌, List, [], Option, Some, None, refl, append-nil, append_assoc, sym, ap, subst, rules, Result, OnOk}
use Rattle.byte_text.specs.declared.fixed.StrId.{StrId}
use Rattle.function_registers.specs.declared.walk.FuncRegisters.{FuncRegisters}
use Rattle.syntax_tree.specs.declared.tree.ExprKind.{ExprKind, roll-ExprKind, out-ExprKind}
use Rattle.syntax_tree.specs.declared.tree.FieldKind.{FieldKind, roll-FieldKind, out-FieldKind}
use Rattle.syntax_tree.specs.declared.tree.StatKind.{StatKind, roll-StatKind, out-StatKind}
use Rattle.syntax_tree.specs.declared.tree.Arm.{Arm, roll-Arm, out-Arm}
use Rattle.syntax_tree.specs.declared.tree.Expr.{Expr, roll-Expr, out-Expr}
use Rattle.syntax_tree.specs.declared.tree.ExprArm.{ExprArm, roll-ExprArm, out-ExprArm}
use Rattle.syntax_tree.specs.declared.tree.Field.{Field, roll-Field, out-Field}
use Rattle.syntax_tree.specs.declared.tree.FuncBody.{FuncBody, roll-FuncBody, out-FuncBody}
use Rattle.syntax_tree.specs.declared.tree.Stat.{Stat, roll-Stat, out-Stat}
use Rattle.syntax_tree.specs.declared.tree.ExprKind.TheFolds as folds
use Rattle.syntax_tree.specs.declared.tree.ExprKind.TheViews as views
use Rattle.syntax_tree.specs.declared.tree.ExprKind as expr
use Rattle.syntax_tree.specs.declared.tree.FieldKind as fieldkind
use Rattle.syntax_tree.specs.declared.tree.StatKind as statkind
use Rattle.function_registers.specs.Registers as spec

abbrev F : Type 0
F = List FuncRegisters

abbrev entries_kind : ExprKind → List FuncRegisters
entries_kind = folds.para-ExprKind F F F F F F F F F spec.kind_entries spec.field_kind_entries spec.stat_kind_entries spec.arm_entries spec.expr_entries spec.expr_arm_entries spec.field_entries spec.func_entries spec.stat_entries

abbrev entries_field_kind : FieldKind → List FuncRegisters
entries_field_kind = folds.para-FieldKind F F F F F F F F F spec.kind_entries spec.field_kind_entries spec.stat_kind_entries spec.arm_entries spec.expr_entries spec.expr_arm_entries spec.field_entries spec.func_entries spec.stat_entries

abbrev entries_stat_kind : StatKind → List FuncRegisters
entries_stat_kind = folds.para-StatKind F F F F F F F F F spec.kind_entries spec.field_kind_entries spec.stat_kind_entries spec.arm_entries spec.expr_entries spec.expr_arm_entries spec.field_entries spec.func_entries spec.stat_entries

abbrev entries_arm : Arm → List FuncRegisters
entries_arm = folds.para-Arm F F F F F F F F F spec.kind_entries spec.field_kind_entries spec.stat_kind_entries spec.arm_entries spec.expr_entries spec.expr_arm_entries spec.field_entries spec.func_entries spec.stat_entries

abbrev entries_expr : Expr → List FuncRegisters
entries_expr = folds.para-Expr F F F F F F F F F spec.kind_entries spec.field_kind_entries spec.stat_kind_entries spec.arm_entries spec.expr_entries spec.expr_arm_entries spec.field_entries spec.func_entries spec.stat_entries

abbrev entries_expr_arm : ExprArm → List FuncRegisters
entries_expr_arm = folds.para-ExprArm F F F F F F F F F spec.kind_entries spec.field_kind_entries spec.stat_kind_entries spec.arm_entries spec.expr_entries spec.expr_arm_entries spec.field_entries spec.func_entries spec.stat_entries

abbrev entries_field : Field → List FuncRegisters
entries_field = folds.para-Field F F F F F F F F F spec.kind_entries spec.field_kind_entries spec.stat_kind_entries spec.arm_entries spec.expr_entries spec.expr_arm_entries spec.field_entries spec.func_entries spec.stat_entries

abbrev entries_func : FuncBody → List FuncRegisters
entries_func = folds.para-FuncBody F F F F F F F F F spec.kind_entries spec.field_kind_entries spec.stat_kind_entries spec.arm_entries spec.expr_entries spec.expr_arm_entries spec.field_entries spec.func_entries spec.stat_entries

abbrev entries_stat : Stat → List FuncRegisters
entries_stat = folds.para-Stat F F F F F F F F F spec.kind_entries spec.field_kind_entries spec.stat_kind_entries spec.arm_entries spec.expr_entries spec.expr_arm_entries spec.field_entries spec.func_entries spec.stat_entries

pub kind_is : (t : ExprKind) → entries_kind t ≡ spec.kind_entries (folds.map-ExprKind ExprKind FieldKind StatKind Arm Expr ExprArm Field FuncBody Stat (spec.With ExprKind) (spec.With FieldKind) (spec.With StatKind) (spec.With Arm) (spec.With Expr) (spec.With ExprArm) (spec.With Field) (spec.With FuncBody) (spec.With Stat) (λ t. (t, entries_kind t)) (λ t. (t, entries_field_kind t)) (λ t. (t, entries_stat_kind t)) (λ t. (t, entries_arm t)) (λ t. (t, entries_expr t)) (λ t. (t, entries_expr_arm t)) (λ t. (t, entries_field t)) (λ t. (t, entries_func t)) (λ t. (t, entries_stat t)) (out-ExprKind t))
kind_is t =
    let same : roll-ExprKind (out-ExprKind t) ≡ t = search (rules, folds.the_lemmas, views.the_lemmas) in
    ap entries_kind (sym same) ∙ folds.para-roll-ExprKind F F F F F F F F F spec.kind_entries spec.field_kind_entries spec.stat_kind_entries spec.arm_entries spec.expr_entries spec.expr_arm_entries spec.field_entries spec.func_entries spec.stat_entries (out-ExprKind t)

pub field_kind_is : (t : FieldKind) → entries_field_kind t ≡ spec.field_kind_entries (folds.map-FieldKind ExprKind FieldKind StatKind Arm Expr ExprArm Field FuncBody Stat (spec.With ExprKind) (spec.With FieldKind) (spec.With StatKind) (spec.With Arm) (spec.With Expr) (spec.With ExprArm) (spec.With Field) (spec.With FuncBody) (spec.With Stat) (λ t. (t, entries_kind t)) (λ t. (t, entries_field_kind t)) (λ t. (t, entries_stat_kind t)) (λ t. (t, entries_arm t)) (λ t. (t, entries_expr t)) (λ t. (t, entries_expr_arm t)) (λ t. (t, entries_field t)) (λ t. (t, entries_func t)) (λ t. (t, entries_stat t)) (out-FieldKind t))
field_kind_is t =
    let same : roll-FieldKind (out-FieldKind t) ≡ t = search (rules, folds.the_lemmas, views.the_lemmas) in
    ap entries_field_kind (sym same) ∙ folds.para-roll-FieldKind F F F F F F F F F spec.kind_entries spec.field_kind_entries spec.stat_kind_entries spec.arm_entries spec.expr_entries spec.expr_arm_entries spec.field_entries spec.func_entries spec.stat_entries (out-FieldKind t)

pub stat_kind_is : (t : StatKind) → entries_stat_kind t ≡ spec.stat_kind_entries (folds.map-StatKind ExprKind FieldKind StatKind Arm Expr ExprArm Field FuncBody Stat (spec.With ExprKind) (spec.With FieldKind) (spec.With StatKind) (spec.With Arm) (spec.With Expr) (spec.With ExprArm) (spec.With Field) (spec.With FuncBody) (spec.With Stat) (λ t. (t, entries_kind t)) (λ t. (t, entries_field_kind t)) (λ t. (t, entries_stat_kind t)) (λ t. (t, entries_arm t)) (λ t. (t, entries_expr t)) (λ t. (t, entries_expr_arm t)) (λ t. (t, entries_field t)) (λ t. (t, entries_func t)) (λ t. (t, entries_stat t)) (out-StatKind t))
stat_kind_is t =
    let same : roll-StatKind (out-StatKind t) ≡ t = search (rules, folds.the_lemmas, views.the_lemmas) in
    ap entries_stat_kind (sym same) ∙ folds.para-roll-StatKind F F F F F F F F F spec.kind_entries spec.field_kind_entries spec.stat_kind_entries spec.arm_entries spec.expr_entries spec.expr_arm_entries spec.field_entries spec.func_entries spec.stat_entries (out-StatKind t)

pub arm_is : (t : Arm) → entries_arm t ≡ spec.arm_entries (folds.map-Arm ExprKind FieldKind StatKind Arm Expr ExprArm Field FuncBody Stat (spec.With ExprKind) (spec.With FieldKind) (spec.With StatKind) (spec.With Arm) (spec.With Expr) (spec.With ExprArm) (spec.With Field) (spec.With FuncBody) (spec.With Stat) (λ t. (t, entries_kind t)) (λ t. (t, entries_field_kind t)) (λ t. (t, entries_stat_kind t)) (λ t. (t, entries_arm t)) (λ t. (t, entries_expr t)) (λ t. (t, entries_expr_arm t)) (λ t. (t, entries_field t)) (λ t. (t, entries_func t)) (λ t. (t, entries_stat t)) (out-Arm t))
arm_is t =
    let same : roll-Arm (out-Arm t) ≡ t = search (rules, folds.the_lemmas, views.the_lemmas) in
    ap entries_arm (sym same) ∙ folds.para-roll-Arm F F F F F F F F F spec.kind_entries spec.field_kind_entries spec.stat_kind_entries spec.arm_entries spec.expr_entries spec.expr_arm_entries spec.field_entries spec.func_entries spec.stat_entries (out-Arm t)

pub expr_is : (t : Expr) → entries_expr t ≡ spec.expr_entries (folds.map-Expr ExprKind FieldKind StatKind Arm Expr ExprArm Field FuncBody Stat (spec.With ExprKind) (spec.With FieldKind) (spec.With StatKind) (spec.With Arm) (spec.With Expr) (spec.With ExprArm) (spec.With Field) (spec.With FuncBody) (spec.With Stat) (λ t. (t, entries_kind t)) (λ t. (t, entries_field_kind t)) (λ t. (t, entries_stat_kind t)) (λ t. (t, entries_arm t)) (λ t. (t, entries_expr t)) (λ t. (t, entries_expr_arm t)) (λ t. (t, entries_field t)) (λ t. (t, entries_func t)) (λ t. (t, entries_stat t)) (out-Expr t))
expr_is t =
    let same : roll-Expr (out-Expr t) ≡ t = search (rules, folds.the_lemmas, views.the_lemmas) in
    ap entries_expr (sym same) ∙ folds.para-roll-Expr F F F F F F F F F spec.kind_entries spec.field_kind_entries spec.stat_kind_entries spec.arm_entries spec.expr_entries spec.expr_arm_entries spec.field_entries spec.func_entries spec.stat_entries (out-Expr t)

pub expr_arm_is : (t : ExprArm) → entries_expr_arm t ≡ spec.expr_arm_entries (folds.map-ExprArm ExprKind FieldKind StatKind Arm Expr ExprArm Field FuncBody Stat (spec.With ExprKind) (spec.With FieldKind) (spec.With StatKind) (spec.With Arm) (spec.With Expr) (spec.With ExprArm) (spec.With Field) (spec.With FuncBody) (spec.With Stat) (λ t. (t, entries_kind t)) (λ t. (t, entries_field_kind t)) (λ t. (t, entries_stat_kind t)) (λ t. (t, entries_arm t)) (λ t. (t, entries_expr t)) (λ t. (t, entries_expr_arm t)) (λ t. (t, entries_field t)) (λ t. (t, entries_func t)) (λ t. (t, entries_stat t)) (out-ExprArm t))
expr_arm_is t =
    let same : roll-ExprArm (out-ExprArm t) ≡ t = search (rules, folds.the_lemmas, views.the_lemmas) in
    ap entries_expr_arm (sym same) ∙ folds.para-roll-ExprArm F F F F F F F F F spec.kind_entries spec.field_kind_entries spec.stat_kind_entries spec.arm_entries spec.expr_entries spec.expr_arm_entries spec.field_entries spec.func_entries spec.stat_entries (out-ExprArm t)

pub field_is : (t : Field) → entries_field t ≡ spec.field_entries (folds.map-Field ExprKind FieldKind StatKind Arm Expr ExprArm Field FuncBody Stat (spec.With ExprKind) (spec.With FieldKind) (spec.With StatKind) (spec.With Arm) (spec.With Expr) (spec.With ExprArm) (spec.With Field) (spec.With FuncBody) (spec.With Stat) (λ t. (t, entries_kind t)) (λ t. (t, entries_field_kind t)) (λ t. (t, entries_stat_kind t)) (λ t. (t, entries_arm t)) (λ t. (t, entries_expr t)) (λ t. (t, entries_expr_arm t)) (λ t. (t, entries_field t)) (λ t. (t, entries_func t)) (λ t. (t, entries_stat t)) (out-Field t))
field_is t =
    let same : roll-Field (out-Field t) ≡ t = search (rules, folds.the_lemmas, views.the_lemmas) in
    ap entries_field (sym same) ∙ folds.para-roll-Field F F F F F F F F F spec.kind_entries spec.field_kind_entries spec.stat_kind_entries spec.arm_entries spec.expr_entries spec.expr_arm_entries spec.field_entries spec.func_entries spec.stat_entries (out-Field t)

pub func_is : (t : FuncBody) → entries_func t ≡ spec.func_entries (folds.map-FuncBody ExprKind FieldKind StatKind Arm Expr ExprArm Field FuncBody Stat (spec.With ExprKind) (spec.With FieldKind) (spec.With StatKind) (spec.With Arm) (spec.With Expr) (spec.With ExprArm) (spec.With Field) (spec.With FuncBody) (spec.With Stat) (λ t. (t, entries_kind t)) (λ t. (t, entries_field_kind t)) (λ t. (t, entries_stat_kind t)) (λ t. (t, entries_arm t)) (λ t. (t, entries_expr t)) (λ t. (t, entries_expr_arm t)) (λ t. (t, entries_field t)) (λ t. (t, entries_func t)) (λ t. (t, entries_stat t)) (out-FuncBody t))
func_is t =
    let same : roll-FuncBody (out-FuncBody t) ≡ t = search (rules, folds.the_lemmas, views.the_lemmas) in
    ap entries_func (sym same) ∙ folds.para-roll-FuncBody F F F F F F F F F spec.kind_entries spec.field_kind_entries spec.stat_kind_entries spec.arm_entries spec.expr_entries spec.expr_arm_entries spec.field_entries spec.func_entries spec.stat_entries (out-FuncBody t)

pub stat_is : (t : Stat) → entries_stat t ≡ spec.stat_entries (folds.map-Stat ExprKind FieldKind StatKind Arm Expr ExprArm Field FuncBody Stat (spec.With ExprKind) (spec.With FieldKind) (spec.With StatKind) (spec.With Arm) (spec.With Expr) (spec.With ExprArm) (spec.With Field) (spec.With FuncBody) (spec.With Stat) (λ t. (t, entries_kind t)) (λ t. (t, entries_field_kind t)) (λ t. (t, entries_stat_kind t)) (λ t. (t, entries_arm t)) (λ t. (t, entries_expr t)) (λ t. (t, entries_expr_arm t)) (λ t. (t, entries_field t)) (λ t. (t, entries_func t)) (λ t. (t, entries_stat t)) (out-Stat t))
stat_is t =
    let same : roll-Stat (out-Stat t) ≡ t = search (rules, folds.the_lemmas, views.the_lemmas) in
    ap entries_stat (sym same) ∙ folds.para-roll-Stat F F F F F F F F F spec.kind_entries spec.field_kind_entries spec.stat_kind_entries spec.arm_entries spec.expr_entries spec.expr_arm_entries spec.field_entries spec.func_entries spec.stat_entries (out-Stat t)

-- ---- each kind of expression

pub of_nil : (e : Expr) → e.kind ≡ expr.Nil → spec.in_expr e ≡ []
of_nil e h = search (rules, folds.the_lemmas, views.the_lemmas, kind_is, field_kind_is, stat_kind_is, arm_is, expr_is, expr_arm_is, field_is, func_is, stat_is)

pub of_true : (e : Expr) → e.kind ≡ expr.True → spec.in_expr e ≡ []
of_true e h = search (rules, folds.the_lemmas, views.the_lemmas, kind_is, field_kind_is, stat_kind_is, arm_is, expr_is, expr_arm_is, field_is, func_is, stat_is)

pub of_false : (e : Expr) → e.kind ≡ expr.False → spec.in_expr e ≡ []
of_false e h = search (rules, folds.the_lemmas, views.the_lemmas, kind_is, field_kind_is, stat_kind_is, arm_is, expr_is, expr_arm_is, field_is, func_is, stat_is)

pub of_num : (e : Expr) (n : _) → e.kind ≡ expr.Num n → spec.in_expr e ≡ []
of_num e n h = search (rules, folds.the_lemmas, views.the_lemmas, kind_is, field_kind_is, stat_kind_is, arm_is, expr_is, expr_arm_is, field_is, func_is, stat_is)

pub of_str : (e : Expr) (n : _) → e.kind ≡ expr.Str n → spec.in_expr e ≡ []
of_str e n h = search (rules, folds.the_lemmas, views.the_lemmas, kind_is, field_kind_is, stat_kind_is, arm_is, expr_is, expr_arm_is, field_is, func_is, stat_is)

pub of_vararg : (e : Expr) → e.kind ≡ expr.Vararg → spec.in_expr e ≡ []
of_vararg e h = search (rules, folds.the_lemmas, views.the_lemmas, kind_is, field_kind_is, stat_kind_is, arm_is, expr_is, expr_arm_is, field_is, func_is, stat_is)

pub of_name : (e : Expr) (n : _) → e.kind ≡ expr.Name n → spec.in_expr e ≡ []
of_name e n h = search (rules, folds.the_lemmas, views.the_lemmas, kind_is, field_kind_is, stat_kind_is, arm_is, expr_is, expr_arm_is, field_is, func_is, stat_is)

pub of_paren : (e : Expr) (x : Expr) → e.kind ≡ expr.Paren x → spec.in_expr e ≡ spec.in_expr x
of_paren e x h = search (rules, folds.the_lemmas, views.the_lemmas, kind_is, field_kind_is, stat_kind_is, arm_is, expr_is, expr_arm_is, field_is, func_is, stat_is)

pub of_unary : (e : Expr) (op : _) (x : Expr) → e.kind ≡ expr.Unary op x → spec.in_expr e ≡ spec.in_expr x
of_unary e op x h = search (rules, folds.the_lemmas, views.the_lemmas, kind_is, field_kind_is, stat_kind_is, arm_is, expr_is, expr_arm_is, field_is, func_is, stat_is)

pub of_binary : (e : Expr) (op : _) (x : Expr) (y : Expr) → e.kind ≡ expr.Binary op x y → spec.in_expr e ≡ spec.in_expr x ++ spec.in_expr y
of_binary e op x y h = search (rules, folds.the_lemmas, views.the_lemmas, kind_is, field_kind_is, stat_kind_is, arm_is, expr_is, expr_arm_is, field_is, func_is, stat_is)

pub of_concat : (e : Expr) (xs : List Expr) → e.kind ≡ expr.Concat xs → spec.in_expr e ≡ spec.in_list xs
of_concat e xs h = search (rules, folds.the_lemmas, views.the_lemmas, kind_is, field_kind_is, stat_kind_is, arm_is, expr_is, expr_arm_is, field_is, func_is, stat_is)

pub of_index : (e : Expr) (x : Expr) (y : Expr) → e.kind ≡ expr.Index x y → spec.in_expr e ≡ spec.in_expr x ++ spec.in_expr y
of_index e x y h = search (rules, folds.the_lemmas, views.the_lemmas, kind_is, field_kind_is, stat_kind_is, arm_is, expr_is, expr_arm_is, field_is, func_is, stat_is)

pub of_member : (e : Expr) (x : Expr) (n : _) → e.kind ≡ expr.Member x n → spec.in_expr e ≡ spec.in_expr x
of_member e x n h = search (rules, folds.the_lemmas, views.the_lemmas, kind_is, field_kind_is, stat_kind_is, arm_is, expr_is, expr_arm_is, field_is, func_is, stat_is)

pub of_call : (e : Expr) (x : Expr) (xs : List Expr) → e.kind ≡ expr.Call x xs → spec.in_expr e ≡ spec.in_expr x ++ spec.in_list xs
of_call e x xs h = search (rules, folds.the_lemmas, views.the_lemmas, kind_is, field_kind_is, stat_kind_is, arm_is, expr_is, expr_arm_is, field_is, func_is, stat_is)

pub of_method : (e : Expr) (x : Expr) (n : _) (xs : List Expr) → e.kind ≡ expr.Method x n xs → spec.in_expr e ≡ spec.in_expr x ++ spec.in_list xs
of_method e x n xs h = search (rules, folds.the_lemmas, views.the_lemmas, kind_is, field_kind_is, stat_kind_is, arm_is, expr_is, expr_arm_is, field_is, func_is, stat_is)

pub of_table : (e : Expr) (fs : List Field) → e.kind ≡ expr.Table fs → spec.in_expr e ≡ spec.in_fields fs
of_table e fs h = search (rules, folds.the_lemmas, views.the_lemmas, kind_is, field_kind_is, stat_kind_is, arm_is, expr_is, expr_arm_is, field_is, func_is, stat_is)

pub of_function : (e : Expr) (f : FuncBody) → e.kind ≡ expr.Function f → spec.in_expr e ≡ spec.all_entries f
of_function e f h = search (rules, folds.the_lemmas, views.the_lemmas, kind_is, field_kind_is, stat_kind_is, arm_is, expr_is, expr_arm_is, field_is, func_is, stat_is)

pub of_if : (e : Expr) (arms : List ExprArm) (x : Expr) → e.kind ≡ expr.If arms x → spec.in_expr e ≡ spec.in_expr_arms arms ++ spec.in_expr x
of_if e arms x h = search (rules, folds.the_lemmas, views.the_lemmas, kind_is, field_kind_is, stat_kind_is, arm_is, expr_is, expr_arm_is, field_is, func_is, stat_is)

pub of_interp : (e : Expr) (ns : _) (xs : List Expr) → e.kind ≡ expr.Interp ns xs → spec.in_expr e ≡ spec.in_list xs
of_interp e ns xs h = search (rules, folds.the_lemmas, views.the_lemmas, kind_is, field_kind_is, stat_kind_is, arm_is, expr_is, expr_arm_is, field_is, func_is, stat_is)

-- ---- each kind of field

pub of_item : (f : Field) (x : Expr) → f.kind ≡ fieldkind.Item x → spec.in_field f ≡ spec.in_expr x
of_item f x h = search (rules, folds.the_lemmas, views.the_lemmas, kind_is, field_kind_is, stat_kind_is, arm_is, expr_is, expr_arm_is, field_is, func_is, stat_is)

pub of_named : (f : Field) (n : _) (x : Expr) → f.kind ≡ fieldkind.Named n x → spec.in_field f ≡ spec.in_expr x
of_named f n x h = search (rules, folds.the_lemmas, views.the_lemmas, kind_is, field_kind_is, stat_kind_is, arm_is, expr_is, expr_arm_is, field_is, func_is, stat_is)

pub of_keyed : (f : Field) (x : Expr) (y : Expr) → f.kind ≡ fieldkind.Keyed x y → spec.in_field f ≡ spec.in_expr x ++ spec.in_expr y
of_keyed f x y h = search (rules, folds.the_lemmas, views.the_lemmas, kind_is, field_kind_is, stat_kind_is, arm_is, expr_is, expr_arm_is, field_is, func_is, stat_is)

-- ---- each kind of statement

pub of_local : (s : Stat) (ns : _) (xs : List Expr) → s.kind ≡ statkind.Local ns xs → spec.in_stat s ≡ spec.in_list xs
of_local s ns xs h = search (rules, folds.the_lemmas, views.the_lemmas, kind_is, field_kind_is, stat_kind_is, arm_is, expr_is, expr_arm_is, field_is, func_is, stat_is)

pub of_assign : (s : Stat) (xs : List Expr) (ys : List Expr) → s.kind ≡ statkind.Assign xs ys → spec.in_stat s ≡ spec.in_list xs ++ spec.in_list ys
of_assign s xs ys h = search (rules, folds.the_lemmas, views.the_lemmas, kind_is, field_kind_is, stat_kind_is, arm_is, expr_is, expr_arm_is, field_is, func_is, stat_is)

pub of_compound : (s : Stat) (op : _) (x : Expr) (y : Expr) → s.kind ≡ statkind.Compound op x y → spec.in_stat s ≡ spec.in_expr x ++ spec.in_expr y
of_compound s op x y h = search (rules, folds.the_lemmas, views.the_lemmas, kind_is, field_kind_is, stat_kind_is, arm_is, expr_is, expr_arm_is, field_is, func_is, stat_is)

pub of_call_statement : (s : Stat) (x : Expr) → s.kind ≡ statkind.Call x → spec.in_stat s ≡ spec.in_expr x
of_call_statement s x h = search (rules, folds.the_lemmas, views.the_lemmas, kind_is, field_kind_is, stat_kind_is, arm_is, expr_is, expr_arm_is, field_is, func_is, stat_is)

pub of_do : (s : Stat) (body : List Stat) → s.kind ≡ statkind.Do body → spec.in_stat s ≡ spec.in_block body
of_do s body h = search (rules, folds.the_lemmas, views.the_lemmas, kind_is, field_kind_is, stat_kind_is, arm_is, expr_is, expr_arm_is, field_is, func_is, stat_is)

pub of_while : (s : Stat) (x : Expr) (body : List Stat) → s.kind ≡ statkind.While x body → spec.in_stat s ≡ spec.in_expr x ++ spec.in_block body
of_while s x body h = search (rules, folds.the_lemmas, views.the_lemmas, kind_is, field_kind_is, stat_kind_is, arm_is, expr_is, expr_arm_is, field_is, func_is, stat_is)

pub of_repeat : (s : Stat) (body : List Stat) (x : Expr) → s.kind ≡ statkind.Repeat body x → spec.in_stat s ≡ spec.in_block body ++ spec.in_expr x
of_repeat s body x h = search (rules, folds.the_lemmas, views.the_lemmas, kind_is, field_kind_is, stat_kind_is, arm_is, expr_is, expr_arm_is, field_is, func_is, stat_is)

if_some : (arms : List Arm) (body : List Stat) → entries_stat_kind (statkind.If arms (Some body)) ≡ spec.in_arms arms ++ spec.in_block body
if_some arms body = stat_kind_is (statkind.If arms (Some body)) ∙ first_of (search views.the_lemmas, search (rules, views.the_lemmas), search (rules, folds.the_lemmas, views.the_lemmas))

num_none : (n : StrId) (x y : Expr) (body : List Stat) → entries_stat_kind (statkind.NumFor n x y None body) ≡ spec.in_expr x ++ (spec.in_expr y ++ spec.in_block body)
num_none n x y body = stat_kind_is (statkind.NumFor n x y None body) ∙ first_of (search views.the_lemmas, search (rules, views.the_lemmas), search (rules, folds.the_lemmas, views.the_lemmas))

num_some : (n : StrId) (x y z : Expr) (body : List Stat) → entries_stat_kind (statkind.NumFor n x y (Some z) body) ≡ spec.in_expr x ++ (spec.in_expr y ++ (spec.in_expr z ++ spec.in_block body))
num_some n x y z body = stat_kind_is (statkind.NumFor n x y (Some z) body) ∙ first_of (search views.the_lemmas, search (rules, views.the_lemmas), search (rules, folds.the_lemmas, views.the_lemmas))

whole : (s : Stat) → spec.in_stat s ≡ entries_stat_kind s.kind
whole s = search (rules, folds.the_lemmas, views.the_lemmas, kind_is, field_kind_is, stat_kind_is, arm_is, expr_is, expr_arm_is, field_is, func_is, stat_is)

pub of_if_none : (s : Stat) (arms : List Arm) (other : Option (List Stat)) → s.kind ≡ statkind.If arms other → other ≡ None → spec.in_stat s ≡ spec.in_arms arms
of_if_none s arms other h e =
    let none : entries_stat_kind (statkind.If arms None) ≡ spec.in_arms arms ++ [] = search (rules, folds.the_lemmas, views.the_lemmas, kind_is, field_kind_is, stat_kind_is, arm_is, expr_is, expr_arm_is, field_is, func_is, stat_is) in
    whole s ∙ ap entries_stat_kind (h ∙ ap (λ o. statkind.If arms o) e) ∙ none ∙ append-nil (spec.in_arms arms)

pub of_if_some : (s : Stat) (arms : List Arm) (other : Option (List Stat)) (body : List Stat) → s.kind ≡ statkind.If arms other → other ≡ Some body → spec.in_stat s ≡ spec.in_arms arms ++ spec.in_block body
of_if_some s arms other body h e = whole s ∙ ap entries_stat_kind (h ∙ ap (λ o. statkind.If arms o) e) ∙ if_some arms body

pub of_num_for : (s : Stat) (n : StrId) (x : Expr) (y : Expr) (z : Option Expr) (body : List Stat) → s.kind ≡ statkind.NumFor n x y z body → spec.in_stat s ≡ spec.in_expr x ++ (spec.in_expr y ++ (spec.in_step z ++ spec.in_block body))
of_num_for s n x y None body h = whole s ∙ ap entries_stat_kind h ∙ num_none n x y body
of_num_for s n x y (Some z) body h = whole s ∙ ap entries_stat_kind h ∙ num_some n x y z body

pub of_gen_for : (s : Stat) (ns : _) (xs : List Expr) (body : List Stat) → s.kind ≡ statkind.GenFor ns xs body → spec.in_stat s ≡ spec.in_list xs ++ spec.in_block body
of_gen_for s ns xs body h = search (rules, folds.the_lemmas, views.the_lemmas, kind_is, field_kind_is, stat_kind_is, arm_is, expr_is, expr_arm_is, field_is, func_is, stat_is)

pub of_local_function : (s : Stat) (n : _) (f : FuncBody) → s.kind ≡ statkind.LocalFunction n f → spec.in_stat s ≡ spec.all_entries f
of_local_function s n f h = search (rules, folds.the_lemmas, views.the_lemmas, kind_is, field_kind_is, stat_kind_is, arm_is, expr_is, expr_arm_is, field_is, func_is, stat_is)

pub of_return : (s : Stat) (xs : List Expr) → s.kind ≡ statkind.Return xs → spec.in_stat s ≡ spec.in_list xs
of_return s xs h = search (rules, folds.the_lemmas, views.the_lemmas, kind_is, field_kind_is, stat_kind_is, arm_is, expr_is, expr_arm_is, field_is, func_is, stat_is)

pub of_break : (s : Stat) → s.kind ≡ statkind.Break → spec.in_stat s ≡ []
of_break s h = search (rules, folds.the_lemmas, views.the_lemmas, kind_is, field_kind_is, stat_kind_is, arm_is, expr_is, expr_arm_is, field_is, func_is, stat_is)

pub of_continue : (s : Stat) → s.kind ≡ statkind.Continue → spec.in_stat s ≡ []
of_continue s h = search (rules, folds.the_lemmas, views.the_lemmas, kind_is, field_kind_is, stat_kind_is, arm_is, expr_is, expr_arm_is, field_is, func_is, stat_is)

-- ---- arms and functions

pub of_arm : (a : Arm) → spec.in_arm a ≡ spec.in_expr (out-Arm a).cond ++ spec.in_block (out-Arm a).body
of_arm a = search (rules, folds.the_lemmas, views.the_lemmas, kind_is, field_kind_is, stat_kind_is, arm_is, expr_is, expr_arm_is, field_is, func_is, stat_is)

pub of_expr_arm : (a : ExprArm) → spec.in_expr_arm a ≡ spec.in_expr a.cond ++ spec.in_expr a.value
of_expr_arm a = search (rules, folds.the_lemmas, views.the_lemmas, kind_is, field_kind_is, stat_kind_is, arm_is, expr_is, expr_arm_is, field_is, func_is, stat_is)

pub of_func : (f : FuncBody) → spec.in_func f ≡ spec.in_block (out-FuncBody f).body
of_func f = search (rules, folds.the_lemmas, views.the_lemmas, kind_is, field_kind_is, stat_kind_is, arm_is, expr_is, expr_arm_is, field_is, func_is, stat_is)

pub of_all : (f : FuncBody) → spec.all_entries f ≡ spec.own_entry f ++ spec.in_block (out-FuncBody f).body
of_all f = ap (λ l. spec.own_entry f ++ l) (of_func f)

-- ---- entries that are added one after the other

pub two : {T R : Type 0} (r : Result T R) (last mid first a b s : List FuncRegisters) → s ≡ a ++ b → mid ≡ first ++ a → OnOk r (last ≡ mid ++ b) → OnOk r (last ≡ first ++ s)
two r last mid first a b s e p h = subst (λ z. OnOk r (last ≡ z)) (ap (λ l. l ++ b) p ∙ append_assoc first a b ∙ sym (ap (λ l. first ++ l) e)) h

pub four : {T R : Type 0} (r : Result T R) (last m3 m2 m1 first a b c d s : List FuncRegisters) → s ≡ a ++ (b ++ (c ++ d)) → m1 ≡ first ++ a → m2 ≡ m1 ++ b → m3 ≡ m2 ++ c → OnOk r (last ≡ m3 ++ d) → OnOk r (last ≡ first ++ s)
four r last m3 m2 m1 first a b c d s e p q t h =
    two r last m1 first a (b ++ (c ++ d)) s e p (two r last m2 m1 b (c ++ d) (b ++ (c ++ d)) refl q (two r last m3 m2 c d (c ++ d) refl t h))
