-- What a part of the tree notes, by what its parts do.
use Rattle.std.proofs.Common.{◌≡◌, ◌∙◌, List, sym, ap, rules}
use Rattle.function_registers.specs.declared.walk.FuncRegisters.{FuncRegisters}
use Rattle.syntax_tree.specs.declared.tree.ExprKind.{ExprKind, roll-ExprKind, out-ExprKind}
use Rattle.syntax_tree.specs.declared.tree.FieldKind.{FieldKind, roll-FieldKind, out-FieldKind}
use Rattle.syntax_tree.specs.declared.tree.StatKind.{StatKind, roll-StatKind, out-StatKind}
use Rattle.syntax_tree.specs.declared.tree.Arm.{Arm, roll-Arm, out-Arm}
use Rattle.syntax_tree.specs.declared.tree.Expr.{Expr, roll-Expr, out-Expr}
use Rattle.syntax_tree.specs.declared.tree.ExprArm.{ExprArm, roll-ExprArm, out-ExprArm}
use Rattle.syntax_tree.specs.declared.tree.Field.{Field, roll-Field, out-Field}
use Rattle.syntax_tree.specs.declared.tree.FuncBody.{FuncBody, roll-FuncBody, out-FuncBody}
use Rattle.syntax_tree.specs.declared.tree.Stat.{Stat, roll-Stat, out-Stat}
use Rattle.syntax_tree.specs.declared.tree.ExprKind.TheFolds as folds
use Rattle.syntax_tree.specs.declared.tree.ExprKind.TheOpen.{ExprKind-F, FieldKind-F, StatKind-F, Arm-F, Expr-F, ExprArm-F, Field-F, FuncBody-F, Stat-F}
use Rattle.syntax_tree.specs.declared.tree.ExprKind.TheViews as views
use Rattle.function_registers.specs.Registers as spec

abbrev F : Type 0
F = List FuncRegisters

abbrev pub noted_kind : ExprKind → List FuncRegisters
noted_kind = folds.para-ExprKind F F F F F F F F F spec.kind_entries spec.field_kind_entries spec.stat_kind_entries spec.arm_entries spec.expr_entries spec.expr_arm_entries spec.field_entries spec.func_entries spec.stat_entries

abbrev pub noted_field_kind : FieldKind → List FuncRegisters
noted_field_kind = folds.para-FieldKind F F F F F F F F F spec.kind_entries spec.field_kind_entries spec.stat_kind_entries spec.arm_entries spec.expr_entries spec.expr_arm_entries spec.field_entries spec.func_entries spec.stat_entries

abbrev pub noted_stat_kind : StatKind → List FuncRegisters
noted_stat_kind = folds.para-StatKind F F F F F F F F F spec.kind_entries spec.field_kind_entries spec.stat_kind_entries spec.arm_entries spec.expr_entries spec.expr_arm_entries spec.field_entries spec.func_entries spec.stat_entries

abbrev pub noted_arm : Arm → List FuncRegisters
noted_arm = folds.para-Arm F F F F F F F F F spec.kind_entries spec.field_kind_entries spec.stat_kind_entries spec.arm_entries spec.expr_entries spec.expr_arm_entries spec.field_entries spec.func_entries spec.stat_entries

abbrev pub noted_expr : Expr → List FuncRegisters
noted_expr = folds.para-Expr F F F F F F F F F spec.kind_entries spec.field_kind_entries spec.stat_kind_entries spec.arm_entries spec.expr_entries spec.expr_arm_entries spec.field_entries spec.func_entries spec.stat_entries

abbrev pub noted_expr_arm : ExprArm → List FuncRegisters
noted_expr_arm = folds.para-ExprArm F F F F F F F F F spec.kind_entries spec.field_kind_entries spec.stat_kind_entries spec.arm_entries spec.expr_entries spec.expr_arm_entries spec.field_entries spec.func_entries spec.stat_entries

abbrev pub noted_field : Field → List FuncRegisters
noted_field = folds.para-Field F F F F F F F F F spec.kind_entries spec.field_kind_entries spec.stat_kind_entries spec.arm_entries spec.expr_entries spec.expr_arm_entries spec.field_entries spec.func_entries spec.stat_entries

abbrev pub noted_func : FuncBody → List FuncRegisters
noted_func = folds.para-FuncBody F F F F F F F F F spec.kind_entries spec.field_kind_entries spec.stat_kind_entries spec.arm_entries spec.expr_entries spec.expr_arm_entries spec.field_entries spec.func_entries spec.stat_entries

abbrev pub noted_stat : Stat → List FuncRegisters
noted_stat = folds.para-Stat F F F F F F F F F spec.kind_entries spec.field_kind_entries spec.stat_kind_entries spec.arm_entries spec.expr_entries spec.expr_arm_entries spec.field_entries spec.func_entries spec.stat_entries

abbrev pub kind_level : ExprKind-F ExprKind FieldKind StatKind Arm Expr ExprArm Field FuncBody Stat → List FuncRegisters
kind_level l = spec.kind_entries (folds.map-ExprKind ExprKind FieldKind StatKind Arm Expr ExprArm Field FuncBody Stat (spec.With ExprKind) (spec.With FieldKind) (spec.With StatKind) (spec.With Arm) (spec.With Expr) (spec.With ExprArm) (spec.With Field) (spec.With FuncBody) (spec.With Stat) (λ t. (t, noted_kind t)) (λ t. (t, noted_field_kind t)) (λ t. (t, noted_stat_kind t)) (λ t. (t, noted_arm t)) (λ t. (t, noted_expr t)) (λ t. (t, noted_expr_arm t)) (λ t. (t, noted_field t)) (λ t. (t, noted_func t)) (λ t. (t, noted_stat t)) l)

pub kind_is : (t : ExprKind) → noted_kind t ≡ kind_level (out-ExprKind t)
kind_is t =
    let same : roll-ExprKind (out-ExprKind t) ≡ t = search (rules, folds.the_lemmas, views.the_lemmas) in
    ap noted_kind (sym same) ∙ folds.para-roll-ExprKind F F F F F F F F F spec.kind_entries spec.field_kind_entries spec.stat_kind_entries spec.arm_entries spec.expr_entries spec.expr_arm_entries spec.field_entries spec.func_entries spec.stat_entries (out-ExprKind t)

abbrev pub field_kind_level : FieldKind-F ExprKind FieldKind StatKind Arm Expr ExprArm Field FuncBody Stat → List FuncRegisters
field_kind_level l = spec.field_kind_entries (folds.map-FieldKind ExprKind FieldKind StatKind Arm Expr ExprArm Field FuncBody Stat (spec.With ExprKind) (spec.With FieldKind) (spec.With StatKind) (spec.With Arm) (spec.With Expr) (spec.With ExprArm) (spec.With Field) (spec.With FuncBody) (spec.With Stat) (λ t. (t, noted_kind t)) (λ t. (t, noted_field_kind t)) (λ t. (t, noted_stat_kind t)) (λ t. (t, noted_arm t)) (λ t. (t, noted_expr t)) (λ t. (t, noted_expr_arm t)) (λ t. (t, noted_field t)) (λ t. (t, noted_func t)) (λ t. (t, noted_stat t)) l)

pub field_kind_is : (t : FieldKind) → noted_field_kind t ≡ field_kind_level (out-FieldKind t)
field_kind_is t =
    let same : roll-FieldKind (out-FieldKind t) ≡ t = search (rules, folds.the_lemmas, views.the_lemmas) in
    ap noted_field_kind (sym same) ∙ folds.para-roll-FieldKind F F F F F F F F F spec.kind_entries spec.field_kind_entries spec.stat_kind_entries spec.arm_entries spec.expr_entries spec.expr_arm_entries spec.field_entries spec.func_entries spec.stat_entries (out-FieldKind t)

abbrev pub stat_kind_level : StatKind-F ExprKind FieldKind StatKind Arm Expr ExprArm Field FuncBody Stat → List FuncRegisters
stat_kind_level l = spec.stat_kind_entries (folds.map-StatKind ExprKind FieldKind StatKind Arm Expr ExprArm Field FuncBody Stat (spec.With ExprKind) (spec.With FieldKind) (spec.With StatKind) (spec.With Arm) (spec.With Expr) (spec.With ExprArm) (spec.With Field) (spec.With FuncBody) (spec.With Stat) (λ t. (t, noted_kind t)) (λ t. (t, noted_field_kind t)) (λ t. (t, noted_stat_kind t)) (λ t. (t, noted_arm t)) (λ t. (t, noted_expr t)) (λ t. (t, noted_expr_arm t)) (λ t. (t, noted_field t)) (λ t. (t, noted_func t)) (λ t. (t, noted_stat t)) l)

pub stat_kind_is : (t : StatKind) → noted_stat_kind t ≡ stat_kind_level (out-StatKind t)
stat_kind_is t =
    let same : roll-StatKind (out-StatKind t) ≡ t = search (rules, folds.the_lemmas, views.the_lemmas) in
    ap noted_stat_kind (sym same) ∙ folds.para-roll-StatKind F F F F F F F F F spec.kind_entries spec.field_kind_entries spec.stat_kind_entries spec.arm_entries spec.expr_entries spec.expr_arm_entries spec.field_entries spec.func_entries spec.stat_entries (out-StatKind t)

abbrev pub arm_level : Arm-F ExprKind FieldKind StatKind Arm Expr ExprArm Field FuncBody Stat → List FuncRegisters
arm_level l = spec.arm_entries (folds.map-Arm ExprKind FieldKind StatKind Arm Expr ExprArm Field FuncBody Stat (spec.With ExprKind) (spec.With FieldKind) (spec.With StatKind) (spec.With Arm) (spec.With Expr) (spec.With ExprArm) (spec.With Field) (spec.With FuncBody) (spec.With Stat) (λ t. (t, noted_kind t)) (λ t. (t, noted_field_kind t)) (λ t. (t, noted_stat_kind t)) (λ t. (t, noted_arm t)) (λ t. (t, noted_expr t)) (λ t. (t, noted_expr_arm t)) (λ t. (t, noted_field t)) (λ t. (t, noted_func t)) (λ t. (t, noted_stat t)) l)

pub arm_is : (t : Arm) → noted_arm t ≡ arm_level (out-Arm t)
arm_is t =
    let same : roll-Arm (out-Arm t) ≡ t = search (rules, folds.the_lemmas, views.the_lemmas) in
    ap noted_arm (sym same) ∙ folds.para-roll-Arm F F F F F F F F F spec.kind_entries spec.field_kind_entries spec.stat_kind_entries spec.arm_entries spec.expr_entries spec.expr_arm_entries spec.field_entries spec.func_entries spec.stat_entries (out-Arm t)

abbrev pub expr_level : Expr-F ExprKind FieldKind StatKind Arm Expr ExprArm Field FuncBody Stat → List FuncRegisters
expr_level l = spec.expr_entries (folds.map-Expr ExprKind FieldKind StatKind Arm Expr ExprArm Field FuncBody Stat (spec.With ExprKind) (spec.With FieldKind) (spec.With StatKind) (spec.With Arm) (spec.With Expr) (spec.With ExprArm) (spec.With Field) (spec.With FuncBody) (spec.With Stat) (λ t. (t, noted_kind t)) (λ t. (t, noted_field_kind t)) (λ t. (t, noted_stat_kind t)) (λ t. (t, noted_arm t)) (λ t. (t, noted_expr t)) (λ t. (t, noted_expr_arm t)) (λ t. (t, noted_field t)) (λ t. (t, noted_func t)) (λ t. (t, noted_stat t)) l)

pub expr_is : (t : Expr) → noted_expr t ≡ expr_level (out-Expr t)
expr_is t =
    let same : roll-Expr (out-Expr t) ≡ t = search (rules, folds.the_lemmas, views.the_lemmas) in
    ap noted_expr (sym same) ∙ folds.para-roll-Expr F F F F F F F F F spec.kind_entries spec.field_kind_entries spec.stat_kind_entries spec.arm_entries spec.expr_entries spec.expr_arm_entries spec.field_entries spec.func_entries spec.stat_entries (out-Expr t)

abbrev pub expr_arm_level : ExprArm-F ExprKind FieldKind StatKind Arm Expr ExprArm Field FuncBody Stat → List FuncRegisters
expr_arm_level l = spec.expr_arm_entries (folds.map-ExprArm ExprKind FieldKind StatKind Arm Expr ExprArm Field FuncBody Stat (spec.With ExprKind) (spec.With FieldKind) (spec.With StatKind) (spec.With Arm) (spec.With Expr) (spec.With ExprArm) (spec.With Field) (spec.With FuncBody) (spec.With Stat) (λ t. (t, noted_kind t)) (λ t. (t, noted_field_kind t)) (λ t. (t, noted_stat_kind t)) (λ t. (t, noted_arm t)) (λ t. (t, noted_expr t)) (λ t. (t, noted_expr_arm t)) (λ t. (t, noted_field t)) (λ t. (t, noted_func t)) (λ t. (t, noted_stat t)) l)

pub expr_arm_is : (t : ExprArm) → noted_expr_arm t ≡ expr_arm_level (out-ExprArm t)
expr_arm_is t =
    let same : roll-ExprArm (out-ExprArm t) ≡ t = search (rules, folds.the_lemmas, views.the_lemmas) in
    ap noted_expr_arm (sym same) ∙ folds.para-roll-ExprArm F F F F F F F F F spec.kind_entries spec.field_kind_entries spec.stat_kind_entries spec.arm_entries spec.expr_entries spec.expr_arm_entries spec.field_entries spec.func_entries spec.stat_entries (out-ExprArm t)

abbrev pub field_level : Field-F ExprKind FieldKind StatKind Arm Expr ExprArm Field FuncBody Stat → List FuncRegisters
field_level l = spec.field_entries (folds.map-Field ExprKind FieldKind StatKind Arm Expr ExprArm Field FuncBody Stat (spec.With ExprKind) (spec.With FieldKind) (spec.With StatKind) (spec.With Arm) (spec.With Expr) (spec.With ExprArm) (spec.With Field) (spec.With FuncBody) (spec.With Stat) (λ t. (t, noted_kind t)) (λ t. (t, noted_field_kind t)) (λ t. (t, noted_stat_kind t)) (λ t. (t, noted_arm t)) (λ t. (t, noted_expr t)) (λ t. (t, noted_expr_arm t)) (λ t. (t, noted_field t)) (λ t. (t, noted_func t)) (λ t. (t, noted_stat t)) l)

pub field_is : (t : Field) → noted_field t ≡ field_level (out-Field t)
field_is t =
    let same : roll-Field (out-Field t) ≡ t = search (rules, folds.the_lemmas, views.the_lemmas) in
    ap noted_field (sym same) ∙ folds.para-roll-Field F F F F F F F F F spec.kind_entries spec.field_kind_entries spec.stat_kind_entries spec.arm_entries spec.expr_entries spec.expr_arm_entries spec.field_entries spec.func_entries spec.stat_entries (out-Field t)

abbrev pub func_level : FuncBody-F ExprKind FieldKind StatKind Arm Expr ExprArm Field FuncBody Stat → List FuncRegisters
func_level l = spec.func_entries (folds.map-FuncBody ExprKind FieldKind StatKind Arm Expr ExprArm Field FuncBody Stat (spec.With ExprKind) (spec.With FieldKind) (spec.With StatKind) (spec.With Arm) (spec.With Expr) (spec.With ExprArm) (spec.With Field) (spec.With FuncBody) (spec.With Stat) (λ t. (t, noted_kind t)) (λ t. (t, noted_field_kind t)) (λ t. (t, noted_stat_kind t)) (λ t. (t, noted_arm t)) (λ t. (t, noted_expr t)) (λ t. (t, noted_expr_arm t)) (λ t. (t, noted_field t)) (λ t. (t, noted_func t)) (λ t. (t, noted_stat t)) l)

pub func_is : (t : FuncBody) → noted_func t ≡ func_level (out-FuncBody t)
func_is t =
    let same : roll-FuncBody (out-FuncBody t) ≡ t = search (rules, folds.the_lemmas, views.the_lemmas) in
    ap noted_func (sym same) ∙ folds.para-roll-FuncBody F F F F F F F F F spec.kind_entries spec.field_kind_entries spec.stat_kind_entries spec.arm_entries spec.expr_entries spec.expr_arm_entries spec.field_entries spec.func_entries spec.stat_entries (out-FuncBody t)

abbrev pub stat_level : Stat-F ExprKind FieldKind StatKind Arm Expr ExprArm Field FuncBody Stat → List FuncRegisters
stat_level l = spec.stat_entries (folds.map-Stat ExprKind FieldKind StatKind Arm Expr ExprArm Field FuncBody Stat (spec.With ExprKind) (spec.With FieldKind) (spec.With StatKind) (spec.With Arm) (spec.With Expr) (spec.With ExprArm) (spec.With Field) (spec.With FuncBody) (spec.With Stat) (λ t. (t, noted_kind t)) (λ t. (t, noted_field_kind t)) (λ t. (t, noted_stat_kind t)) (λ t. (t, noted_arm t)) (λ t. (t, noted_expr t)) (λ t. (t, noted_expr_arm t)) (λ t. (t, noted_field t)) (λ t. (t, noted_func t)) (λ t. (t, noted_stat t)) l)

pub stat_is : (t : Stat) → noted_stat t ≡ stat_level (out-Stat t)
stat_is t =
    let same : roll-Stat (out-Stat t) ≡ t = search (rules, folds.the_lemmas, views.the_lemmas) in
    ap noted_stat (sym same) ∙ folds.para-roll-Stat F F F F F F F F F spec.kind_entries spec.field_kind_entries spec.stat_kind_entries spec.arm_entries spec.expr_entries spec.expr_arm_entries spec.field_entries spec.func_entries spec.stat_entries (out-Stat t)
