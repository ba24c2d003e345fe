-- What the sizes of a part of the tree are, by those of its parts.
use Rattle.std.proofs.Common.{◌≡◌, ◌∙◌, ◌++◌, List, [], Option, Some, None, refl, append-nil, append_assoc, sym, ap, subst, rules, Result, OnOk}
use Rattle.byte_text.specs.declared.fixed.StrId.{StrId}
use Rattle.syntax_tree.specs.declared.bindings.Bindings.{Bindings}
use Rattle.syntax_tree.specs.declared.fault.ScopeFault.{ScopeFault}
use Rattle.syntax_tree.specs.declared.tree.ExprKind.{ExprKind, roll-ExprKind, out-ExprKind}
use Rattle.syntax_tree.specs.declared.tree.FieldKind.{FieldKind, roll-FieldKind, out-FieldKind}
use Rattle.syntax_tree.specs.declared.tree.StatKind.{StatKind, roll-StatKind, out-StatKind}
use Rattle.syntax_tree.specs.declared.tree.Arm.{Arm, roll-Arm, out-Arm}
use Rattle.syntax_tree.specs.declared.tree.Expr.{Expr, roll-Expr, out-Expr}
use Rattle.syntax_tree.specs.declared.tree.ExprArm.{ExprArm, roll-ExprArm, out-ExprArm}
use Rattle.syntax_tree.specs.declared.tree.Field.{Field, roll-Field, out-Field}
use Rattle.syntax_tree.specs.declared.tree.FuncBody.{FuncBody, roll-FuncBody, out-FuncBody}
use Rattle.syntax_tree.specs.declared.tree.Stat.{Stat, roll-Stat, out-Stat}
use Rattle.syntax_tree.specs.declared.tree.ExprKind.TheFolds as folds
use Rattle.syntax_tree.specs.declared.tree.ExprKind.TheViews as views
use Rattle.syntax_tree.specs.declared.tree.ExprKind as expr
use Rattle.syntax_tree.specs.declared.tree.FieldKind as fieldkind
use Rattle.syntax_tree.specs.declared.tree.StatKind as statkind
use Rattle.syntax_tree.specs.Sizes as spec

module _ (b : Bindings) where
  abbrev F : Type 0
  F = List ScopeFault

  abbrev sizes_kind : ExprKind → List ScopeFault
  sizes_kind = folds.para-ExprKind F F F F F F F F F (spec.kind_sizes b) (spec.field_kind_sizes b) (spec.stat_kind_sizes b) (spec.arm_sizes b) (spec.expr_sizes b) (spec.expr_arm_sizes b) (spec.field_sizes b) (spec.func_sizes b) (spec.stat_sizes b)

  abbrev sizes_field_kind : FieldKind → List ScopeFault
  sizes_field_kind = folds.para-FieldKind F F F F F F F F F (spec.kind_sizes b) (spec.field_kind_sizes b) (spec.stat_kind_sizes b) (spec.arm_sizes b) (spec.expr_sizes b) (spec.expr_arm_sizes b) (spec.field_sizes b) (spec.func_sizes b) (spec.stat_sizes b)

  abbrev sizes_stat_kind : StatKind → List ScopeFault
  sizes_stat_kind = folds.para-StatKind F F F F F F F F F (spec.kind_sizes b) (spec.field_kind_sizes b) (spec.stat_kind_sizes b) (spec.arm_sizes b) (spec.expr_sizes b) (spec.expr_arm_sizes b) (spec.field_sizes b) (spec.func_sizes b) (spec.stat_sizes b)

  abbrev sizes_arm : Arm → List ScopeFault
  sizes_arm = folds.para-Arm F F F F F F F F F (spec.kind_sizes b) (spec.field_kind_sizes b) (spec.stat_kind_sizes b) (spec.arm_sizes b) (spec.expr_sizes b) (spec.expr_arm_sizes b) (spec.field_sizes b) (spec.func_sizes b) (spec.stat_sizes b)

  abbrev sizes_expr : Expr → List ScopeFault
  sizes_expr = folds.para-Expr F F F F F F F F F (spec.kind_sizes b) (spec.field_kind_sizes b) (spec.stat_kind_sizes b) (spec.arm_sizes b) (spec.expr_sizes b) (spec.expr_arm_sizes b) (spec.field_sizes b) (spec.func_sizes b) (spec.stat_sizes b)

  abbrev sizes_expr_arm : ExprArm → List ScopeFault
  sizes_expr_arm = folds.para-ExprArm F F F F F F F F F (spec.kind_sizes b) (spec.field_kind_sizes b) (spec.stat_kind_sizes b) (spec.arm_sizes b) (spec.expr_sizes b) (spec.expr_arm_sizes b) (spec.field_sizes b) (spec.func_sizes b) (spec.stat_sizes b)

  abbrev sizes_field : Field → List ScopeFault
  sizes_field = folds.para-Field F F F F F F F F F (spec.kind_sizes b) (spec.field_kind_sizes b) (spec.stat_kind_sizes b) (spec.arm_sizes b) (spec.expr_sizes b) (spec.expr_arm_sizes b) (spec.field_sizes b) (spec.func_sizes b) (spec.stat_sizes b)

  abbrev sizes_func : FuncBody → List ScopeFault
  sizes_func = folds.para-FuncBody F F F F F F F F F (spec.kind_sizes b) (spec.field_kind_sizes b) (spec.stat_kind_sizes b) (spec.arm_sizes b) (spec.expr_sizes b) (spec.expr_arm_sizes b) (spec.field_sizes b) (spec.func_sizes b) (spec.stat_sizes b)

  abbrev sizes_stat : Stat → List ScopeFault
  sizes_stat = folds.para-Stat F F F F F F F F F (spec.kind_sizes b) (spec.field_kind_sizes b) (spec.stat_kind_sizes b) (spec.arm_sizes b) (spec.expr_sizes b) (spec.expr_arm_sizes b) (spec.field_sizes b) (spec.func_sizes b) (spec.stat_sizes b)

  pub kind_is : (t : ExprKind) → sizes_kind t ≡ spec.kind_sizes b (folds.map-ExprKind ExprKind FieldKind StatKind Arm Expr ExprArm Field FuncBody Stat (spec.With ExprKind) (spec.With FieldKind) (spec.With StatKind) (spec.With Arm) (spec.With Expr) (spec.With ExprArm) (spec.With Field) (spec.With FuncBody) (spec.With Stat) (λ t. (t, sizes_kind t)) (λ t. (t, sizes_field_kind t)) (λ t. (t, sizes_stat_kind t)) (λ t. (t, sizes_arm t)) (λ t. (t, sizes_expr t)) (λ t. (t, sizes_expr_arm t)) (λ t. (t, sizes_field t)) (λ t. (t, sizes_func t)) (λ t. (t, sizes_stat t)) (out-ExprKind t))
  kind_is t =
      let same : roll-ExprKind (out-ExprKind t) ≡ t = search (rules, folds.the_lemmas, views.the_lemmas) in
      ap sizes_kind (sym same) ∙ folds.para-roll-ExprKind F F F F F F F F F (spec.kind_sizes b) (spec.field_kind_sizes b) (spec.stat_kind_sizes b) (spec.arm_sizes b) (spec.expr_sizes b) (spec.expr_arm_sizes b) (spec.field_sizes b) (spec.func_sizes b) (spec.stat_sizes b) (out-ExprKind t)

  pub field_kind_is : (t : FieldKind) → sizes_field_kind t ≡ spec.field_kind_sizes b (folds.map-FieldKind ExprKind FieldKind StatKind Arm Expr ExprArm Field FuncBody Stat (spec.With ExprKind) (spec.With FieldKind) (spec.With StatKind) (spec.With Arm) (spec.With Expr) (spec.With ExprArm) (spec.With Field) (spec.With FuncBody) (spec.With Stat) (λ t. (t, sizes_kind t)) (λ t. (t, sizes_field_kind t)) (λ t. (t, sizes_stat_kind t)) (λ t. (t, sizes_arm t)) (λ t. (t, sizes_expr t)) (λ t. (t, sizes_expr_arm t)) (λ t. (t, sizes_field t)) (λ t. (t, sizes_func t)) (λ t. (t, sizes_stat t)) (out-FieldKind t))
  field_kind_is t =
      let same : roll-FieldKind (out-FieldKind t) ≡ t = search (rules, folds.the_lemmas, views.the_lemmas) in
      ap sizes_field_kind (sym same) ∙ folds.para-roll-FieldKind F F F F F F F F F (spec.kind_sizes b) (spec.field_kind_sizes b) (spec.stat_kind_sizes b) (spec.arm_sizes b) (spec.expr_sizes b) (spec.expr_arm_sizes b) (spec.field_sizes b) (spec.func_sizes b) (spec.stat_sizes b) (out-FieldKind t)

  pub stat_kind_is : (t : StatKind) → sizes_stat_kind t ≡ spec.stat_kind_sizes b (folds.map-StatKind ExprKind FieldKind StatKind Arm Expr ExprArm Field FuncBody Stat (spec.With ExprKind) (spec.With FieldKind) (spec.With StatKind) (spec.With Arm) (spec.With Expr) (spec.With ExprArm) (spec.With Field) (spec.With FuncBody) (spec.With Stat) (λ t. (t, sizes_kind t)) (λ t. (t, sizes_field_kind t)) (λ t. (t, sizes_stat_kind t)) (λ t. (t, sizes_arm t)) (λ t. (t, sizes_expr t)) (λ t. (t, sizes_expr_arm t)) (λ t. (t, sizes_field t)) (λ t. (t, sizes_func t)) (λ t. (t, sizes_stat t)) (out-StatKind t))
  stat_kind_is t =
      let same : roll-StatKind (out-StatKind t) ≡ t = search (rules, folds.the_lemmas, views.the_lemmas) in
      ap sizes_stat_kind (sym same) ∙ folds.para-roll-StatKind F F F F F F F F F (spec.kind_sizes b) (spec.field_kind_sizes b) (spec.stat_kind_sizes b) (spec.arm_sizes b) (spec.expr_sizes b) (spec.expr_arm_sizes b) (spec.field_sizes b) (spec.func_sizes b) (spec.stat_sizes b) (out-StatKind t)

  pub arm_is : (t : Arm) → sizes_arm t ≡ spec.arm_sizes b (folds.map-Arm ExprKind FieldKind StatKind Arm Expr ExprArm Field FuncBody Stat (spec.With ExprKind) (spec.With FieldKind) (spec.With StatKind) (spec.With Arm) (spec.With Expr) (spec.With ExprArm) (spec.With Field) (spec.With FuncBody) (spec.With Stat) (λ t. (t, sizes_kind t)) (λ t. (t, sizes_field_kind t)) (λ t. (t, sizes_stat_kind t)) (λ t. (t, sizes_arm t)) (λ t. (t, sizes_expr t)) (λ t. (t, sizes_expr_arm t)) (λ t. (t, sizes_field t)) (λ t. (t, sizes_func t)) (λ t. (t, sizes_stat t)) (out-Arm t))
  arm_is t =
      let same : roll-Arm (out-Arm t) ≡ t = search (rules, folds.the_lemmas, views.the_lemmas) in
      ap sizes_arm (sym same) ∙ folds.para-roll-Arm F F F F F F F F F (spec.kind_sizes b) (spec.field_kind_sizes b) (spec.stat_kind_sizes b) (spec.arm_sizes b) (spec.expr_sizes b) (spec.expr_arm_sizes b) (spec.field_sizes b) (spec.func_sizes b) (spec.stat_sizes b) (out-Arm t)

  pub expr_is : (t : Expr) → sizes_expr t ≡ spec.expr_sizes b (folds.map-Expr ExprKind FieldKind StatKind Arm Expr ExprArm Field FuncBody Stat (spec.With ExprKind) (spec.With FieldKind) (spec.With StatKind) (spec.With Arm) (spec.With Expr) (spec.With ExprArm) (spec.With Field) (spec.With FuncBody) (spec.With Stat) (λ t. (t, sizes_kind t)) (λ t. (t, sizes_field_kind t)) (λ t. (t, sizes_stat_kind t)) (λ t. (t, sizes_arm t)) (λ t. (t, sizes_expr t)) (λ t. (t, sizes_expr_arm t)) (λ t. (t, sizes_field t)) (λ t. (t, sizes_func t)) (λ t. (t, sizes_stat t)) (out-Expr t))
  expr_is t =
      let same : roll-Expr (out-Expr t) ≡ t = search (rules, folds.the_lemmas, views.the_lemmas) in
      ap sizes_expr (sym same) ∙ folds.para-roll-Expr F F F F F F F F F (spec.kind_sizes b) (spec.field_kind_sizes b) (spec.stat_kind_sizes b) (spec.arm_sizes b) (spec.expr_sizes b) (spec.expr_arm_sizes b) (spec.field_sizes b) (spec.func_sizes b) (spec.stat_sizes b) (out-Expr t)

  pub expr_arm_is : (t : ExprArm) → sizes_expr_arm t ≡ spec.expr_arm_sizes b (folds.map-ExprArm ExprKind FieldKind StatKind Arm Expr ExprArm Field FuncBody Stat (spec.With ExprKind) (spec.With FieldKind) (spec.With StatKind) (spec.With Arm) (spec.With Expr) (spec.With ExprArm) (spec.With Field) (spec.With FuncBody) (spec.With Stat) (λ t. (t, sizes_kind t)) (λ t. (t, sizes_field_kind t)) (λ t. (t, sizes_stat_kind t)) (λ t. (t, sizes_arm t)) (λ t. (t, sizes_expr t)) (λ t. (t, sizes_expr_arm t)) (λ t. (t, sizes_field t)) (λ t. (t, sizes_func t)) (λ t. (t, sizes_stat t)) (out-ExprArm t))
  expr_arm_is t =
      let same : roll-ExprArm (out-ExprArm t) ≡ t = search (rules, folds.the_lemmas, views.the_lemmas) in
      ap sizes_expr_arm (sym same) ∙ folds.para-roll-ExprArm F F F F F F F F F (spec.kind_sizes b) (spec.field_kind_sizes b) (spec.stat_kind_sizes b) (spec.arm_sizes b) (spec.expr_sizes b) (spec.expr_arm_sizes b) (spec.field_sizes b) (spec.func_sizes b) (spec.stat_sizes b) (out-ExprArm t)

  pub field_is : (t : Field) → sizes_field t ≡ spec.field_sizes b (folds.map-Field ExprKind FieldKind StatKind Arm Expr ExprArm Field FuncBody Stat (spec.With ExprKind) (spec.With FieldKind) (spec.With StatKind) (spec.With Arm) (spec.With Expr) (spec.With ExprArm) (spec.With Field) (spec.With FuncBody) (spec.With Stat) (λ t. (t, sizes_kind t)) (λ t. (t, sizes_field_kind t)) (λ t. (t, sizes_stat_kind t)) (λ t. (t, sizes_arm t)) (λ t. (t, sizes_expr t)) (λ t. (t, sizes_expr_arm t)) (λ t. (t, sizes_field t)) (λ t. (t, sizes_func t)) (λ t. (t, sizes_stat t)) (out-Field t))
  field_is t =
      let same : roll-Field (out-Field t) ≡ t = search (rules, folds.the_lemmas, views.the_lemmas) in
      ap sizes_field (sym same) ∙ folds.para-roll-Field F F F F F F F F F (spec.kind_sizes b) (spec.field_kind_sizes b) (spec.stat_kind_sizes b) (spec.arm_sizes b) (spec.expr_sizes b) (spec.expr_arm_sizes b) (spec.field_sizes b) (spec.func_sizes b) (spec.stat_sizes b) (out-Field t)

  pub func_is : (t : FuncBody) → sizes_func t ≡ spec.func_sizes b (folds.map-FuncBody ExprKind FieldKind StatKind Arm Expr ExprArm Field FuncBody Stat (spec.With ExprKind) (spec.With FieldKind) (spec.With StatKind) (spec.With Arm) (spec.With Expr) (spec.With ExprArm) (spec.With Field) (spec.With FuncBody) (spec.With Stat) (λ t. (t, sizes_kind t)) (λ t. (t, sizes_field_kind t)) (λ t. (t, sizes_stat_kind t)) (λ t. (t, sizes_arm t)) (λ t. (t, sizes_expr t)) (λ t. (t, sizes_expr_arm t)) (λ t. (t, sizes_field t)) (λ t. (t, sizes_func t)) (λ t. (t, sizes_stat t)) (out-FuncBody t))
  func_is t =
      let same : roll-FuncBody (out-FuncBody t) ≡ t = search (rules, folds.the_lemmas, views.the_lemmas) in
      ap sizes_func (sym same) ∙ folds.para-roll-FuncBody F F F F F F F F F (spec.kind_sizes b) (spec.field_kind_sizes b) (spec.stat_kind_sizes b) (spec.arm_sizes b) (spec.expr_sizes b) (spec.expr_arm_sizes b) (spec.field_sizes b) (spec.func_sizes b) (spec.stat_sizes b) (out-FuncBody t)

  pub stat_is : (t : Stat) → sizes_stat t ≡ spec.stat_sizes b (folds.map-Stat ExprKind FieldKind StatKind Arm Expr ExprArm Field FuncBody Stat (spec.With ExprKind) (spec.With FieldKind) (spec.With StatKind) (spec.With Arm) (spec.With Expr) (spec.With ExprArm) (spec.With Field) (spec.With FuncBody) (spec.With Stat) (λ t. (t, sizes_kind t)) (λ t. (t, sizes_field_kind t)) (λ t. (t, sizes_stat_kind t)) (λ t. (t, sizes_arm t)) (λ t. (t, sizes_expr t)) (λ t. (t, sizes_expr_arm t)) (λ t. (t, sizes_field t)) (λ t. (t, sizes_func t)) (λ t. (t, sizes_stat t)) (out-Stat t))
  stat_is t =
      let same : roll-Stat (out-Stat t) ≡ t = search (rules, folds.the_lemmas, views.the_lemmas) in
      ap sizes_stat (sym same) ∙ folds.para-roll-Stat F F F F F F F F F (spec.kind_sizes b) (spec.field_kind_sizes b) (spec.stat_kind_sizes b) (spec.arm_sizes b) (spec.expr_sizes b) (spec.expr_arm_sizes b) (spec.field_sizes b) (spec.func_sizes b) (spec.stat_sizes b) (out-Stat t)

  -- ---- each kind of expression

  pub of_nil : (e : Expr) → e.kind ≡ expr.Nil → spec.sizes_in_expr b e ≡ []
  of_nil e h = search (rules, folds.the_lemmas, views.the_lemmas, kind_is, field_kind_is, stat_kind_is, arm_is, expr_is, expr_arm_is, field_is, func_is, stat_is)

  pub of_true : (e : Expr) → e.kind ≡ expr.True → spec.sizes_in_expr b e ≡ []
  of_true e h = search (rules, folds.the_lemmas, views.the_lemmas, kind_is, field_kind_is, stat_kind_is, arm_is, expr_is, expr_arm_is, field_is, func_is, stat_is)

  pub of_false : (e : Expr) → e.kind ≡ expr.False → spec.sizes_in_expr b e ≡ []
  of_false e h = search (rules, folds.the_lemmas, views.the_lemmas, kind_is, field_kind_is, stat_kind_is, arm_is, expr_is, expr_arm_is, field_is, func_is, stat_is)

  pub of_num : (e : Expr) (n : _) → e.kind ≡ expr.Num n → spec.sizes_in_expr b e ≡ []
  of_num e n h = search (rules, folds.the_lemmas, views.the_lemmas, kind_is, field_kind_is, stat_kind_is, arm_is, expr_is, expr_arm_is, field_is, func_is, stat_is)

  pub of_str : (e : Expr) (n : _) → e.kind ≡ expr.Str n → spec.sizes_in_expr b e ≡ []
  of_str e n h = search (rules, folds.the_lemmas, views.the_lemmas, kind_is, field_kind_is, stat_kind_is, arm_is, expr_is, expr_arm_is, field_is, func_is, stat_is)

  pub of_vararg : (e : Expr) → e.kind ≡ expr.Vararg → spec.sizes_in_expr b e ≡ []
  of_vararg e h = search (rules, folds.the_lemmas, views.the_lemmas, kind_is, field_kind_is, stat_kind_is, arm_is, expr_is, expr_arm_is, field_is, func_is, stat_is)

  pub of_name : (e : Expr) (n : _) → e.kind ≡ expr.Name n → spec.sizes_in_expr b e ≡ []
  of_name e n h = search (rules, folds.the_lemmas, views.the_lemmas, kind_is, field_kind_is, stat_kind_is, arm_is, expr_is, expr_arm_is, field_is, func_is, stat_is)

  pub of_paren : (e : Expr) (x : Expr) → e.kind ≡ expr.Paren x → spec.sizes_in_expr b e ≡ spec.sizes_in_expr b x
  of_paren e x h = search (rules, folds.the_lemmas, views.the_lemmas, kind_is, field_kind_is, stat_kind_is, arm_is, expr_is, expr_arm_is, field_is, func_is, stat_is)

  pub of_unary : (e : Expr) (op : _) (x : Expr) → e.kind ≡ expr.Unary op x → spec.sizes_in_expr b e ≡ spec.sizes_in_expr b x
  of_unary e op x h = search (rules, folds.the_lemmas, views.the_lemmas, kind_is, field_kind_is, stat_kind_is, arm_is, expr_is, expr_arm_is, field_is, func_is, stat_is)

  pub of_binary : (e : Expr) (op : _) (x : Expr) (y : Expr) → e.kind ≡ expr.Binary op x y → spec.sizes_in_expr b e ≡ spec.sizes_in_expr b x ++ spec.sizes_in_expr b y
  of_binary e op x y h = search (rules, folds.the_lemmas, views.the_lemmas, kind_is, field_kind_is, stat_kind_is, arm_is, expr_is, expr_arm_is, field_is, func_is, stat_is)

  pub of_concat : (e : Expr) (xs : List Expr) → e.kind ≡ expr.Concat xs → spec.sizes_in_expr b e ≡ spec.sizes_in_list b xs
  of_concat e xs h = search (rules, folds.the_lemmas, views.the_lemmas, kind_is, field_kind_is, stat_kind_is, arm_is, expr_is, expr_arm_is, field_is, func_is, stat_is)

  pub of_index : (e : Expr) (x : Expr) (y : Expr) → e.kind ≡ expr.Index x y → spec.sizes_in_expr b e ≡ spec.sizes_in_expr b x ++ spec.sizes_in_expr b y
  of_index e x y h = search (rules, folds.the_lemmas, views.the_lemmas, kind_is, field_kind_is, stat_kind_is, arm_is, expr_is, expr_arm_is, field_is, func_is, stat_is)

  pub of_member : (e : Expr) (x : Expr) (n : _) → e.kind ≡ expr.Member x n → spec.sizes_in_expr b e ≡ spec.sizes_in_expr b x
  of_member e x n h = search (rules, folds.the_lemmas, views.the_lemmas, kind_is, field_kind_is, stat_kind_is, arm_is, expr_is, expr_arm_is, field_is, func_is, stat_is)

  pub of_call : (e : Expr) (x : Expr) (xs : List Expr) → e.kind ≡ expr.Call x xs → spec.sizes_in_expr b e ≡ spec.sizes_in_expr b x ++ spec.sizes_in_list b xs
  of_call e x xs h = search (rules, folds.the_lemmas, views.the_lemmas, kind_is, field_kind_is, stat_kind_is, arm_is, expr_is, expr_arm_is, field_is, func_is, stat_is)

  pub of_method : (e : Expr) (x : Expr) (n : _) (xs : List Expr) → e.kind ≡ expr.Method x n xs → spec.sizes_in_expr b e ≡ spec.sizes_in_expr b x ++ spec.sizes_in_list b xs
  of_method e x n xs h = search (rules, folds.the_lemmas, views.the_lemmas, kind_is, field_kind_is, stat_kind_is, arm_is, expr_is, expr_arm_is, field_is, func_is, stat_is)

  pub of_table : (e : Expr) (fs : List Field) → e.kind ≡ expr.Table fs → spec.sizes_in_expr b e ≡ spec.sizes_in_fields b fs
  of_table e fs h = search (rules, folds.the_lemmas, views.the_lemmas, kind_is, field_kind_is, stat_kind_is, arm_is, expr_is, expr_arm_is, field_is, func_is, stat_is)

  pub of_function : (e : Expr) (f : FuncBody) → e.kind ≡ expr.Function f → spec.sizes_in_expr b e ≡ spec.all_sizes b f
  of_function e f h = search (rules, folds.the_lemmas, views.the_lemmas, kind_is, field_kind_is, stat_kind_is, arm_is, expr_is, expr_arm_is, field_is, func_is, stat_is)

  pub of_if : (e : Expr) (arms : List ExprArm) (x : Expr) → e.kind ≡ expr.If arms x → spec.sizes_in_expr b e ≡ spec.sizes_in_expr_arms b arms ++ spec.sizes_in_expr b x
  of_if e arms x h = search (rules, folds.the_lemmas, views.the_lemmas, kind_is, field_kind_is, stat_kind_is, arm_is, expr_is, expr_arm_is, field_is, func_is, stat_is)

  pub of_interp : (e : Expr) (ns : _) (xs : List Expr) → e.kind ≡ expr.Interp ns xs → spec.sizes_in_expr b e ≡ spec.sizes_in_list b xs
  of_interp e ns xs h = search (rules, folds.the_lemmas, views.the_lemmas, kind_is, field_kind_is, stat_kind_is, arm_is, expr_is, expr_arm_is, field_is, func_is, stat_is)

  -- ---- each kind of field

  pub of_item : (f : Field) (x : Expr) → f.kind ≡ fieldkind.Item x → spec.sizes_in_field b f ≡ spec.sizes_in_expr b x
  of_item f x h = search (rules, folds.the_lemmas, views.the_lemmas, kind_is, field_kind_is, stat_kind_is, arm_is, expr_is, expr_arm_is, field_is, func_is, stat_is)

  pub of_named : (f : Field) (n : _) (x : Expr) → f.kind ≡ fieldkind.Named n x → spec.sizes_in_field b f ≡ spec.sizes_in_expr b x
  of_named f n x h = search (rules, folds.the_lemmas, views.the_lemmas, kind_is, field_kind_is, stat_kind_is, arm_is, expr_is, expr_arm_is, field_is, func_is, stat_is)

  pub of_keyed : (f : Field) (x : Expr) (y : Expr) → f.kind ≡ fieldkind.Keyed x y → spec.sizes_in_field b f ≡ spec.sizes_in_expr b x ++ spec.sizes_in_expr b y
  of_keyed f x y h = search (rules, folds.the_lemmas, views.the_lemmas, kind_is, field_kind_is, stat_kind_is, arm_is, expr_is, expr_arm_is, field_is, func_is, stat_is)

  -- ---- each kind of statement

  pub of_local : (s : Stat) (ns : _) (xs : List Expr) → s.kind ≡ statkind.Local ns xs → spec.sizes_in_stat b s ≡ spec.sizes_in_list b xs
  of_local s ns xs h = search (rules, folds.the_lemmas, views.the_lemmas, kind_is, field_kind_is, stat_kind_is, arm_is, expr_is, expr_arm_is, field_is, func_is, stat_is)

  pub of_assign : (s : Stat) (xs : List Expr) (ys : List Expr) → s.kind ≡ statkind.Assign xs ys → spec.sizes_in_stat b s ≡ spec.sizes_in_list b xs ++ spec.sizes_in_list b ys
  of_assign s xs ys h = search (rules, folds.the_lemmas, views.the_lemmas, kind_is, field_kind_is, stat_kind_is, arm_is, expr_is, expr_arm_is, field_is, func_is, stat_is)

  pub of_compound : (s : Stat) (op : _) (x : Expr) (y : Expr) → s.kind ≡ statkind.Compound op x y → spec.sizes_in_stat b s ≡ spec.sizes_in_expr b x ++ spec.sizes_in_expr b y
  of_compound s op x y h = search (rules, folds.the_lemmas, views.the_lemmas, kind_is, field_kind_is, stat_kind_is, arm_is, expr_is, expr_arm_is, field_is, func_is, stat_is)

  pub of_call_statement : (s : Stat) (x : Expr) → s.kind ≡ statkind.Call x → spec.sizes_in_stat b s ≡ spec.sizes_in_expr b x
  of_call_statement s x h = search (rules, folds.the_lemmas, views.the_lemmas, kind_is, field_kind_is, stat_kind_is, arm_is, expr_is, expr_arm_is, field_is, func_is, stat_is)

  pub of_do : (s : Stat) (body : List Stat) → s.kind ≡ statkind.Do body → spec.sizes_in_stat b s ≡ spec.sizes_in_block b body
  of_do s body h = search (rules, folds.the_lemmas, views.the_lemmas, kind_is, field_kind_is, stat_kind_is, arm_is, expr_is, expr_arm_is, field_is, func_is, stat_is)

  pub of_while : (s : Stat) (x : Expr) (body : List Stat) → s.kind ≡ statkind.While x body → spec.sizes_in_stat b s ≡ spec.sizes_in_expr b x ++ spec.sizes_in_block b body
  of_while s x body h = search (rules, folds.the_lemmas, views.the_lemmas, kind_is, field_kind_is, stat_kind_is, arm_is, expr_is, expr_arm_is, field_is, func_is, stat_is)

  pub of_repeat : (s : Stat) (body : List Stat) (x : Expr) → s.kind ≡ statkind.Repeat body x → spec.sizes_in_stat b s ≡ spec.sizes_in_block b body ++ spec.sizes_in_expr b x
  of_repeat s body x h = search (rules, folds.the_lemmas, views.the_lemmas, kind_is, field_kind_is, stat_kind_is, arm_is, expr_is, expr_arm_is, field_is, func_is, stat_is)

  if_some : (arms : List Arm) (body : List Stat) → sizes_stat_kind (statkind.If arms (Some body)) ≡ spec.sizes_in_arms b arms ++ spec.sizes_in_block b body
  if_some arms body = stat_kind_is (statkind.If arms (Some body)) ∙ first_of (search views.the_lemmas, search (rules, views.the_lemmas), search (rules, folds.the_lemmas, views.the_lemmas))

  num_none : (n : StrId) (x y : Expr) (body : List Stat) → sizes_stat_kind (statkind.NumFor n x y None body) ≡ spec.sizes_in_expr b x ++ (spec.sizes_in_expr b y ++ spec.sizes_in_block b body)
  num_none n x y body = stat_kind_is (statkind.NumFor n x y None body) ∙ first_of (search views.the_lemmas, search (rules, views.the_lemmas), search (rules, folds.the_lemmas, views.the_lemmas))

  num_some : (n : StrId) (x y z : Expr) (body : List Stat) → sizes_stat_kind (statkind.NumFor n x y (Some z) body) ≡ spec.sizes_in_expr b x ++ (spec.sizes_in_expr b y ++ (spec.sizes_in_expr b z ++ spec.sizes_in_block b body))
  num_some n x y z body = stat_kind_is (statkind.NumFor n x y (Some z) body) ∙ first_of (search views.the_lemmas, search (rules, views.the_lemmas), search (rules, folds.the_lemmas, views.the_lemmas))

  whole : (s : Stat) → spec.sizes_in_stat b s ≡ sizes_stat_kind s.kind
  whole s = search (rules, folds.the_lemmas, views.the_lemmas, kind_is, field_kind_is, stat_kind_is, arm_is, expr_is, expr_arm_is, field_is, func_is, stat_is)

  pub of_if_none : (s : Stat) (arms : List Arm) (other : Option (List Stat)) → s.kind ≡ statkind.If arms other → other ≡ None → spec.sizes_in_stat b s ≡ spec.sizes_in_arms b arms
  of_if_none s arms other h e =
      let none : sizes_stat_kind (statkind.If arms None) ≡ spec.sizes_in_arms b arms ++ [] = search (rules, folds.the_lemmas, views.the_lemmas, kind_is, field_kind_is, stat_kind_is, arm_is, expr_is, expr_arm_is, field_is, func_is, stat_is) in
      whole s ∙ ap sizes_stat_kind (h ∙ ap (λ o. statkind.If arms o) e) ∙ none ∙ append-nil (spec.sizes_in_arms b arms)

  pub of_if_some : (s : Stat) (arms : List Arm) (other : Option (List Stat)) (body : List Stat) → s.kind ≡ statkind.If arms other → other ≡ Some body → spec.sizes_in_stat b s ≡ spec.sizes_in_arms b arms ++ spec.sizes_in_block b body
  of_if_some s arms other body h e = whole s ∙ ap sizes_stat_kind (h ∙ ap (λ o. statkind.If arms o) e) ∙ if_some arms body

  pub of_num_for : (s : Stat) (n : StrId) (x : Expr) (y : Expr) (z : Option Expr) (body : List Stat) → s.kind ≡ statkind.NumFor n x y z body → spec.sizes_in_stat b s ≡ spec.sizes_in_expr b x ++ (spec.sizes_in_expr b y ++ (spec.sizes_in_step b z ++ spec.sizes_in_block b body))
  of_num_for s n x y None body h = whole s ∙ ap sizes_stat_kind h ∙ num_none n x y body
  of_num_for s n x y (Some z) body h = whole s ∙ ap sizes_stat_kind h ∙ num_some n x y z body

  pub of_gen_for : (s : Stat) (ns : _) (xs : List Expr) (body : List Stat) → s.kind ≡ statkind.GenFor ns xs body → spec.sizes_in_stat b s ≡ spec.sizes_in_list b xs ++ spec.sizes_in_block b body
  of_gen_for s ns xs body h = search (rules, folds.the_lemmas, views.the_lemmas, kind_is, field_kind_is, stat_kind_is, arm_is, expr_is, expr_arm_is, field_is, func_is, stat_is)

  pub of_local_function : (s : Stat) (n : _) (f : FuncBody) → s.kind ≡ statkind.LocalFunction n f → spec.sizes_in_stat b s ≡ spec.all_sizes b f
  of_local_function s n f h = search (rules, folds.the_lemmas, views.the_lemmas, kind_is, field_kind_is, stat_kind_is, arm_is, expr_is, expr_arm_is, field_is, func_is, stat_is)

  pub of_return : (s : Stat) (xs : List Expr) → s.kind ≡ statkind.Return xs → spec.sizes_in_stat b s ≡ spec.sizes_in_list b xs
  of_return s xs h = search (rules, folds.the_lemmas, views.the_lemmas, kind_is, field_kind_is, stat_kind_is, arm_is, expr_is, expr_arm_is, field_is, func_is, stat_is)

  pub of_break : (s : Stat) → s.kind ≡ statkind.Break → spec.sizes_in_stat b s ≡ []
  of_break s h = search (rules, folds.the_lemmas, views.the_lemmas, kind_is, field_kind_is, stat_kind_is, arm_is, expr_is, expr_arm_is, field_is, func_is, stat_is)

  pub of_continue : (s : Stat) → s.kind ≡ statkind.Continue → spec.sizes_in_stat b s ≡ []
  of_continue s h = search (rules, folds.the_lemmas, views.the_lemmas, kind_is, field_kind_is, stat_kind_is, arm_is, expr_is, expr_arm_is, field_is, func_is, stat_is)

  -- ---- arms and functions

  pub of_arm : (a : Arm) → spec.sizes_in_arm b a ≡ spec.sizes_in_expr b (out-Arm a).cond ++ spec.sizes_in_block b (out-Arm a).body
  of_arm a = search (rules, folds.the_lemmas, views.the_lemmas, kind_is, field_kind_is, stat_kind_is, arm_is, expr_is, expr_arm_is, field_is, func_is, stat_is)

  pub of_expr_arm : (a : ExprArm) → spec.sizes_in_expr_arm b a ≡ spec.sizes_in_expr b a.cond ++ spec.sizes_in_expr b a.value
  of_expr_arm a = search (rules, folds.the_lemmas, views.the_lemmas, kind_is, field_kind_is, stat_kind_is, arm_is, expr_is, expr_arm_is, field_is, func_is, stat_is)

  pub of_func : (f : FuncBody) → spec.sizes_in_func b f ≡ spec.sizes_in_block b (out-FuncBody f).body
  of_func f = search (rules, folds.the_lemmas, views.the_lemmas, kind_is, field_kind_is, stat_kind_is, arm_is, expr_is, expr_arm_is, field_is, func_is, stat_is)

  pub of_all : (f : FuncBody) → spec.all_sizes b f ≡ spec.size_faults b f ++ spec.sizes_in_block b (out-FuncBody f).body
  of_all f = ap (λ l. spec.size_faults b f ++ l) (of_func f)

-- ---- faults that are added one after the other

pub two : {T R : Type 0} (r : Result T R) (last mid first a b s : List ScopeFault) → s ≡ a ++ b → mid ≡ first ++ a → OnOk r (last ≡ mid ++ b) → OnOk r (last ≡ first ++ s)
two r last mid first a b s e p h = subst (λ z. OnOk r (last ≡ z)) (ap (λ l. l ++ b) p ∙ append_assoc first a b ∙ sym (ap (λ l. first ++ l) e)) h

pub four : {T R : Type 0} (r : Result T R) (last m3 m2 m1 first a b c d s : List ScopeFault) → s ≡ a ++ (b ++ (c ++ d)) → m1 ≡ first ++ a → m2 ≡ m1 ++ b → m3 ≡ m2 ++ c → OnOk r (last ≡ m3 ++ d) → OnOk r (last ≡ first ++ s)
four r last m3 m2 m1 first a b c d s e p q t h =
    two r last m1 first a (b ++ (c ++ d)) s e p (two r last m2 m1 b (c ++ d) (b ++ (c ++ d)) refl q (two r last m3 m2 c d (c ++ d) refl t h))
