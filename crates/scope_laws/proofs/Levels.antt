-- What a function of the tree gives at a node, by what it gives at the parts of the node.
use Rattle.std.proofs.Common.{◌≡◌, ◌∙◌, map, rules, sym, ap}
use Rattle.syntax_tree.specs.declared.tree.Arm.{Arm, out-Arm}
use Rattle.syntax_tree.specs.declared.tree.Expr.{Expr}
use Rattle.syntax_tree.specs.declared.tree.ExprArm.{ExprArm}
use Rattle.syntax_tree.specs.declared.tree.ExprKind.{ExprKind, roll-ExprKind, out-ExprKind}
use Rattle.syntax_tree.specs.declared.tree.ExprKind.TheFolds as folds
use Rattle.syntax_tree.specs.declared.tree.ExprKind.TheViews as views
use Rattle.syntax_tree.specs.declared.tree.Field.{Field}
use Rattle.syntax_tree.specs.declared.tree.FieldKind.{FieldKind, roll-FieldKind, out-FieldKind}
use Rattle.syntax_tree.specs.declared.tree.FuncBody.{FuncBody, out-FuncBody}
use Rattle.syntax_tree.specs.declared.tree.Stat.{Stat}
use Rattle.syntax_tree.specs.declared.tree.StatKind.{StatKind, roll-StatKind, out-StatKind}
use Rattle.syntax_tree.specs.Fold.{Steps, at_arm, at_expr, at_expr_arm, at_field, at_func, at_stat}
use Rattle.scope_laws.specs.Sight.{ExprLevel, FieldLevel, StatLevel}

module _ {K L M A E X F B S : Type 0} (s : Steps K L M A E X F B S) where
  abbrev pub at_kind : ExprKind → K
  at_kind = folds.fold-ExprKind K L M A E X F B S s.kind s.field_kind s.stat_kind s.arm s.expr s.expr_arm s.field s.func s.stat

  abbrev pub at_field_kind : FieldKind → L
  at_field_kind = folds.fold-FieldKind K L M A E X F B S s.kind s.field_kind s.stat_kind s.arm s.expr s.expr_arm s.field s.func s.stat

  abbrev pub at_stat_kind : StatKind → M
  at_stat_kind = folds.fold-StatKind K L M A E X F B S s.kind s.field_kind s.stat_kind s.arm s.expr s.expr_arm s.field s.func s.stat

  -- what it gives at a level
  abbrev pub at_expr_level : ExprLevel → K
  at_expr_level l = s.kind (folds.map-ExprKind ExprKind FieldKind StatKind Arm Expr ExprArm Field FuncBody Stat K L M A E X F B S at_kind
      at_field_kind at_stat_kind (at_arm s) (at_expr s) (at_expr_arm s) (at_field s) (at_func s) (at_stat s) l)

  abbrev pub at_field_level : FieldLevel → L
  at_field_level l = s.field_kind (folds.map-FieldKind ExprKind FieldKind StatKind Arm Expr ExprArm Field FuncBody Stat K L M A E X F B S
      at_kind at_field_kind at_stat_kind (at_arm s) (at_expr s) (at_expr_arm s) (at_field s) (at_func s) (at_stat s) l)

  abbrev pub at_stat_level : StatLevel → M
  at_stat_level l = s.stat_kind (folds.map-StatKind ExprKind FieldKind StatKind Arm Expr ExprArm Field FuncBody Stat K L M A E X F B S
      at_kind at_field_kind at_stat_kind (at_arm s) (at_expr s) (at_expr_arm s) (at_field s) (at_func s) (at_stat s) l)

  pub rolled_expr : (l : ExprLevel) → at_kind (roll-ExprKind l) ≡ at_expr_level l
  rolled_expr = folds.fold-roll-ExprKind K L M A E X F B S s.kind s.field_kind s.stat_kind s.arm s.expr s.expr_arm s.field s.func s.stat

  pub rolled_field : (l : FieldLevel) → at_field_kind (roll-FieldKind l) ≡ at_field_level l
  rolled_field = folds.fold-roll-FieldKind K L M A E X F B S s.kind s.field_kind s.stat_kind s.arm s.expr s.expr_arm s.field s.func s.stat

  pub rolled_stat : (l : StatLevel) → at_stat_kind (roll-StatKind l) ≡ at_stat_level l
  rolled_stat = folds.fold-roll-StatKind K L M A E X F B S s.kind s.field_kind s.stat_kind s.arm s.expr s.expr_arm s.field s.func s.stat

  pub kind_is : (t : ExprKind) → at_kind t ≡ at_expr_level (out-ExprKind t)
  kind_is t =
      let same : roll-ExprKind (out-ExprKind t) ≡ t = search (rules, folds.the_lemmas, views.the_lemmas) in
      ap at_kind (sym same) ∙ rolled_expr (out-ExprKind t)

  pub field_kind_is : (t : FieldKind) → at_field_kind t ≡ at_field_level (out-FieldKind t)
  field_kind_is t =
      let same : roll-FieldKind (out-FieldKind t) ≡ t = search (rules, folds.the_lemmas, views.the_lemmas) in
      ap at_field_kind (sym same) ∙ rolled_field (out-FieldKind t)

  pub stat_kind_is : (t : StatKind) → at_stat_kind t ≡ at_stat_level (out-StatKind t)
  stat_kind_is t =
      let same : roll-StatKind (out-StatKind t) ≡ t = search (rules, folds.the_lemmas, views.the_lemmas) in
      ap at_stat_kind (sym same) ∙ rolled_stat (out-StatKind t)

  pub expr_is : (e : Expr) → at_expr s e ≡ s.expr (record { id = e.id; at = e.at; line = e.line; kind = at_kind e.kind })
  expr_is e = search (rules, folds.the_lemmas, views.the_lemmas)

  pub stat_is : (x : Stat) → at_stat s x ≡ s.stat (record { id = x.id; at = x.at; line = x.line; kind = at_stat_kind x.kind })
  stat_is x = search (rules, folds.the_lemmas, views.the_lemmas)

  pub expr_arm_is : (a : ExprArm) → at_expr_arm s a ≡ s.expr_arm (record { cond = at_expr s a.cond; value = at_expr s a.value })
  expr_arm_is a = search (rules, folds.the_lemmas, views.the_lemmas)

  pub field_is : (f : Field) → at_field s f ≡ s.field (record { at = f.at; kind = at_field_kind f.kind })
  field_is f = search (rules, folds.the_lemmas, views.the_lemmas)

  pub arm_is : (a : Arm) → at_arm s a ≡ s.arm (record { cond = at_expr s (out-Arm a).cond; body = map (at_stat s) (out-Arm a).body })
  arm_is a = search (rules, folds.the_lemmas, views.the_lemmas)

  pub func_is : (f : FuncBody) → at_func s f ≡ s.func (record {
    id = (out-FuncBody f).id;
    at = (out-FuncBody f).at;
    line =
        (out-FuncBody f).line;
    params = (out-FuncBody f).params;
    vararg = (out-FuncBody f).vararg;
    body =
        map (at_stat s) (out-FuncBody f).body;
  })
  func_is f = search (rules, folds.the_lemmas, views.the_lemmas)
