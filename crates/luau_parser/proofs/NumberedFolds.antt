-- Numbering a tree changes nothing that a fold gives which does not look at numbers.
use Rattle.std.proofs.Common.{◌≡◌, ℕ, ◌+◌, List, map, Some, None, refl, ◌∙◌}
use Rattle.syntax_tree.specs.declared.tree.ExprKind.{ExprKind}
use Rattle.syntax_tree.specs.declared.tree.FieldKind.{FieldKind}
use Rattle.syntax_tree.specs.declared.tree.StatKind.{StatKind}
use Rattle.syntax_tree.specs.declared.tree.Arm.{Arm}
use Rattle.syntax_tree.specs.declared.tree.Expr.{Expr}
use Rattle.syntax_tree.specs.declared.tree.ExprArm.{ExprArm}
use Rattle.syntax_tree.specs.declared.tree.Field.{Field}
use Rattle.syntax_tree.specs.declared.tree.FuncBody.{FuncBody}
use Rattle.syntax_tree.specs.declared.tree.Stat.{Stat}
use Rattle.syntax_tree.specs.declared.tree.ExprKind.TheOpen as level
use Rattle.syntax_tree.specs.declared.tree.ExprKind.TheViews as views
use Rattle.syntax_tree.specs.Fold.{Steps, at_arm, at_expr, at_expr_arm, at_field, at_func, at_stat}
use Rattle.syntax_tree.specs.Numbers.{Numbering, list, numbered_func}
use Rattle.luau_parser.proofs.TreeInduction as induction
use Rattle.luau_parser.proofs.TreeInduction.{With}
use Rattle.luau_parser.proofs.TreeLevels.{at_kind, at_field_kind, at_stat_kind}
use Rattle.luau_parser.proofs.NumberedLevels.{number_kind, number_field_kind, number_stat_kind, number_arm, number_expr, number_expr_arm, number_field, number_func, number_stat, bare, list_keeps, IgnoresNumbers, kind_alike, field_kind_alike, stat_kind_alike, arm_alike, expr_alike, expr_arm_alike, field_alike, func_alike, stat_alike}

module _ {K L M A E X F B S : Type 0} (s : Steps K L M A E X F B S) (ignores : IgnoresNumbers s) where
  -- ---- what is to be proved of each part

  abbrev kind_keeps : ExprKind → Type 0
  kind_keeps t = (n : ℕ) → at_kind s (number_kind t n).0 ≡ at_kind s t

  abbrev field_kind_keeps : FieldKind → Type 0
  field_kind_keeps t = (n : ℕ) → at_field_kind s (number_field_kind t n).0 ≡ at_field_kind s t

  abbrev stat_kind_keeps : StatKind → Type 0
  stat_kind_keeps t = (n : ℕ) → at_stat_kind s (number_stat_kind t n).0 ≡ at_stat_kind s t

  abbrev arm_keeps : Arm → Type 0
  arm_keeps t = (n : ℕ) → at_arm s (number_arm t n).0 ≡ at_arm s t

  abbrev expr_keeps : Expr → Type 0
  expr_keeps t = (n : ℕ) → at_expr s (number_expr t n).0 ≡ at_expr s t

  abbrev expr_arm_keeps : ExprArm → Type 0
  expr_arm_keeps t = (n : ℕ) → at_expr_arm s (number_expr_arm t n).0 ≡ at_expr_arm s t

  abbrev field_keeps : Field → Type 0
  field_keeps t = (n : ℕ) → at_field s (number_field t n).0 ≡ at_field s t

  abbrev func_keeps : FuncBody → Type 0
  func_keeps t = (n : ℕ) → at_func s (number_func t n).0 ≡ at_func s t

  abbrev stat_keeps : Stat → Type 0
  stat_keeps t = (n : ℕ) → at_stat s (number_stat t n).0 ≡ at_stat s t

  abbrev number_exprs : List (With expr_keeps) → Numbering (List Expr)
  number_exprs es = list (map number_expr (bare es))

  exprs_keep : (es : List (With expr_keeps)) (n : ℕ) → map (at_expr s) (number_exprs es n).0 ≡ map (at_expr s) (bare es)
  exprs_keep = list_keeps (at_expr s) number_expr

  abbrev number_stats : List (With stat_keeps) → Numbering (List Stat)
  number_stats es = list (map number_stat (bare es))

  stats_keep : (es : List (With stat_keeps)) (n : ℕ) → map (at_stat s) (number_stats es n).0 ≡ map (at_stat s) (bare es)
  stats_keep = list_keeps (at_stat s) number_stat

  abbrev number_arms : List (With arm_keeps) → Numbering (List Arm)
  number_arms es = list (map number_arm (bare es))

  arms_keep : (es : List (With arm_keeps)) (n : ℕ) → map (at_arm s) (number_arms es n).0 ≡ map (at_arm s) (bare es)
  arms_keep = list_keeps (at_arm s) number_arm

  abbrev number_expr_arms : List (With expr_arm_keeps) → Numbering (List ExprArm)
  number_expr_arms es = list (map number_expr_arm (bare es))

  expr_arms_keep : (es : List (With expr_arm_keeps)) (n : ℕ) → map (at_expr_arm s) (number_expr_arms es n).0 ≡ map (at_expr_arm s) (bare es)
  expr_arms_keep = list_keeps (at_expr_arm s) number_expr_arm

  abbrev number_fields : List (With field_keeps) → Numbering (List Field)
  number_fields es = list (map number_field (bare es))

  fields_keep : (es : List (With field_keeps)) (n : ℕ) → map (at_field s) (number_fields es n).0 ≡ map (at_field s) (bare es)
  fields_keep = list_keeps (at_field s) number_field

  -- ---- at each level

  kind_step : (y : induction.kind_with kind_keeps field_kind_keeps stat_kind_keeps arm_keeps expr_keeps expr_arm_keeps field_keeps func_keeps stat_keeps) →
      kind_keeps (induction.kind_of kind_keeps field_kind_keeps stat_kind_keeps arm_keeps expr_keeps expr_arm_keeps field_keeps func_keeps stat_keeps y)
  kind_step level.Nil m = kind_alike s level.Nil level.Nil m views.rolls-Nil refl
  kind_step level.True m = kind_alike s level.True level.True m views.rolls-True refl
  kind_step level.False m = kind_alike s level.False level.False m views.rolls-False refl
  kind_step (level.Num n) m = kind_alike s (level.Num n) (level.Num n) m (views.rolls-Num n) refl
  kind_step (level.Str x) m = kind_alike s (level.Str x) (level.Str x) m (views.rolls-Str x) refl
  kind_step level.Vararg m = kind_alike s level.Vararg level.Vararg m views.rolls-Vararg refl
  kind_step (level.Name x) m = kind_alike s (level.Name x) (level.Name x) m (views.rolls-Name x) refl
  kind_step (level.Paren e) m =
      let numbered_e = number_expr e.0 m in
      kind_alike s (level.Paren e.0) (level.Paren numbered_e.0) m
      (views.rolls-Paren numbered_e.0)
      (λ d. s.kind (level.Paren (e.1 m d)))
  kind_step (level.Unary op e) m =
      let numbered_e = number_expr e.0 m in
      kind_alike s (level.Unary op e.0) (level.Unary op numbered_e.0) m
      (views.rolls-Unary op numbered_e.0)
      (λ d. s.kind (level.Unary op (e.1 m d)))
  kind_step (level.Binary op a b) m =
      let numbered_a = number_expr a.0 m in
      let numbered_b = number_expr b.0 numbered_a.1 in
      kind_alike s (level.Binary op a.0 b.0) (level.Binary op numbered_a.0 numbered_b.0) m
      (views.rolls-Binary op numbered_a.0 numbered_b.0)
      (λ d. s.kind (level.Binary op (a.1 m d) (b.1 numbered_a.1 d)))
  kind_step (level.Concat es) m =
      let numbered_es = number_exprs es m in
      kind_alike s (level.Concat (bare es)) (level.Concat numbered_es.0) m
      (views.rolls-Concat numbered_es.0)
      (λ d. s.kind (level.Concat (exprs_keep es m d)))
  kind_step (level.Index a key) m =
      let numbered_a = number_expr a.0 m in
      let numbered_key = number_expr key.0 numbered_a.1 in
      kind_alike s (level.Index a.0 key.0) (level.Index numbered_a.0 numbered_key.0) m
      (views.rolls-Index numbered_a.0 numbered_key.0)
      (λ d. s.kind (level.Index (a.1 m d) (key.1 numbered_a.1 d)))
  kind_step (level.Member a x) m =
      let numbered_a = number_expr a.0 m in
      kind_alike s (level.Member a.0 x) (level.Member numbered_a.0 x) m
      (views.rolls-Member numbered_a.0 x)
      (λ d. s.kind (level.Member (a.1 m d) x))
  kind_step (level.ExprKind::Call a args) m =
      let numbered_a = number_expr a.0 m in
      let numbered_args = number_exprs args numbered_a.1 in
      kind_alike s (level.ExprKind::Call a.0 (bare args)) (level.ExprKind::Call numbered_a.0 numbered_args.0) m
      (views.rolls-ExprKind::Call numbered_a.0 numbered_args.0)
      (λ d. s.kind (level.ExprKind::Call (a.1 m d) (exprs_keep args numbered_a.1 d)))
  kind_step (level.Method a x args) m =
      let numbered_a = number_expr a.0 m in
      let numbered_args = number_exprs args numbered_a.1 in
      kind_alike s (level.Method a.0 x (bare args)) (level.Method numbered_a.0 x numbered_args.0) m
      (views.rolls-Method numbered_a.0 x numbered_args.0)
      (λ d. s.kind (level.Method (a.1 m d) x (exprs_keep args numbered_a.1 d)))
  kind_step (level.Table fs) m =
      let numbered_fs = number_fields fs m in
      kind_alike s (level.Table (bare fs)) (level.Table numbered_fs.0) m
      (views.rolls-Table numbered_fs.0)
      (λ d. s.kind (level.Table (fields_keep fs m d)))
  kind_step (level.Function f) m =
      let numbered_f = number_func f.0 m in
      kind_alike s (level.Function f.0) (level.Function numbered_f.0) m
      (views.rolls-Function numbered_f.0)
      (λ d. s.kind (level.Function (f.1 m d)))
  kind_step (level.ExprKind::If arms other) m =
      let numbered_arms = number_expr_arms arms m in
      let numbered_other = number_expr other.0 numbered_arms.1 in
      kind_alike s (level.ExprKind::If (bare arms) other.0) (level.ExprKind::If numbered_arms.0 numbered_other.0) m
      (views.rolls-ExprKind::If numbered_arms.0 numbered_other.0)
      (λ d. s.kind (level.ExprKind::If (expr_arms_keep arms m d) (other.1 numbered_arms.1 d)))
  kind_step (level.Interp xs es) m =
      let numbered_es = number_exprs es m in
      kind_alike s (level.Interp xs (bare es)) (level.Interp xs numbered_es.0) m
      (views.rolls-Interp xs numbered_es.0)
      (λ d. s.kind (level.Interp xs (exprs_keep es m d)))

  field_kind_step : (y : induction.field_kind_with kind_keeps field_kind_keeps stat_kind_keeps arm_keeps expr_keeps
      expr_arm_keeps field_keeps func_keeps stat_keeps) →
      field_kind_keeps (induction.field_kind_of kind_keeps field_kind_keeps stat_kind_keeps arm_keeps expr_keeps
      expr_arm_keeps field_keeps func_keeps stat_keeps y)
  field_kind_step (level.Item e) m =
      let numbered_e = number_expr e.0 m in
      field_kind_alike s (level.Item e.0) (level.Item numbered_e.0) m
      (views.rolls-Item numbered_e.0) (λ d. s.field_kind (level.Item (e.1 m d)))
  field_kind_step (level.Named x e) m =
      let numbered_e = number_expr e.0 m in
      field_kind_alike s (level.Named x e.0) (level.Named x numbered_e.0) m
      (views.rolls-Named x numbered_e.0) (λ d. s.field_kind (level.Named x (e.1 m d)))
  field_kind_step (level.Keyed key e) m =
      let numbered_key = number_expr key.0 m in
      let numbered_e = number_expr e.0 numbered_key.1 in
      field_kind_alike s (level.Keyed key.0 e.0) (level.Keyed numbered_key.0 numbered_e.0) m
      (views.rolls-Keyed numbered_key.0 numbered_e.0) (λ d. s.field_kind (level.Keyed (key.1 m d) (e.1 numbered_key.1 d)))

  stat_kind_step : (y : induction.stat_kind_with kind_keeps field_kind_keeps stat_kind_keeps arm_keeps expr_keeps
      expr_arm_keeps field_keeps func_keeps stat_keeps) →
      stat_kind_keeps (induction.stat_kind_of kind_keeps field_kind_keeps stat_kind_keeps arm_keeps expr_keeps
      expr_arm_keeps field_keeps func_keeps stat_keeps y)
  stat_kind_step (level.Local xs es) m =
      let numbered_es = number_exprs es m in
      stat_kind_alike s (level.Local xs (bare es)) (level.Local xs numbered_es.0) m
      (views.rolls-Local xs numbered_es.0)
      (λ d. s.stat_kind (level.Local xs (exprs_keep es m d)))
  stat_kind_step (level.Assign es vs) m =
      let numbered_es = number_exprs es m in
      let numbered_vs = number_exprs vs numbered_es.1 in
      stat_kind_alike s (level.Assign (bare es) (bare vs)) (level.Assign numbered_es.0 numbered_vs.0) m
      (views.rolls-Assign numbered_es.0 numbered_vs.0)
      (λ d. s.stat_kind (level.Assign (exprs_keep es m d) (exprs_keep vs numbered_es.1 d)))
  stat_kind_step (level.Compound op a e) m =
      let numbered_a = number_expr a.0 m in
      let numbered_e = number_expr e.0 numbered_a.1 in
      stat_kind_alike s (level.Compound op a.0 e.0) (level.Compound op numbered_a.0 numbered_e.0) m
      (views.rolls-Compound op numbered_a.0 numbered_e.0)
      (λ d. s.stat_kind (level.Compound op (a.1 m d) (e.1 numbered_a.1 d)))
  stat_kind_step (level.StatKind::Call e) m =
      let numbered_e = number_expr e.0 m in
      stat_kind_alike s (level.StatKind::Call e.0) (level.StatKind::Call numbered_e.0) m
      (views.rolls-StatKind::Call numbered_e.0)
      (λ d. s.stat_kind (level.StatKind::Call (e.1 m d)))
  stat_kind_step (level.Do block) m =
      let numbered_block = number_stats block m in
      stat_kind_alike s (level.Do (bare block)) (level.Do numbered_block.0) m
      (views.rolls-Do numbered_block.0)
      (λ d. s.stat_kind (level.Do (stats_keep block m d)))
  stat_kind_step (level.While c block) m =
      let numbered_c = number_expr c.0 m in
      let numbered_block = number_stats block numbered_c.1 in
      stat_kind_alike s (level.While c.0 (bare block)) (level.While numbered_c.0 numbered_block.0) m
      (views.rolls-While numbered_c.0 numbered_block.0)
      (λ d. s.stat_kind (level.While (c.1 m d) (stats_keep block numbered_c.1 d)))
  stat_kind_step (level.Repeat block c) m =
      let numbered_block = number_stats block m in
      let numbered_c = number_expr c.0 numbered_block.1 in
      stat_kind_alike s (level.Repeat (bare block) c.0) (level.Repeat numbered_block.0 numbered_c.0) m
      (views.rolls-Repeat numbered_block.0 numbered_c.0)
      (λ d. s.stat_kind (level.Repeat (stats_keep block m d) (c.1 numbered_block.1 d)))
  stat_kind_step (level.StatKind::If arms None) m =
      let numbered_arms = number_arms arms m in
      stat_kind_alike s (level.StatKind::If (bare arms) None) (level.StatKind::If numbered_arms.0 None) m
      (views.rolls-StatKind::If numbered_arms.0 None)
      (λ d. s.stat_kind (level.StatKind::If (arms_keep arms m d) None))
  stat_kind_step (level.StatKind::If arms (Some block)) m =
      let numbered_arms = number_arms arms m in
      let numbered_block = number_stats block numbered_arms.1 in
      stat_kind_alike s (level.StatKind::If (bare arms) (Some (bare block))) (level.StatKind::If numbered_arms.0 (Some numbered_block.0)) m
      (views.rolls-StatKind::If numbered_arms.0 (Some numbered_block.0))
      (λ d. s.stat_kind (level.StatKind::If (arms_keep arms m d) (Some (stats_keep block numbered_arms.1 d))))
  stat_kind_step (level.NumFor x a b None block) m =
      let numbered_a = number_expr a.0 m in
      let numbered_b = number_expr b.0 numbered_a.1 in
      let numbered_block = number_stats block numbered_b.1 in
      stat_kind_alike s (level.NumFor x a.0 b.0 None (bare block)) (level.NumFor x numbered_a.0 numbered_b.0 None numbered_block.0) m
      (views.rolls-NumFor x numbered_a.0 numbered_b.0 None numbered_block.0)
      (λ d. s.stat_kind (level.NumFor x (a.1 m d) (b.1 numbered_a.1 d) None (stats_keep block numbered_b.1 d)))
  stat_kind_step (level.NumFor x a b (Some c) block) m =
      let numbered_a = number_expr a.0 m in
      let numbered_b = number_expr b.0 numbered_a.1 in
      let numbered_c = number_expr c.0 numbered_b.1 in
      let numbered_block = number_stats block numbered_c.1 in
      stat_kind_alike s (level.NumFor x a.0 b.0 (Some c.0) (bare block)) (level.NumFor x numbered_a.0 numbered_b.0 (Some numbered_c.0) numbered_block.0) m
      (views.rolls-NumFor x numbered_a.0 numbered_b.0 (Some numbered_c.0) numbered_block.0)
      (λ d. s.stat_kind (level.NumFor x (a.1 m d) (b.1 numbered_a.1 d) (Some (c.1 numbered_b.1 d)) (stats_keep block numbered_c.1 d)))
  stat_kind_step (level.GenFor xs es block) m =
      let numbered_es = number_exprs es m in
      let numbered_block = number_stats block numbered_es.1 in
      stat_kind_alike s (level.GenFor xs (bare es) (bare block)) (level.GenFor xs numbered_es.0 numbered_block.0) m
      (views.rolls-GenFor xs numbered_es.0 numbered_block.0)
      (λ d. s.stat_kind (level.GenFor xs (exprs_keep es m d) (stats_keep block numbered_es.1 d)))
  stat_kind_step (level.LocalFunction x f) m =
      let numbered_f = number_func f.0 m in
      stat_kind_alike s (level.LocalFunction x f.0) (level.LocalFunction x numbered_f.0) m
      (views.rolls-LocalFunction x numbered_f.0)
      (λ d. s.stat_kind (level.LocalFunction x (f.1 m d)))
  stat_kind_step (level.Return es) m =
      let numbered_es = number_exprs es m in
      stat_kind_alike s (level.Return (bare es)) (level.Return numbered_es.0) m
      (views.rolls-Return numbered_es.0)
      (λ d. s.stat_kind (level.Return (exprs_keep es m d)))
  stat_kind_step level.Break m = stat_kind_alike s level.Break level.Break m views.rolls-Break refl
  stat_kind_step level.Continue m = stat_kind_alike s level.Continue level.Continue m views.rolls-Continue refl

  arm_step : (y : induction.arm_with kind_keeps field_kind_keeps stat_kind_keeps arm_keeps expr_keeps expr_arm_keeps field_keeps func_keeps stat_keeps) →
      arm_keeps (induction.arm_of kind_keeps field_kind_keeps stat_kind_keeps arm_keeps expr_keeps expr_arm_keeps field_keeps func_keeps stat_keeps y)
  arm_step y m =
      let cond = number_expr y.cond.0 m in
      let body = number_stats y.body cond.1 in
      arm_alike s (record { cond = y.cond.0; body = bare y.body }) (record { cond = cond.0; body = body.0 }) m refl
      (λ d. s.arm (record { cond = y.cond.1 m d; body = stats_keep y.body cond.1 d }))

  expr_step : (y : induction.expr_with kind_keeps field_kind_keeps stat_kind_keeps arm_keeps expr_keeps expr_arm_keeps field_keeps func_keeps stat_keeps) →
      expr_keeps (induction.expr_of kind_keeps field_kind_keeps stat_kind_keeps arm_keeps expr_keeps expr_arm_keeps field_keeps func_keeps stat_keeps y)
  expr_step y m =
      let kind = number_kind y.kind.0 (m + 1) in
      expr_alike s (record { id = y.id; at = y.at; line = y.line; kind = y.kind.0 })
      (record { id = m; at = y.at; line = y.line; kind = kind.0 }) m refl
      ((λ d. s.expr (record { id = m; at = y.at; line = y.line; kind = y.kind.1 (m + 1) d }))
      ∙ ignores.expr (record { id = y.id; at = y.at; line = y.line; kind = at_kind s y.kind.0 }) m)

  expr_arm_step : (y : induction.expr_arm_with kind_keeps field_kind_keeps stat_kind_keeps arm_keeps expr_keeps
      expr_arm_keeps field_keeps func_keeps stat_keeps) →
      expr_arm_keeps (induction.expr_arm_of kind_keeps field_kind_keeps stat_kind_keeps arm_keeps expr_keeps expr_arm_keeps field_keeps func_keeps stat_keeps y)
  expr_arm_step y m =
      let cond = number_expr y.cond.0 m in
      let value = number_expr y.value.0 cond.1 in
      expr_arm_alike s (record { cond = y.cond.0; value = y.value.0 }) (record { cond = cond.0; value = value.0 }) m refl
      (λ d. s.expr_arm (record { cond = y.cond.1 m d; value = y.value.1 cond.1 d }))

  field_step : (y : induction.field_with kind_keeps field_kind_keeps stat_kind_keeps arm_keeps expr_keeps expr_arm_keeps field_keeps func_keeps stat_keeps) →
      field_keeps (induction.field_of kind_keeps field_kind_keeps stat_kind_keeps arm_keeps expr_keeps expr_arm_keeps field_keeps func_keeps stat_keeps y)
  field_step y m =
      field_alike s (record { at = y.at; kind = y.kind.0 }) (record { at = y.at; kind = (number_field_kind y.kind.0 m).0 }) m refl
      (λ d. s.field (record { at = y.at; kind = y.kind.1 m d }))

  func_step : (y : induction.func_with kind_keeps field_kind_keeps stat_kind_keeps arm_keeps expr_keeps expr_arm_keeps field_keeps func_keeps stat_keeps) →
      func_keeps (induction.func_of kind_keeps field_kind_keeps stat_kind_keeps arm_keeps expr_keeps expr_arm_keeps field_keeps func_keeps stat_keeps y)
  func_step y m =
      func_alike s (record { id = y.id; at = y.at; line = y.line; params = y.params; vararg = y.vararg; body = bare y.body })
      (record { id = m; at = y.at; line = y.line; params = y.params; vararg = y.vararg; body = (number_stats y.body (m + 1)).0 }) m refl
      ((λ d. s.func (record { id = m; at = y.at; line = y.line; params = y.params; vararg = y.vararg; body = stats_keep y.body (m + 1) d }))
      ∙ ignores.func (record { id = y.id; at = y.at; line = y.line; params = y.params; vararg = y.vararg; body = map (at_stat s) (bare y.body) }) m)

  stat_step : (y : induction.stat_with kind_keeps field_kind_keeps stat_kind_keeps arm_keeps expr_keeps expr_arm_keeps field_keeps func_keeps stat_keeps) →
      stat_keeps (induction.stat_of kind_keeps field_kind_keeps stat_kind_keeps arm_keeps expr_keeps expr_arm_keeps field_keeps func_keeps stat_keeps y)
  stat_step y m =
      stat_alike s (record { id = y.id; at = y.at; line = y.line; kind = y.kind.0 })
      (record { id = m; at = y.at; line = y.line; kind = (number_stat_kind y.kind.0 (m + 1)).0 }) m refl
      ((λ d. s.stat (record { id = m; at = y.at; line = y.line; kind = y.kind.1 (m + 1) d }))
      ∙ ignores.stat (record { id = y.id; at = y.at; line = y.line; kind = at_stat_kind s y.kind.0 }) m)

  pub numbered_gives : (f : FuncBody) (n : ℕ) → at_func s (numbered_func f n).0 ≡ at_func s f
  numbered_gives =
      induction.all_func kind_keeps field_kind_keeps stat_kind_keeps arm_keeps expr_keeps expr_arm_keeps field_keeps func_keeps stat_keeps
      (record {
        kind = kind_step;
        field_kind = field_kind_step;
        stat_kind = stat_kind_step;
        arm = arm_step;
        expr = expr_step;
        expr_arm = expr_arm_step;
        field = field_step;
        func = func_step;
        stat = stat_step;
      })
