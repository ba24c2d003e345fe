-- What a function of the tree gives at a node, by what it gives for the node's parts.
use Rattle.std.proofs.Common.{rules, ◌≡◌, ℤ, map, sym, ap, ◌∙◌}
use Rattle.byte_text.specs.declared.fixed.StrId.{StrId}
use Rattle.syntax_tree.specs.declared.tree.ExprKind as expr
use Rattle.syntax_tree.specs.declared.tree.ExprKind.TheFolds as folds
use Rattle.syntax_tree.specs.declared.tree.ExprKind.TheOpen as level
use Rattle.syntax_tree.specs.declared.tree.ExprKind.TheViews as views
use Rattle.syntax_tree.specs.declared.tree.Arm.{Arm, out-Arm, roll-Arm}
use Rattle.syntax_tree.specs.declared.tree.BinOp.{BinOp}
use Rattle.syntax_tree.specs.declared.tree.Expr.{Expr, out-Expr}
use Rattle.syntax_tree.specs.declared.tree.ExprArm.{ExprArm}
use Rattle.syntax_tree.specs.declared.tree.ExprKind.{ExprKind, out-ExprKind, roll-ExprKind}
use Rattle.syntax_tree.specs.declared.tree.ExprKind.TheOpen.{ExprKind-F, StatKind-F}
use Rattle.syntax_tree.specs.declared.tree.Field.{Field}
use Rattle.syntax_tree.specs.declared.tree.FieldKind.{FieldKind}
use Rattle.syntax_tree.specs.declared.tree.FuncBody.{FuncBody, out-FuncBody, roll-FuncBody}
use Rattle.syntax_tree.specs.declared.tree.Stat.{Stat, out-Stat}
use Rattle.syntax_tree.specs.declared.tree.StatKind.{StatKind, out-StatKind, roll-StatKind}
use Rattle.syntax_tree.specs.Fold.{Steps, at_arm, at_expr, at_expr_arm, at_field, at_func, at_stat}

-- a node whose parts are nodes
abbrev pub ExprKindNode : Type 0
ExprKindNode = ExprKind-F ExprKind FieldKind StatKind Arm Expr ExprArm Field FuncBody Stat

abbrev pub StatKindNode : Type 0
StatKindNode = StatKind-F ExprKind FieldKind StatKind Arm Expr ExprArm Field FuncBody Stat

module _ {K L M A E X F B S : Type 0} (s : Steps K L M A E X F B S) where
  abbrev at_kind : ExprKind → K
  at_kind = folds.fold-ExprKind K L M A E X F B S s.kind s.field_kind s.stat_kind s.arm s.expr s.expr_arm s.field s.func s.stat

  abbrev at_field_kind : FieldKind → L
  at_field_kind = folds.fold-FieldKind K L M A E X F B S s.kind s.field_kind s.stat_kind s.arm s.expr s.expr_arm s.field s.func s.stat

  abbrev at_stat_kind : StatKind → M
  at_stat_kind = folds.fold-StatKind K L M A E X F B S s.kind s.field_kind s.stat_kind s.arm s.expr s.expr_arm s.field s.func s.stat

  -- a node with what the function gives for its parts
  abbrev pub kind_level : ExprKindNode → ExprKind-F K L M A E X F B S
  kind_level =
      folds.map-ExprKind ExprKind FieldKind StatKind Arm Expr ExprArm Field FuncBody Stat K L M A E X F B S at_kind at_field_kind
      at_stat_kind (at_arm s) (at_expr s) (at_expr_arm s) (at_field s) (at_func s) (at_stat s)

  abbrev pub stat_kind_level : StatKindNode → StatKind-F K L M A E X F B S
  stat_kind_level =
      folds.map-StatKind ExprKind FieldKind StatKind Arm Expr ExprArm Field FuncBody Stat K L M A E X F B S at_kind at_field_kind
      at_stat_kind (at_arm s) (at_expr s) (at_expr_arm s) (at_field s) (at_func s) (at_stat s)

  kind_is : (k : ExprKind) → at_kind k ≡ s.kind (kind_level (out-ExprKind k))
  kind_is k =
      let same : roll-ExprKind (out-ExprKind k) ≡ k = search (rules, folds.the_lemmas, views.the_lemmas) in
      ap at_kind (sym same) ∙ folds.fold-roll-ExprKind K L M A E X F B S s.kind s.field_kind s.stat_kind s.arm s.expr s.expr_arm s.field
      s.func s.stat (out-ExprKind k)

  stat_kind_is : (k : StatKind) → at_stat_kind k ≡ s.stat_kind (stat_kind_level (out-StatKind k))
  stat_kind_is k =
      let same : roll-StatKind (out-StatKind k) ≡ k = search (rules, folds.the_lemmas, views.the_lemmas) in
      ap at_stat_kind (sym same) ∙ folds.fold-roll-StatKind K L M A E X F B S s.kind s.field_kind s.stat_kind s.arm s.expr s.expr_arm
      s.field s.func s.stat (out-StatKind k)

  -- ---- expressions
  pub of_kind : (e : Expr) (l : ExprKindNode) → out-ExprKind e.kind ≡ l →
      at_expr s e ≡ s.expr (record { id = e.id; at = e.at; line = e.line; kind = s.kind (kind_level l) })
  of_kind e l h =
      folds.fold-roll-Expr K L M A E X F B S s.kind s.field_kind s.stat_kind s.arm s.expr s.expr_arm s.field s.func s.stat (out-Expr e)
      ∙ ap (λ (k : K). s.expr (record { id = e.id; at = e.at; line = e.line; kind = k })) (kind_is e.kind ∙ ap (λ (x : ExprKindNode). s.kind (kind_level x)) h)

  pub of_number : (e : Expr) (v : ℤ) → e.kind ≡ expr.Num v → at_expr s e ≡ s.expr (record { id = e.id; at = e.at; line = e.line; kind = s.kind (level.Num v) })
  of_number e v h = of_kind e (level.Num v) (ap out-ExprKind h ∙ views.outs-Num v)

  pub of_name : (e : Expr) (x : StrId) → e.kind ≡ expr.Name x →
      at_expr s e ≡ s.expr (record { id = e.id; at = e.at; line = e.line; kind = s.kind (level.Name x) })
  of_name e x h = of_kind e (level.Name x) (ap out-ExprKind h ∙ views.outs-Name x)

  pub of_binary : (e a b : Expr) (op : BinOp) → e.kind ≡ expr.Binary op a b →
      at_expr s e ≡ s.expr (record { id = e.id; at = e.at; line = e.line; kind = s.kind (level.Binary op (at_expr s a) (at_expr s b)) })
  of_binary e a b op h = of_kind e (level.Binary op a b) (ap out-ExprKind h ∙ views.outs-Binary op a b)

  -- ---- statements
  pub of_stat_kind : (t : Stat) (l : StatKindNode) → out-StatKind t.kind ≡ l →
      at_stat s t ≡ s.stat (record { id = t.id; at = t.at; line = t.line; kind = s.stat_kind (stat_kind_level l) })
  of_stat_kind t l h =
      folds.fold-roll-Stat K L M A E X F B S s.kind s.field_kind s.stat_kind s.arm s.expr s.expr_arm s.field s.func s.stat (out-Stat t)
      ∙ ap (λ (k : M). s.stat (record { id = t.id; at = t.at; line = t.line; kind = k }))
      (stat_kind_is t.kind ∙ ap (λ (x : StatKindNode). s.stat_kind (stat_kind_level x)) h)

  -- ---- conditions with their blocks, and functions
  pub of_arm : (a : Arm) → at_arm s a ≡ s.arm (record { cond = at_expr s (out-Arm a).cond; body = map (at_stat s) (out-Arm a).body })
  of_arm a =
      let same : roll-Arm (out-Arm a) ≡ a = search (rules, folds.the_lemmas, views.the_lemmas) in
      ap (at_arm s) (sym same) ∙ folds.fold-roll-Arm K L M A E X F B S s.kind s.field_kind s.stat_kind s.arm s.expr s.expr_arm s.field s.func s.stat (out-Arm a)

  pub of_function : (f : FuncBody) → let o = out-FuncBody f in at_func s f ≡ s.func
      (record { id = o.id; at = o.at; line = o.line; params = o.params; vararg = o.vararg; body = map (at_stat s) o.body })
  of_function f =
      let same : roll-FuncBody (out-FuncBody f) ≡ f = search (rules, folds.the_lemmas, views.the_lemmas) in
      ap (at_func s) (sym same) ∙ folds.fold-roll-FuncBody K L M A E X F B S s.kind s.field_kind s.stat_kind s.arm s.expr s.expr_arm
      s.field s.func s.stat (out-FuncBody f)
