-- A numbered tree has its nodes numbered in source order.
use Rattle.std.proofs.Common.{◌≡◌, ℕ, ◌+◌, List, [], ◌∷◌, map, Bool, Some, None, refl, sym, ap, subst, rules}
use Rattle.byte_text.specs.declared.fixed.StrId.{StrId}
use Rattle.syntax_tree.specs.declared.tree.Arm.{Arm, roll-Arm, out-Arm}
use Rattle.syntax_tree.specs.declared.tree.Expr.{Expr, roll-Expr}
use Rattle.syntax_tree.specs.declared.tree.ExprArm.{ExprArm, roll-ExprArm}
use Rattle.syntax_tree.specs.declared.tree.ExprKind.{ExprKind, roll-ExprKind, out-ExprKind}
use Rattle.syntax_tree.specs.declared.tree.ExprKind.TheFolds as folds
use Rattle.syntax_tree.specs.declared.tree.ExprKind.TheOpen as level
use Rattle.syntax_tree.specs.declared.tree.ExprKind.TheOpen.{ExprKind-F, FieldKind-F, StatKind-F, Arm-F, Expr-F, ExprArm-F, Field-F, FuncBody-F, Stat-F}
use Rattle.syntax_tree.specs.declared.tree.ExprKind.TheViews as views
use Rattle.syntax_tree.specs.declared.tree.Field.{Field, roll-Field}
use Rattle.syntax_tree.specs.declared.tree.FieldKind.{FieldKind, roll-FieldKind, out-FieldKind}
use Rattle.syntax_tree.specs.declared.tree.FuncBody.{FuncBody, roll-FuncBody, out-FuncBody}
use Rattle.syntax_tree.specs.declared.tree.Stat.{Stat, roll-Stat}
use Rattle.syntax_tree.specs.declared.tree.StatKind.{StatKind, roll-StatKind, out-StatKind}
use Rattle.syntax_tree.specs.declared.notes.Visible.{Visible}
use Rattle.syntax_tree.specs.Fold.{Steps, at_arm, at_expr, at_expr_arm, at_field, at_func, at_stat}
use Rattle.syntax_tree.specs.Numbers as numbers
use Rattle.syntax_tree.specs.Numbers.{Numbering, list}
use Rattle.scope_laws.specs.Sight.{Sight, Part, expr, stat, function, arm, expr_arm, field, block, ExprLevel, FieldLevel, StatLevel, visible, expr_parts, field_parts, in_stat}
use Rattle.scope_laws.proofs.Levels.{at_kind, at_field_kind, at_stat_kind, at_expr_level, at_field_level, at_stat_level, rolled_expr, rolled_field, rolled_stat, expr_is, expr_arm_is, field_is, stat_is}
use Rattle.scope_laws.proofs.Walks.{Walk, done, one, join}

abbrev numbering : Steps (Numbering ExprKind) (Numbering FieldKind) (Numbering StatKind) (Numbering Arm) (Numbering Expr)
    (Numbering ExprArm) (Numbering Field) (Numbering FuncBody) (Numbering Stat)
numbering = record {
  kind = numbers.expr_kind;
  field_kind = numbers.field_kind;
  stat_kind = numbers.stat_kind;
  arm =
      numbers.arm_level;
  expr = numbers.expr_level;
  expr_arm = numbers.expr_arm_level;
  field = numbers.field_level;
  func =
      numbers.func_level;
  stat = numbers.stat_level;
}

-- what is numbered from n on, with the next free number
abbrev KindWalk : ℕ → ExprKind × ℕ → Type 0
KindWalk n r = Walk n (expr_parts (out-ExprKind r.0)) r.1

abbrev FieldKindWalk : ℕ → FieldKind × ℕ → Type 0
FieldKindWalk n r = Walk n (field_parts (out-FieldKind r.0)) r.1

abbrev StatKindWalk : ℕ → StatKind × ℕ → Type 0
StatKindWalk n r = (s : Sight) → Walk n (in_stat (out-StatKind r.0) s).parts r.1

abbrev PartWalk : {A : Type 0} → (A → Part) → ℕ → A × ℕ → Type 0
PartWalk part n r = Walk n (part r.0 ∷ []) r.1

abbrev KindWalks : ExprKind → Type 0
KindWalks t = (n : ℕ) → KindWalk n (at_kind numbering t n)

abbrev FieldKindWalks : FieldKind → Type 0
FieldKindWalks t = (n : ℕ) → FieldKindWalk n (at_field_kind numbering t n)

abbrev StatKindWalks : StatKind → Type 0
StatKindWalks t = (n : ℕ) → StatKindWalk n (at_stat_kind numbering t n)

abbrev ArmWalks : Arm → Type 0
ArmWalks a = (n : ℕ) → PartWalk arm n (at_arm numbering a n)

abbrev ExprWalks : Expr → Type 0
ExprWalks e = (n : ℕ) → PartWalk expr n (at_expr numbering e n)

abbrev ExprArmWalks : ExprArm → Type 0
ExprArmWalks a = (n : ℕ) → PartWalk expr_arm n (at_expr_arm numbering a n)

abbrev FieldWalks : Field → Type 0
FieldWalks f = (n : ℕ) → PartWalk field n (at_field numbering f n)

abbrev FuncWalks : FuncBody → Type 0
FuncWalks f = (n : ℕ) → PartWalk function n (at_func numbering f n)

abbrev StatWalks : Stat → Type 0
StatWalks x = (n : ℕ) → PartWalk stat n (at_stat numbering x n)

abbrev With : {A : Type 0} → (A → Type 0) → Type 0
With {A} P = (a : A) × P a

parts_walk : {A : Type 0} (part : A → Part) (f : A → Numbering A) (xs : List (With (λ a. (n : ℕ) → PartWalk part n (f a n)))) (n : ℕ) →
    Walk n (map part (list (map f (map (λ x. x.0) xs)) n).0) (list (map f (map (λ x. x.0) xs)) n).1
parts_walk part f [] n = done n
parts_walk part f (x ∷ xs) n = join (x.1 n) (parts_walk part f xs (f x.0 n).1)

-- a block, in which some names are visible
body_walk : (body : List (With StatWalks)) (n : ℕ) (names : List Visible) →
    Walk n (block names (list (map (at_stat numbering) (map (λ x. x.0) body)) n).0 ∷ []) (list (map (at_stat numbering) (map
    (λ x. x.0) body)) n).1
body_walk body n names = one n _ (block names (list (map (at_stat numbering) (map (λ x. x.0) body)) n).0) tt (λ s. parts_walk stat
    (at_stat numbering) body n)

-- ---- expressions

kind_by : (l : ExprLevel) → ((n : ℕ) → KindWalk n (at_expr_level numbering l n)) → KindWalks (roll-ExprKind l)
kind_by l h n = subst (λ f. KindWalk n (f n)) (sym (rolled_expr numbering l)) (h n)

abbrev KindWith : Type 0
KindWith = ExprKind-F (With KindWalks) (With FieldKindWalks) (With StatKindWalks) (With ArmWalks) (With ExprWalks) (With ExprArmWalks)
    (With FieldWalks) (With FuncWalks) (With StatWalks)

abbrev kind_of : KindWith → ExprLevel
kind_of y = folds.map-ExprKind (With KindWalks) (With FieldKindWalks) (With StatKindWalks) (With ArmWalks) (With ExprWalks)
    (With ExprArmWalks) (With FieldWalks) (With FuncWalks) (With StatWalks) ExprKind FieldKind StatKind Arm Expr ExprArm Field FuncBody
    Stat (λ a. a.0) (λ a. a.0) (λ a. a.0) (λ a. a.0) (λ a. a.0) (λ a. a.0) (λ a. a.0) (λ a. a.0) (λ a. a.0) y

kind_walks : (y : KindWith) → KindWalks (roll-ExprKind (kind_of y))
kind_walks level.Nil = kind_by level.Nil (λ n. rw views.outs-Nil (done n))
kind_walks level.True = kind_by level.True (λ n. rw views.outs-True (done n))
kind_walks level.False = kind_by level.False (λ n. rw views.outs-False (done n))
kind_walks level.Vararg = kind_by level.Vararg (λ n. rw views.outs-Vararg (done n))
kind_walks (level.Num v) = kind_by (level.Num v) (λ n. rw views.outs-Num (done n))
kind_walks (level.Str x) = kind_by (level.Str x) (λ n. rw views.outs-Str (done n))
kind_walks (level.Name x) = kind_by (level.Name x) (λ n. rw views.outs-Name (done n))
kind_walks (level.Paren e) = kind_by (level.Paren e.0) (λ n. rw views.outs-Paren (e.1 n))
kind_walks (level.Unary op e) = kind_by (level.Unary op e.0) (λ n. rw views.outs-Unary (e.1 n))
kind_walks (level.Binary op a b) = kind_by (level.Binary op a.0 b.0) (λ n. rw views.outs-Binary (join (a.1 n) (b.1
    (at_expr numbering a.0 n).1)))
kind_walks (level.Concat es) = kind_by (level.Concat (map (λ z. z.0) es)) (λ n. rw views.outs-Concat (parts_walk expr
    (at_expr numbering) es n))
kind_walks (level.Index a b) = kind_by (level.Index a.0 b.0) (λ n. rw views.outs-Index (join (a.1 n) (b.1 (at_expr numbering a.0 n).1)))
kind_walks (level.Member a x) = kind_by (level.Member a.0 x) (λ n. rw views.outs-Member (a.1 n))
kind_walks (level.ExprKind::Call a es) = kind_by (level.ExprKind::Call a.0 (map (λ z. z.0) es)) (λ n. rw views.outs-ExprKind::Call (join
    (a.1 n) (parts_walk expr (at_expr numbering) es (at_expr numbering a.0 n).1)))
kind_walks (level.Method a x es) = kind_by (level.Method a.0 x (map (λ z. z.0) es)) (λ n. rw views.outs-Method (join (a.1 n)
    (parts_walk expr (at_expr numbering) es (at_expr numbering a.0 n).1)))
kind_walks (level.Table fs) = kind_by (level.Table (map (λ z. z.0) fs)) (λ n. rw views.outs-Table (parts_walk field
    (at_field numbering) fs n))
kind_walks (level.Function f) = kind_by (level.Function f.0) (λ n. rw views.outs-Function (f.1 n))
kind_walks (level.ExprKind::If arms e) = kind_by (level.ExprKind::If (map (λ z. z.0) arms) e.0) (λ n. rw views.outs-ExprKind::If (join
    (parts_walk expr_arm (at_expr_arm numbering) arms n) (e.1 (list (map (at_expr_arm numbering) (map (λ z. z.0) arms)) n).1)))
kind_walks (level.Interp xs es) = kind_by (level.Interp xs (map (λ z. z.0) es)) (λ n. rw views.outs-Interp (parts_walk expr
    (at_expr numbering) es n))

field_kind_by : (l : FieldLevel) → ((n : ℕ) → FieldKindWalk n (at_field_level numbering l n)) → FieldKindWalks (roll-FieldKind l)
field_kind_by l h n = subst (λ f. FieldKindWalk n (f n)) (sym (rolled_field numbering l)) (h n)

abbrev FieldKindWith : Type 0
FieldKindWith = FieldKind-F (With KindWalks) (With FieldKindWalks) (With StatKindWalks) (With ArmWalks) (With ExprWalks)
    (With ExprArmWalks) (With FieldWalks) (With FuncWalks) (With StatWalks)

abbrev field_kind_of : FieldKindWith → FieldLevel
field_kind_of y = folds.map-FieldKind (With KindWalks) (With FieldKindWalks) (With StatKindWalks) (With ArmWalks) (With ExprWalks)
    (With ExprArmWalks) (With FieldWalks) (With FuncWalks) (With StatWalks) ExprKind FieldKind StatKind Arm Expr ExprArm Field FuncBody
    Stat (λ a. a.0) (λ a. a.0) (λ a. a.0) (λ a. a.0) (λ a. a.0) (λ a. a.0) (λ a. a.0) (λ a. a.0) (λ a. a.0) y

field_kind_walks : (y : FieldKindWith) → FieldKindWalks (roll-FieldKind (field_kind_of y))
field_kind_walks (level.Item e) = field_kind_by (level.Item e.0) (λ n. rw views.outs-Item (e.1 n))
field_kind_walks (level.Named x e) = field_kind_by (level.Named x e.0) (λ n. rw views.outs-Named (e.1 n))
field_kind_walks (level.Keyed a b) = field_kind_by (level.Keyed a.0 b.0) (λ n. rw views.outs-Keyed (join (a.1 n) (b.1
    (at_expr numbering a.0 n).1)))

-- ---- statements

stat_kind_by : (l : StatLevel) → ((n : ℕ) → StatKindWalk n (at_stat_level numbering l n)) → StatKindWalks (roll-StatKind l)
stat_kind_by l h n = subst (λ f. StatKindWalk n (f n)) (sym (rolled_stat numbering l)) (h n)

abbrev StatKindWith : Type 0
StatKindWith = StatKind-F (With KindWalks) (With FieldKindWalks) (With StatKindWalks) (With ArmWalks) (With ExprWalks)
    (With ExprArmWalks) (With FieldWalks) (With FuncWalks) (With StatWalks)

abbrev stat_kind_of : StatKindWith → StatLevel
stat_kind_of y = folds.map-StatKind (With KindWalks) (With FieldKindWalks) (With StatKindWalks) (With ArmWalks) (With ExprWalks)
    (With ExprArmWalks) (With FieldWalks) (With FuncWalks) (With StatWalks) ExprKind FieldKind StatKind Arm Expr ExprArm Field FuncBody
    Stat (λ a. a.0) (λ a. a.0) (λ a. a.0) (λ a. a.0) (λ a. a.0) (λ a. a.0) (λ a. a.0) (λ a. a.0) (λ a. a.0) y

stat_kind_walks : (y : StatKindWith) → StatKindWalks (roll-StatKind (stat_kind_of y))
stat_kind_walks (level.Local xs es) = stat_kind_by (level.Local xs (map (λ z. z.0) es)) (λ n s. rw views.outs-Local (parts_walk expr
    (at_expr numbering) es n))
stat_kind_walks (level.Assign ts es) = stat_kind_by (level.Assign (map (λ z. z.0) ts) (map (λ z. z.0) es)) (λ n s. rw views.outs-Assign
    (join (parts_walk expr (at_expr numbering) ts n) (parts_walk expr (at_expr numbering) es (list (map (at_expr numbering) (map
    (λ z. z.0) ts)) n).1)))
stat_kind_walks (level.Compound op a b) = stat_kind_by (level.Compound op a.0 b.0) (λ n s. rw views.outs-Compound (join (a.1 n) (b.1
    (at_expr numbering a.0 n).1)))
stat_kind_walks (level.StatKind::Call e) = stat_kind_by (level.StatKind::Call e.0) (λ n s. rw views.outs-StatKind::Call (e.1 n))
stat_kind_walks (level.Do body) = stat_kind_by (level.Do (map (λ z. z.0) body)) (λ n s. rw views.outs-Do (body_walk body n []))
stat_kind_walks (level.While a body) = stat_kind_by (level.While a.0 (map (λ z. z.0) body)) (λ n s. rw views.outs-While (join (a.1 n)
    (body_walk body (at_expr numbering a.0 n).1 [])))
stat_kind_walks (level.Repeat body a) = stat_kind_by (level.Repeat (map (λ z. z.0) body) a.0) (λ n s. rw views.outs-Repeat (join
    (parts_walk stat (at_stat numbering) body n) (a.1 (list (map (at_stat numbering) (map (λ z. z.0) body)) n).1)))
stat_kind_walks (level.StatKind::If arms None) = stat_kind_by (level.StatKind::If (map (λ z. z.0) arms) None)
    (λ n s. rw views.outs-StatKind::If (join (parts_walk arm (at_arm numbering) arms n) (done (list (map (at_arm numbering) (map
    (λ z. z.0) arms)) n).1)))
stat_kind_walks (level.StatKind::If arms (Some body)) = stat_kind_by (level.StatKind::If (map (λ z. z.0) arms) (Some (map
    (λ z. z.0) body))) (λ n s. rw views.outs-StatKind::If (join (parts_walk arm (at_arm numbering) arms n) (body_walk body (list (map
    (at_arm numbering) (map (λ z. z.0) arms)) n).1 [])))
stat_kind_walks (level.NumFor x a b None body) = stat_kind_by (level.NumFor x a.0 b.0 None (map (λ z. z.0) body))
    (λ n s. rw views.outs-NumFor (join (a.1 n) (join (b.1 (at_expr numbering a.0 n).1) (body_walk body (at_expr numbering b.0
    (at_expr numbering a.0 n).1).1 (visible s.declared (x ∷ []))))))
stat_kind_walks (level.NumFor x a b (Some c) body) = stat_kind_by (level.NumFor x a.0 b.0 (Some c.0) (map (λ z. z.0) body))
    (λ n s. rw views.outs-NumFor (join (a.1 n) (join (b.1 (at_expr numbering a.0 n).1) (join (c.1 (at_expr numbering b.0
    (at_expr numbering a.0 n).1).1) (body_walk body (at_expr numbering c.0 (at_expr numbering b.0 (at_expr numbering a.0 n).1).1).1
    (visible s.declared (x ∷ [])))))))
stat_kind_walks (level.GenFor xs es body) = stat_kind_by (level.GenFor xs (map (λ z. z.0) es) (map (λ z. z.0) body))
    (λ n s. rw views.outs-GenFor (join (parts_walk expr (at_expr numbering) es n) (body_walk body (list (map (at_expr numbering) (map
    (λ z. z.0) es)) n).1 (visible s.declared xs))))
stat_kind_walks (level.LocalFunction x f) = stat_kind_by (level.LocalFunction x f.0) (λ n s. rw views.outs-LocalFunction (f.1 n))
stat_kind_walks (level.Return es) = stat_kind_by (level.Return (map (λ z. z.0) es)) (λ n s. rw views.outs-Return (parts_walk expr
    (at_expr numbering) es n))
stat_kind_walks level.Break = stat_kind_by level.Break (λ n s. rw views.outs-Break (done n))
stat_kind_walks level.Continue = stat_kind_by level.Continue (λ n s. rw views.outs-Continue (done n))

-- ---- parts

out_arm : (c : Expr) (body : List Stat) → out-Arm (roll-Arm (record { cond = c; body = body })) ≡ record { cond = c; body = body }
out_arm c body = search (rules, folds.the_lemmas, views.the_lemmas)

out_func : (id place line : ℕ) (params : List StrId) (vararg : Bool) (body : List Stat) →
    out-FuncBody (roll-FuncBody (record {
      id = id;
      at = place;
      line = line;
      params = params;
      vararg = vararg;
      body =
          body;
    })) ≡ record { id = id; at = place; line = line; params = params; vararg = vararg; body = body }
out_func id place line params vararg body = search (rules, folds.the_lemmas, views.the_lemmas)

arm_number : (c : Expr) (body : List Stat) → at_arm numbering (roll-Arm (record {
  cond = c;
  body =
      body;
})) ≡ numbers.arm_level (record { cond = at_expr numbering c; body = map (at_stat numbering) body })
arm_number c body = search (rules, folds.the_lemmas, views.the_lemmas)

func_number : (id place line : ℕ) (params : List StrId) (vararg : Bool) (body : List Stat) →
    at_func numbering (roll-FuncBody (record {
      id = id;
      at = place;
      line = line;
      params = params;
      vararg = vararg;
      body =
          body;
    })) ≡ numbers.func_level (record {
      id = id;
      at = place;
      line = line;
      params = params;
      vararg = vararg;
      body =
          map (at_stat numbering) body;
    })
func_number id place line params vararg body = search (rules, folds.the_lemmas, views.the_lemmas)

arm_inner : (c : Expr) (body : List Stat) (n m : ℕ) → Walk n (expr c ∷ block [] body ∷ []) m →
    PartWalk arm n (roll-Arm (record { cond = c; body = body }), m)
arm_inner c body n m w = one n m (arm (roll-Arm (record {
  cond = c;
  body =
      body;
}))) tt (λ s. subst (λ a. Walk n (expr a.cond ∷ block [] a.body ∷ []) m) (sym (out_arm c body)) w)

arm_walks : (y : Arm-F (With KindWalks) (With FieldKindWalks) (With StatKindWalks) (With ArmWalks) (With ExprWalks) (With ExprArmWalks)
    (With FieldWalks) (With FuncWalks) (With StatWalks)) → ArmWalks (roll-Arm (record { cond = y.cond.0; body = map (λ z. z.0) y.body }))
arm_walks y n =
    let c = at_expr numbering y.cond.0 n in
    let body = list (map (at_stat numbering) (map (λ z. z.0) y.body)) c.1 in
    subst (λ f. PartWalk arm n (f n)) (sym (arm_number y.cond.0 (map (λ z. z.0) y.body))) (arm_inner c.0 body.0 n body.1 (join
    (y.cond.1 n) (body_walk y.body c.1 [])))

func_inner : (n m place line : ℕ) (params : List StrId) (vararg : Bool) (body : List Stat) → Walk (n + 1) (map stat body) m →
    PartWalk function n (roll-FuncBody (record { id = n; at = place; line = line; params = params; vararg = vararg; body = body }), m)
func_inner n m place line params vararg body w = one n m (function (roll-FuncBody (record {
  id = n;
  at = place;
  line = line;
  params =
      params;
  vararg = vararg;
  body = body;
}))) (ap (λ f. f.id) (out_func n place line params vararg body)) (λ s. subst (λ f. Walk (n + 1)
    (map stat f.body) m) (sym (out_func n place line params vararg body)) w)

func_walks : (y : FuncBody-F (With KindWalks) (With FieldKindWalks) (With StatKindWalks) (With ArmWalks) (With ExprWalks)
    (With ExprArmWalks) (With FieldWalks) (With FuncWalks) (With StatWalks)) →
    FuncWalks (roll-FuncBody (record {
      id = y.id;
      at = y.at;
      line = y.line;
      params = y.params;
      vararg = y.vararg;
      body =
          map (λ z. z.0) y.body;
    }))
func_walks y n =
    let body = list (map (at_stat numbering) (map (λ z. z.0) y.body)) (n + 1) in
    subst (λ f. PartWalk function n (f n)) (sym (func_number y.id y.at y.line y.params y.vararg (map (λ z. z.0) y.body)))
    (func_inner n body.1 y.at y.line y.params y.vararg body.0 (parts_walk stat (at_stat numbering) y.body (n + 1)))

expr_walks : (y : Expr-F (With KindWalks) (With FieldKindWalks) (With StatKindWalks) (With ArmWalks) (With ExprWalks) (With ExprArmWalks)
    (With FieldWalks) (With FuncWalks) (With StatWalks)) → ExprWalks (record { id = y.id; at = y.at; line = y.line; kind = y.kind.0 })
expr_walks y n = subst (λ f. PartWalk expr n (f n)) (sym (expr_is numbering (record {
  id = y.id;
  at = y.at;
  line = y.line;
  kind =
      y.kind.0;
}))) (one n _ (expr (record {
  id = n;
  at = y.at;
  line = y.line;
  kind =
      (at_kind numbering y.kind.0 (n + 1)).0;
})) refl (λ s. y.kind.1 (n + 1)))

expr_arm_walks : (y : ExprArm-F (With KindWalks) (With FieldKindWalks) (With StatKindWalks) (With ArmWalks) (With ExprWalks)
    (With ExprArmWalks) (With FieldWalks) (With FuncWalks) (With StatWalks)) → ExprArmWalks (record { cond = y.cond.0; value = y.value.0 })
expr_arm_walks y n =
    let c = at_expr numbering y.cond.0 n in
    let v = at_expr numbering y.value.0 c.1 in
    subst (λ f. PartWalk expr_arm n (f n)) (sym (expr_arm_is numbering (record {
      cond = y.cond.0;
      value =
          y.value.0;
    }))) (one n v.1 (expr_arm (record { cond = c.0; value = v.0 })) tt (λ s. join (y.cond.1 n) (y.value.1 c.1)))

field_walks : (y : Field-F (With KindWalks) (With FieldKindWalks) (With StatKindWalks) (With ArmWalks) (With ExprWalks)
    (With ExprArmWalks) (With FieldWalks) (With FuncWalks) (With StatWalks)) → FieldWalks (record { at = y.at; kind = y.kind.0 })
field_walks y n = subst (λ f. PartWalk field n (f n)) (sym (field_is numbering (record {
  at = y.at;
  kind =
      y.kind.0;
}))) (one n _ (field (record { at = y.at; kind = (at_field_kind numbering y.kind.0 n).0 })) tt (λ s. y.kind.1 n))

stat_walks : (y : Stat-F (With KindWalks) (With FieldKindWalks) (With StatKindWalks) (With ArmWalks) (With ExprWalks) (With ExprArmWalks)
    (With FieldWalks) (With FuncWalks) (With StatWalks)) → StatWalks (record { id = y.id; at = y.at; line = y.line; kind = y.kind.0 })
stat_walks y n = subst (λ f. PartWalk stat n (f n)) (sym (stat_is numbering (record {
  id = y.id;
  at = y.at;
  line = y.line;
  kind =
      y.kind.0;
}))) (one n _ (stat (record {
  id = n;
  at = y.at;
  line = y.line;
  kind =
      (at_stat_kind numbering y.kind.0 (n + 1)).0;
})) refl (λ s. y.kind.1 (n + 1) s))

-- ---- a script

func_all : (f : FuncBody) → FuncWalks f
func_all = folds.ind-FuncBody KindWalks FieldKindWalks StatKindWalks ArmWalks ExprWalks ExprArmWalks FieldWalks FuncWalks StatWalks
    (λ x y e. subst (λ z. KindWalks (roll-ExprKind z)) e (kind_walks y)) (λ x y e. subst (λ z. FieldKindWalks (roll-FieldKind z)) e
    (field_kind_walks y))
    (λ x y e. subst (λ z. StatKindWalks (roll-StatKind z)) e (stat_kind_walks y)) (λ x y e. subst (λ z. ArmWalks (roll-Arm z)) e
    (arm_walks y))
    (λ x y e. subst (λ z. ExprWalks (roll-Expr z)) e (expr_walks y)) (λ x y e. subst (λ z. ExprArmWalks (roll-ExprArm z)) e
    (expr_arm_walks y))
    (λ x y e. subst (λ z. FieldWalks (roll-Field z)) e (field_walks y)) (λ x y e. subst (λ z. FuncWalks (roll-FuncBody z)) e (func_walks y))
    (λ x y e. subst (λ z. StatWalks (roll-Stat z)) e (stat_walks y))

pub script_walk : (main : FuncBody) → Walk 0 (function (numbers.numbered main).main ∷ []) (numbers.numbered main).nodes
script_walk main = func_all main 0
