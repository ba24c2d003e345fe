-- In a script that breaks no rule of scopes and sizes, no part breaks one where it stands.
use Rattle.std.proofs.Common.{rules, ◌≡◌, ℕ, ◌+◌, ◌≤◌, Bool, true, false, List, [], ◌∷◌, ◌++◌, length, map, Some, None, nat_lt, if◌then◌else◌, refl, sym, ap, ◌∙◌, subst, arith, append-nil}
use Rattle.std.proofs.lemmas.Bool.Decides.{nat_tests}
use Rattle.syntax_tree.specs.declared.bindings.Bindings.{Bindings}
use Rattle.syntax_tree.specs.declared.fault.ScopeFault.{ScopeFault}
use Rattle.syntax_tree.specs.declared.fault.ScopeRule.{ScopeRule}
use Rattle.syntax_tree.specs.declared.notes.Place.{Place}
use Rattle.syntax_tree.specs.declared.tree.Arm.{Arm, out-Arm}
use Rattle.syntax_tree.specs.declared.tree.Expr.{Expr}
use Rattle.syntax_tree.specs.declared.tree.ExprArm.{ExprArm}
use Rattle.syntax_tree.specs.declared.tree.ExprKind.{ExprKind, out-ExprKind}
use Rattle.syntax_tree.specs.declared.tree.ExprKind.TheFolds as folds
use Rattle.syntax_tree.specs.declared.tree.ExprKind.TheOpen as level
use Rattle.syntax_tree.specs.declared.tree.ExprKind.TheOpen.{Field-F, FieldKind-F}
use Rattle.syntax_tree.specs.declared.tree.ExprKind.TheViews as views
use Rattle.syntax_tree.specs.declared.tree.Field.{Field, roll-Field, out-Field}
use Rattle.syntax_tree.specs.declared.tree.FieldKind.{FieldKind, roll-FieldKind, out-FieldKind}
use Rattle.syntax_tree.specs.declared.tree.FuncBody.{FuncBody, out-FuncBody}
use Rattle.syntax_tree.specs.declared.tree.Stat.{Stat}
use Rattle.syntax_tree.specs.declared.tree.StatKind.{StatKind, out-StatKind}
use Rattle.syntax_tree.specs.Faults.{fault}
use Rattle.syntax_tree.specs.Limits.{most_registers}
use Rattle.syntax_tree.specs.Need.{need}
use Rattle.syntax_tree.specs.Rules as scopes
use Rattle.syntax_tree.specs.Rules.{StatRules, rules_expr, rules_stat, rules_func, rules_arm, rules_expr_arm, rules_field}
use Rattle.syntax_tree.specs.Sizes as sizes
use Rattle.syntax_tree.specs.Sizes.{in_all, sizes_in_expr, sizes_in_stat, sizes_in_arm, sizes_in_expr_arm, sizes_in_field, sizes_in_func, sizes_in_block, size_faults, all_sizes}
use Rattle.scope_laws.specs.Sight.{Sight, Part, expr, stat, function, arm, expr_arm, field, block, ExprLevel, FieldLevel, StatLevel, visible, expr_parts, field_parts, in_stat, in_part, itself, next, enter, Sees}
use Rattle.scope_laws.proofs.Levels as levels
use Rattle.link_laws.proofs.SizeLevels as size_levels
use Rattle.link_laws.proofs.Walks.{left, right}

-- the place where the text of a function begins
abbrev pub place_in : FuncBody → Place
place_in f = record { in_loop = false; vararg = (out-FuncBody f).vararg; live = length (out-FuncBody f).params }

-- behind so many more locals
abbrev later : ℕ → Place → Place
later n place = record place { live = place.live + n }

-- what no rule finds too great
few : (limit n : ℕ) (r : ScopeRule) (at : ℕ) → (if nat_lt limit n then fault r at else []) ≡ [] → n ≤ limit
few limit n r at e = which (nat_lt limit n) refl e
  where
    which : (t : Bool) → nat_lt limit n ≡ t → (if t then fault r at else []) ≡ [] → n ≤ limit
    which true p q = cc
    which false p q = grind (arith, nat_tests, p)

module _ (b : Bindings) where
  abbrev F : Type 0
  F = List ScopeFault

  -- ---- the sizes of fields, by those of their parts

  abbrev FieldKindLevel : Type 0
  FieldKindLevel = FieldKind-F ExprKind FieldKind StatKind Arm Expr ExprArm Field FuncBody Stat

  abbrev FieldLevel1 : Type 0
  FieldLevel1 = Field-F ExprKind FieldKind StatKind Arm Expr ExprArm Field FuncBody Stat

  abbrev field_kind_sizes : FieldKindLevel → F
  field_kind_sizes l = sizes.field_kind_sizes b (folds.map-FieldKind ExprKind FieldKind StatKind Arm Expr ExprArm Field FuncBody Stat
      (sizes.With ExprKind) (sizes.With FieldKind) (sizes.With StatKind) (sizes.With Arm) (sizes.With Expr) (sizes.With ExprArm)
      (sizes.With Field) (sizes.With FuncBody) (sizes.With Stat) (λ t. (t, size_levels.sizes_kind b t)) (λ t. (t, size_levels.sizes_field_kind b t))
      (λ t. (t, size_levels.sizes_stat_kind b t)) (λ t. (t, size_levels.sizes_arm b t)) (λ t. (t, size_levels.sizes_expr b t))
      (λ t. (t, size_levels.sizes_expr_arm b t)) (λ t. (t, size_levels.sizes_field b t)) (λ t. (t, size_levels.sizes_func b t))
      (λ t. (t, size_levels.sizes_stat b t)) l)

  abbrev field_sizes : FieldLevel1 → F
  field_sizes l = sizes.field_sizes b (folds.map-Field ExprKind FieldKind StatKind Arm Expr ExprArm Field FuncBody Stat
      (sizes.With ExprKind) (sizes.With FieldKind) (sizes.With StatKind) (sizes.With Arm) (sizes.With Expr) (sizes.With ExprArm)
      (sizes.With Field) (sizes.With FuncBody) (sizes.With Stat) (λ t. (t, size_levels.sizes_kind b t)) (λ t. (t, size_levels.sizes_field_kind b t))
      (λ t. (t, size_levels.sizes_stat_kind b t)) (λ t. (t, size_levels.sizes_arm b t)) (λ t. (t, size_levels.sizes_expr b t))
      (λ t. (t, size_levels.sizes_expr_arm b t)) (λ t. (t, size_levels.sizes_field b t)) (λ t. (t, size_levels.sizes_func b t))
      (λ t. (t, size_levels.sizes_stat b t)) l)

  field_is : (t : Field) → sizes_in_field b t ≡ field_sizes (out-Field t)
  field_is t =
      let same : roll-Field (out-Field t) ≡ t = search (rules, folds.the_lemmas, views.the_lemmas) in
      ap (sizes_in_field b) (sym same) ∙ folds.para-roll-Field F F F F F F F F F (sizes.kind_sizes b) (sizes.field_kind_sizes b)
      (sizes.stat_kind_sizes b) (sizes.arm_sizes b) (sizes.expr_sizes b) (sizes.expr_arm_sizes b) (sizes.field_sizes b) (sizes.func_sizes b)
      (sizes.stat_sizes b) (out-Field t)

  field_kind_is : (t : FieldKind) → size_levels.sizes_field_kind b t ≡ field_kind_sizes (out-FieldKind t)
  field_kind_is t =
      let same : roll-FieldKind (out-FieldKind t) ≡ t = search (rules, folds.the_lemmas, views.the_lemmas) in
      ap (size_levels.sizes_field_kind b) (sym same) ∙ folds.para-roll-FieldKind F F F F F F F F F (sizes.kind_sizes b) (sizes.field_kind_sizes b)
      (sizes.stat_kind_sizes b) (sizes.arm_sizes b) (sizes.expr_sizes b) (sizes.expr_arm_sizes b) (sizes.field_sizes b) (sizes.func_sizes b)
      (sizes.stat_sizes b) (out-FieldKind t)

  -- ---- what is shown of a part: at some place it breaks no rule, and no function in it is too large

  abbrev Both : F → F → Type 0
  Both broken large = (broken ≡ []) × (large ≡ [])

  abbrev pub IsClear : Part → Type 0
  IsClear (expr e) = (p : Place) × Both (rules_expr e p) (sizes_in_expr b e)
  IsClear (stat s) = (p : Place) × Both ((rules_stat s).faults p) (sizes_in_stat b s)
  IsClear (function f) = Both (rules_func f) (all_sizes b f)
  IsClear (arm a) = (p : Place) × Both (rules_arm a p) (sizes_in_arm b a)
  IsClear (expr_arm a) = (p : Place) × Both (rules_expr_arm a p) (sizes_in_expr_arm b a)
  IsClear (field f) = (p : Place) × Both (rules_field f p) (sizes_in_field b f)
  IsClear (block names body) = (p : Place) × Both (scopes.block (map rules_stat body) p) (sizes_in_block b body)

  abbrev AreClear : List Part → Type 0
  AreClear [] = Unit {0}
  AreClear (p ∷ ps) = IsClear p × AreClear ps

  -- ---- lists

  exprs_clear : (p : Place) (es : List Expr) (ps : List Part) → scopes.all (map rules_expr es) p ≡ [] → in_all (map (λ e. (e, sizes_in_expr b e)) es) ≡ []
      → AreClear ps → AreClear (map expr es ++ ps)
  exprs_clear p [] ps r s rest = rest
  exprs_clear p (e ∷ es) ps r s rest =
      ((p, (left _ _ r, left _ _ s)), exprs_clear p es ps (right (rules_expr e p) _ r) (right (sizes_in_expr b e) _ s) rest)

  only_exprs : (p : Place) (es : List Expr) → scopes.all (map rules_expr es) p ≡ [] → in_all (map (λ e. (e, sizes_in_expr b e)) es) ≡ []
      → AreClear (map expr es)
  only_exprs p es r s = subst AreClear (append-nil (map expr es)) (exprs_clear p es [] r s tt)

  stats_clear : (p : Place) (ss : List Stat) (ps : List Part) → scopes.block (map rules_stat ss) p ≡ [] → sizes_in_block b ss ≡ [] → AreClear ps
      → AreClear (map stat ss ++ ps)
  stats_clear p [] ps r s rest = rest
  stats_clear p (x ∷ ss) ps r s rest = (
    (p, (left _ _ r, left _ _ s)),
    stats_clear (later (rules_stat x).declares p) ss ps (right ((rules_stat x).faults p) _ r) (right (sizes_in_stat b x) _ s) rest,
  )

  only_stats : (p : Place) (ss : List Stat) → scopes.block (map rules_stat ss) p ≡ [] → sizes_in_block b ss ≡ [] → AreClear (map stat ss)
  only_stats p ss r s = subst AreClear (append-nil (map stat ss)) (stats_clear p ss [] r s tt)

  arms_clear : (p : Place) (arms : List Arm) (ps : List Part) → scopes.all (map rules_arm arms) p ≡ [] → in_all (map (λ a. (a, sizes_in_arm b a)) arms) ≡ []
      → AreClear ps → AreClear (map arm arms ++ ps)
  arms_clear p [] ps r s rest = rest
  arms_clear p (a ∷ arms) ps r s rest =
      ((p, (left _ _ r, left _ _ s)), arms_clear p arms ps (right (rules_arm a p) _ r) (right (sizes_in_arm b a) _ s) rest)

  choices_clear : (p : Place) (arms : List ExprArm) (ps : List Part) → scopes.all (map rules_expr_arm arms) p ≡ []
      → in_all (map (λ a. (a, sizes_in_expr_arm b a)) arms) ≡ [] → AreClear ps → AreClear (map expr_arm arms ++ ps)
  choices_clear p [] ps r s rest = rest
  choices_clear p (a ∷ arms) ps r s rest =
      ((p, (left _ _ r, left _ _ s)), choices_clear p arms ps (right (rules_expr_arm a p) _ r) (right (sizes_in_expr_arm b a) _ s) rest)

  fields_clear : (p : Place) (fs : List Field) → scopes.all (map rules_field fs) p ≡ [] → in_all (map (λ f. (f, sizes_in_field b f)) fs) ≡ []
      → AreClear (map field fs)
  fields_clear p [] r s = tt
  fields_clear p (f ∷ fs) r s =
      ((p, (left _ _ r, left _ _ s)), fields_clear p fs (right (rules_field f p) _ r) (right (sizes_in_field b f) _ s))

  -- ---- the parts of a part

  expr_clear : (l : ExprLevel) (at : ℕ) (p : Place) → levels.at_expr_level scopes.steps l at p ≡ [] → size_levels.kind_level b l ≡ []
      → AreClear (expr_parts l)
  expr_clear level.Nil at p r s = tt
  expr_clear level.True at p r s = tt
  expr_clear level.False at p r s = tt
  expr_clear (level.Num n) at p r s = tt
  expr_clear (level.Str x) at p r s = tt
  expr_clear level.Vararg at p r s = tt
  expr_clear (level.Name x) at p r s = tt
  expr_clear (level.Paren e) at p r s = ((p, (r, s)), tt)
  expr_clear (level.Unary o e) at p r s = ((p, (r, s)), tt)
  expr_clear (level.Binary o x y) at p r s =
      ((p, (left _ _ r, left _ _ s)), ((p, (right (rules_expr x p) _ r, right (sizes_in_expr b x) _ s)), tt))
  expr_clear (level.Concat es) at p r s = only_exprs p es r s
  expr_clear (level.Index x y) at p r s =
      ((p, (left _ _ r, left _ _ s)), ((p, (right (rules_expr x p) _ r, right (sizes_in_expr b x) _ s)), tt))
  expr_clear (level.Member e x) at p r s = ((p, (r, s)), tt)
  expr_clear (level.ExprKind::Call f es) at p r s =
      ((p, (left _ _ r, left _ _ s)), only_exprs p es (right (rules_expr f p) _ r) (right (sizes_in_expr b f) _ s))
  expr_clear (level.Method o x es) at p r s =
      ((p, (left _ _ r, left _ _ s)), only_exprs p es (right (rules_expr o p) _ r) (right (sizes_in_expr b o) _ s))
  expr_clear (level.Table fs) at p r s = fields_clear p fs r s
  expr_clear (level.Function f) at p r s = ((r, s), tt)
  expr_clear (level.ExprKind::If arms other) at p r s =
      choices_clear p arms (expr other ∷ []) (left _ _ r) (left _ _ s)
      ((p, (right (scopes.all (map rules_expr_arm arms) p) _ r, right (in_all (map (λ a. (a, sizes_in_expr_arm b a)) arms)) _ s)), tt)
  expr_clear (level.Interp xs es) at p r s = only_exprs p es r s

  field_clear : (l : FieldLevel) (p : Place) → levels.at_field_level scopes.steps l p ≡ [] → field_kind_sizes l ≡ [] → AreClear (field_parts l)
  field_clear (level.Item e) p r s = ((p, (r, s)), tt)
  field_clear (level.Named x e) p r s = ((p, (r, s)), tt)
  field_clear (level.Keyed x y) p r s =
      ((p, (left _ _ r, left _ _ s)), ((p, (right (rules_expr x p) _ r, right (sizes_in_expr b x) _ s)), tt))

  stat_clear : (l : StatLevel) (at : ℕ) (z : Sight) (p : Place) → (levels.at_stat_level scopes.steps l at).faults p ≡ []
      → size_levels.stat_kind_level b l ≡ [] → AreClear (in_stat l z).parts
  stat_clear (level.Local xs es) at z p r s = only_exprs p es (left _ _ r) s
  stat_clear (level.Assign ts es) at z p r s =
      exprs_clear p ts (map expr es) (left _ _ r) (left _ _ s)
      (only_exprs p es (right (scopes.all (map rules_expr ts) p) _ r) (right (in_all (map (λ e. (e, sizes_in_expr b e)) ts)) _ s))
  stat_clear (level.Compound o x y) at z p r s =
      ((p, (left _ _ r, left _ _ s)), ((p, (right (rules_expr x p) _ r, right (sizes_in_expr b x) _ s)), tt))
  stat_clear (level.StatKind::Call e) at z p r s = ((p, (r, s)), tt)
  stat_clear (level.Do body) at z p r s = ((p, (r, s)), tt)
  stat_clear (level.While e body) at z p r s =
      ((p, (left _ _ r, left _ _ s)), ((scopes.in_loop_of 0 p, (right (rules_expr e p) _ r, right (sizes_in_expr b e) _ s)), tt))
  stat_clear (level.Repeat body e) at z p r s =
      stats_clear (scopes.in_loop_of 0 p) body (expr e ∷ []) (left _ _ r) (left _ _ s)
      ((p, (right (scopes.block (map rules_stat body) (scopes.in_loop_of 0 p)) _ r, right (sizes_in_block b body) _ s)), tt)
  stat_clear (level.StatKind::If arms None) at z p r s = arms_clear p arms [] (left _ _ r) (left _ _ s) tt
  stat_clear (level.StatKind::If arms (Some body)) at z p r s =
      arms_clear p arms (block [] body ∷ []) (left _ _ r) (left _ _ s)
      ((p, (right (scopes.all (map rules_arm arms) p) _ r, right (in_all (map (λ a. (a, sizes_in_arm b a)) arms)) _ s)), tt)
  stat_clear (level.NumFor x e f None body) at z p r s =
      let three = left ((rules_expr e p ++ rules_expr f p) ++ []) _ r in
      let two = left (rules_expr e p ++ rules_expr f p) _ three in
      let last = right ((rules_expr e p ++ rules_expr f p) ++ []) _ r in
      let s1 = right (sizes_in_expr b e) _ s in
      let s2 = right (sizes_in_expr b f) _ s1 in (
        (p, (left _ _ two, left _ _ s)),
        (
          (p, (right (rules_expr e p) _ two, left _ _ s1)),
          ((scopes.in_loop_of 1 p, (right (scopes.too_many at p.live 1) _ last, s2)), tt),
        ),
      )
  stat_clear (level.NumFor x e f (Some g) body) at z p r s =
      let three = left ((rules_expr e p ++ rules_expr f p) ++ rules_expr g p) _ r in
      let two = left (rules_expr e p ++ rules_expr f p) _ three in
      let last = right ((rules_expr e p ++ rules_expr f p) ++ rules_expr g p) _ r in
      let s1 = right (sizes_in_expr b e) _ s in
      let s2 = right (sizes_in_expr b f) _ s1 in (
        (p, (left _ _ two, left _ _ s)),
        (
          (p, (right (rules_expr e p) _ two, left _ _ s1)),
          (
            (p, (right (rules_expr e p ++ rules_expr f p) _ three, left _ _ s2)),
            ((scopes.in_loop_of 1 p, (right (scopes.too_many at p.live 1) _ last, right (sizes_in_expr b g) _ s2)), tt),
          ),
        ),
      )
  stat_clear (level.GenFor xs es body) at z p r s =
      let last = right (scopes.all (map rules_expr es) p) _ r in
      exprs_clear p es (block (visible z.declared xs) body ∷ []) (left _ _ r) (left _ _ s) (
        (
          scopes.in_loop_of (length xs) p,
          (right (scopes.too_many at p.live (length xs)) _ last, right (in_all (map (λ e. (e, sizes_in_expr b e)) es)) _ s),
        ),
        tt,
      )
  stat_clear (level.LocalFunction x f) at z p r s = ((right (scopes.too_many at p.live 1) _ r, s), tt)
  stat_clear (level.Return es) at z p r s = only_exprs p es r s
  stat_clear level.Break at z p r s = tt
  stat_clear level.Continue at z p r s = tt

  -- the statements of a function
  pub func_rules : (f : FuncBody) → rules_func f ≡ [] → scopes.block (map rules_stat (out-FuncBody f).body) (place_in f) ≡ []
  func_rules f r =
      right (scopes.too_many (out-FuncBody f).at 0 (length (out-FuncBody f).params)) _ (sym (levels.func_is scopes.steps f) ∙ r)

  part_clear : (q : Part) (z : Sight) → IsClear q → AreClear (in_part q z).parts
  part_clear (expr e) z h =
      let o = out-ExprKind e.kind in
      let rule : rules_expr e ≡ levels.at_expr_level scopes.steps o e.at =
      levels.expr_is scopes.steps e ∙ ap (λ (f : ℕ → scopes.Part). f e.at) (levels.kind_is scopes.steps e.kind) in
      expr_clear o e.at h.0 (ap (λ (f : scopes.Part). f h.0) (sym rule) ∙ h.1.0)
      (sym (size_levels.kind_is b e.kind) ∙ sym (size_levels.expr_is b e) ∙ h.1.1)
  part_clear (stat x) z h =
      let o = out-StatKind x.kind in
      let rule : rules_stat x ≡ levels.at_stat_level scopes.steps o x.at =
      levels.stat_is scopes.steps x ∙ ap (λ (f : ℕ → StatRules). f x.at) (levels.stat_kind_is scopes.steps x.kind) in
      stat_clear o x.at z h.0 (ap (λ (r : StatRules). r.faults h.0) (sym rule) ∙ h.1.0)
      (sym (size_levels.stat_kind_is b x.kind) ∙ sym (size_levels.stat_is b x) ∙ h.1.1)
  part_clear (function f) z h =
      only_stats (place_in f) (out-FuncBody f).body (func_rules f h.0) (sym (size_levels.func_is b f) ∙ right (size_faults b f) _ h.1)
  part_clear (arm a) z h =
      let body = (out-Arm a).body in
      let c = (out-Arm a).cond in
      let r : rules_expr c h.0 ++ scopes.block (map rules_stat body) h.0 ≡ [] =
      ap (λ (f : scopes.Part). f h.0) (sym (levels.arm_is scopes.steps a)) ∙ h.1.0 in
      let s : sizes_in_expr b c ++ sizes_in_block b body ≡ [] = sym (size_levels.arm_is b a) ∙ h.1.1 in
      ((h.0, (left _ _ r, left _ _ s)), ((h.0, (right (rules_expr c h.0) _ r, right (sizes_in_expr b c) _ s)), tt))
  part_clear (expr_arm a) z h =
      let r : rules_expr a.cond h.0 ++ rules_expr a.value h.0 ≡ [] =
      ap (λ (f : scopes.Part). f h.0) (sym (levels.expr_arm_is scopes.steps a)) ∙ h.1.0 in
      let s : sizes_in_expr b a.cond ++ sizes_in_expr b a.value ≡ [] = sym (size_levels.expr_arm_is b a) ∙ h.1.1 in
      ((h.0, (left _ _ r, left _ _ s)), ((h.0, (right (rules_expr a.cond h.0) _ r, right (sizes_in_expr b a.cond) _ s)), tt))
  part_clear (field f) z h =
      let rule : rules_field f ≡ levels.at_field_level scopes.steps (out-FieldKind f.kind) =
      levels.field_is scopes.steps f ∙ levels.field_kind_is scopes.steps f.kind in
      field_clear (out-FieldKind f.kind) h.0 (ap (λ (g : scopes.Part). g h.0) (sym rule) ∙ h.1.0)
      (sym (field_kind_is f.kind) ∙ sym (field_is f) ∙ h.1.1)
  part_clear (block names body) z h = only_stats h.0 body h.1.0 h.1.1

  within_clear : (main : FuncBody) → IsClear (function main) → (z : Sight) (ps : List Part) → Sees main z ps → AreClear ps
  within_clear main c _ _ itself = (c, tt)
  within_clear main c _ _ (next z q ps i) = (within_clear main c z (q ∷ ps) i).1
  within_clear main c _ _ (enter z q ps i) = part_clear q z (within_clear main c z (q ∷ ps) i).0

  -- each function further inside
  pub inner_clear : (main : FuncBody) → IsClear (function main) → (f : FuncBody) (z : Sight) (after : List Part) → Sees main z (function f ∷ after)
      → IsClear (function f)
  inner_clear main c f z after sees = (within_clear main c z (function f ∷ after) sees).0

  -- none needs too many registers
  pub few_registers : (f : FuncBody) → all_sizes b f ≡ [] → need f ≤ 250
  few_registers f s = few most_registers (need f) _ _ (left _ _ (left (size_faults b f) (sizes_in_func b f) s))
