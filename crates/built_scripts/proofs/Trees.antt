-- Each node that is proper, and in which nothing is unbuilt, is built: by induction over the tree.
use Rattle.std.proofs.Common.{◌≡◌, ℕ, Bool, true, false, ◌&&◌, List, [], ◌∷◌, map, Option, Some, None, option_map, rules, refl, sym, ap, ◌∙◌, subst}
use Rattle.std.specs.Prelude.{codes}
use Rattle.syntax_tree.specs.declared.bindings.Bindings.{Bindings}
use Rattle.syntax_tree.specs.declared.tree.Arm.{Arm, out-Arm, roll-Arm}
use Rattle.syntax_tree.specs.declared.tree.Expr.{Expr}
use Rattle.syntax_tree.specs.declared.tree.ExprArm.{ExprArm}
use Rattle.syntax_tree.specs.declared.tree.ExprKind.{ExprKind}
use Rattle.syntax_tree.specs.declared.tree.ExprKind.TheFolds as folds
use Rattle.syntax_tree.specs.declared.tree.ExprKind.TheOpen as level
use Rattle.syntax_tree.specs.declared.tree.ExprKind.TheViews as views
use Rattle.syntax_tree.specs.declared.tree.FuncBody.{FuncBody, out-FuncBody, roll-FuncBody}
use Rattle.syntax_tree.specs.declared.tree.Stat.{Stat}
use Rattle.syntax_tree.specs.declared.tree.StatKind.{StatKind}
use Rattle.syntax_tree.specs.Proper as proper
use Rattle.syntax_tree.specs.Proper.{Form, form_expr, proper_stat, proper_func, proper_arm, proper_expr_arm, all, all_proper, all_targets, has_one, has_two, maybe_all, maybe_proper}
use Rattle.emit_laws.specs.Induction as induction
use Rattle.emit_laws.specs.Induction.{With}
use Rattle.scope_laws.specs.Sight.{ExprLevel, StatLevel}
use Rattle.scope_laws.proofs.Levels as levels
use Rattle.unbuilt_nodes.specs.Unbuilt as unbuilt
use Rattle.unbuilt_nodes.specs.Unbuilt.{Found, ExprUses, or_else, values, targets, block, otherwise, step_value, uses_of, unbuilt_in_stat, unbuilt_in_arm, unbuilt_in_expr_arm, unbuilt_in_func}
use Rattle.compiled_runs.specs.Built as built
use Rattle.compiled_runs.specs.Built.{built_expr, built_expr_arm, built_stat, built_func}
use Rattle.built_scripts.specs.Laws.{BuiltScripts}

-- ---- both of two

false_true : {A : Type 0} → false ≡ true → A
false_true e = cc

some_none : {A : Type 0} {at : ℕ} → Some at ≡ None → A
some_none e = cc

both_true : (s t : Bool) → (s && t) ≡ true → (s ≡ true) × (t ≡ true)
both_true true t e = (refl, e)
both_true false t e = false_true e

and_true : (s t : Bool) → s ≡ true → t ≡ true → (s && t) ≡ true
and_true s t e f = ap (λ z. z && t) e ∙ f

both_none : (s t : Found) → or_else s t ≡ None → (s ≡ None) × (t ≡ None)
both_none None t e = (refl, e)
both_none (Some at) t e = some_none e

two_one : {A : Type 0} → (l : List A) → has_two l ≡ true → has_one l ≡ true
two_one [] e = e
two_one (a ∷ l) e = refl

abbrev fst_of : {A : Type 0} {P : A → Type 0} → List (With P) → List A
fst_of l = map (λ z. z.0) l

module _ (texts : List (List ℕ)) (b : Bindings) where
  -- ---- what is shown of each node

  -- where an expression is proper, it is built where its value is, and where it may be assigned to
  abbrev Both : Form → ExprUses → Bool → Type 0
  Both f u t = f.proper ≡ true → (u.value ≡ None → t ≡ true) × (u.target ≡ None → t ≡ true)

  abbrev kind_ok : ExprKind → Type 0
  kind_ok k =
      (n at : ℕ) → Both (levels.at_kind proper.steps k) (levels.at_kind (unbuilt.steps texts b) k n at) (levels.at_kind built.steps k)

  abbrev stat_kind_ok : StatKind → Type 0
  stat_kind_ok k =
      (at : ℕ) → levels.at_stat_kind proper.steps k ≡ true → levels.at_stat_kind (unbuilt.steps texts b) k at ≡ None → levels.at_stat_kind built.steps k ≡ true

  abbrev arm_ok : Arm → Type 0
  arm_ok a = proper_arm a ≡ true → unbuilt_in_arm texts b a ≡ None → built.built_arm a ≡ true

  abbrev expr_ok : Expr → Type 0
  expr_ok e = Both (form_expr e) (uses_of texts b e) (built_expr e)

  abbrev choice_ok : ExprArm → Type 0
  choice_ok a = proper_expr_arm a ≡ true → unbuilt_in_expr_arm texts b a ≡ None → built_expr_arm a ≡ true

  abbrev func_ok : FuncBody → Type 0
  func_ok f = proper_func f ≡ true → unbuilt_in_func texts b f ≡ None → built_func f ≡ true

  abbrev stat_ok : Stat → Type 0
  stat_ok s = proper_stat s ≡ true → unbuilt_in_stat texts b s ≡ None → built_stat s ≡ true

  abbrev KindWith : Type 0
  KindWith = induction.kind_with kind_ok (λ _. Unit {0}) stat_kind_ok arm_ok expr_ok choice_ok (λ _. Unit {0}) func_ok stat_ok

  abbrev kind_parts : KindWith → ExprLevel
  kind_parts y = induction.kind_parts kind_ok (λ _. Unit {0}) stat_kind_ok arm_ok expr_ok choice_ok (λ _. Unit {0}) func_ok stat_ok y

  abbrev StatKindWith : Type 0
  StatKindWith = induction.stat_kind_with kind_ok (λ _. Unit {0}) stat_kind_ok arm_ok expr_ok choice_ok (λ _. Unit {0}) func_ok stat_ok

  abbrev stat_kind_parts : StatKindWith → StatLevel
  stat_kind_parts y = induction.stat_kind_parts kind_ok (λ _. Unit {0}) stat_kind_ok arm_ok expr_ok choice_ok (λ _. Unit {0}) func_ok stat_ok y

  -- ---- lists

  all_built : (es : List (With expr_ok)) → all_proper (map form_expr (fst_of es)) ≡ true → values (map (uses_of texts b) (fst_of es)) ≡ None
      → all (map built_expr (fst_of es)) ≡ true
  all_built [] p u = refl
  all_built (e ∷ es) p u =
      let ps = both_true (form_expr e.0).proper (all_proper (map form_expr (fst_of es))) p in
      let us = both_none (uses_of texts b e.0).value (values (map (uses_of texts b) (fst_of es))) u in
      and_true (built_expr e.0) (all (map built_expr (fst_of es))) ((e.1 ps.0).0 us.0) (all_built es ps.1 us.1)

  targets_built : (es : List (With expr_ok)) → all_proper (map form_expr (fst_of es)) ≡ true → targets (map (uses_of texts b) (fst_of es)) ≡ None
      → all (map built_expr (fst_of es)) ≡ true
  targets_built [] p u = refl
  targets_built (e ∷ es) p u =
      let ps = both_true (form_expr e.0).proper (all_proper (map form_expr (fst_of es))) p in
      let us = both_none (uses_of texts b e.0).target (targets (map (uses_of texts b) (fst_of es))) u in
      and_true (built_expr e.0) (all (map built_expr (fst_of es))) ((e.1 ps.0).1 us.0) (targets_built es ps.1 us.1)

  block_built : (ss : List (With stat_ok)) → all (map proper_stat (fst_of ss)) ≡ true → block (map (unbuilt_in_stat texts b) (fst_of ss)) ≡ None
      → all (map built_stat (fst_of ss)) ≡ true
  block_built [] p u = refl
  block_built (s ∷ ss) p u =
      let ps = both_true (proper_stat s.0) (all (map proper_stat (fst_of ss))) p in
      let us = both_none (unbuilt_in_stat texts b s.0) (block (map (unbuilt_in_stat texts b) (fst_of ss))) u in
      and_true (built_stat s.0) (all (map built_stat (fst_of ss))) (s.1 ps.0 us.0) (block_built ss ps.1 us.1)

  arms_built : (arms : List (With arm_ok)) → all (map proper_arm (fst_of arms)) ≡ true → block (map (unbuilt_in_arm texts b) (fst_of arms)) ≡ None
      → all (map built.built_arm (fst_of arms)) ≡ true
  arms_built [] p u = refl
  arms_built (a ∷ arms) p u =
      let ps = both_true (proper_arm a.0) (all (map proper_arm (fst_of arms))) p in
      let us = both_none (unbuilt_in_arm texts b a.0) (block (map (unbuilt_in_arm texts b) (fst_of arms))) u in
      and_true (built.built_arm a.0) (all (map built.built_arm (fst_of arms))) (a.1 ps.0 us.0) (arms_built arms ps.1 us.1)

  choices_built : (arms : List (With choice_ok)) → all (map proper_expr_arm (fst_of arms)) ≡ true
      → block (map (unbuilt_in_expr_arm texts b) (fst_of arms)) ≡ None → all (map built_expr_arm (fst_of arms)) ≡ true
  choices_built [] p u = refl
  choices_built (a ∷ arms) p u =
      let ps = both_true (proper_expr_arm a.0) (all (map proper_expr_arm (fst_of arms))) p in
      let us = both_none (unbuilt_in_expr_arm texts b a.0) (block (map (unbuilt_in_expr_arm texts b) (fst_of arms))) u in
      and_true (built_expr_arm a.0) (all (map built_expr_arm (fst_of arms))) (a.1 ps.0 us.0) (choices_built arms ps.1 us.1)

  maybe_built : (o : Option (List (With stat_ok))) → maybe_all (option_map (λ ss. map proper_stat (fst_of ss)) o) ≡ true
      → otherwise (option_map (λ ss. map (unbuilt_in_stat texts b) (fst_of ss)) o) ≡ None
      → maybe_all (option_map (λ ss. map built_stat (fst_of ss)) o) ≡ true
  maybe_built None p u = refl
  maybe_built (Some ss) p u = block_built ss p u

  step_built : (o : Option (With expr_ok)) → maybe_proper (option_map (λ e. form_expr e.0) o) ≡ true
      → step_value (option_map (λ e. uses_of texts b e.0) o) ≡ None → built.step (option_map (λ e. built_expr e.0) o) ≡ true
  step_built None p u = refl
  step_built (Some e) p u = (e.1 p).0 u

  -- ---- expressions

  abbrev LevelOk : KindWith → (n at : ℕ) → Type 0
  LevelOk y n at =
      Both (levels.at_expr_level proper.steps (kind_parts y)) (levels.at_expr_level (unbuilt.steps texts b) (kind_parts y) n at)
      (levels.at_expr_level built.steps (kind_parts y))

  by_kind : (y : KindWith) (n at : ℕ) → LevelOk y n at
  by_kind level.Nil n at p = (λ u. refl, λ u. refl)
  by_kind level.True n at p = (λ u. refl, λ u. refl)
  by_kind level.False n at p = (λ u. refl, λ u. refl)
  by_kind (level.Num z) n at p = (λ u. refl, λ u. refl)
  by_kind (level.Str x) n at p = (λ u. refl, λ u. refl)
  by_kind level.Vararg n at p = (λ u. refl, λ u. refl)
  by_kind (level.Name x) n at p = (λ u. refl, λ u. refl)
  by_kind (level.Paren e) n at p = (λ u. (e.1 p).0 u, λ u. some_none u)
  by_kind (level.Unary op e) n at p = (λ u. (e.1 p).0 u, λ u. some_none u)
  by_kind (level.Binary op l r) n at p = (
    λ u.
        let p1 = both_true (proper.stands_between op && (form_expr l.0).proper) (form_expr r.0).proper p in
        let p2 = both_true (proper.stands_between op) (form_expr l.0).proper p1.0 in
        let us = both_none (uses_of texts b l.0).value (uses_of texts b r.0).value u in
        and_true (proper.stands_between op) _ p2.0 (and_true (built_expr l.0) (built_expr r.0) ((l.1 p2.1).0 us.0) ((r.1 p1.1).0 us.1)),
    λ u. some_none u,
  )
  by_kind (level.Concat es) n at p = (
    λ u.
        let ps = both_true (has_two (fst_of es)) (all_proper (map form_expr (fst_of es))) (kept es p) in
        and_true (has_one (map built_expr (fst_of es))) _ (one_of es ps.0) (all_built es ps.1 u),
    λ u. some_none u,
  )
    where
      kept : (es : List (With expr_ok)) → (has_two (map form_expr (fst_of es)) && all_proper (map form_expr (fst_of es))) ≡ true
          → (has_two (fst_of es) && all_proper (map form_expr (fst_of es))) ≡ true
      kept [] e = e
      kept (x ∷ []) e = e
      kept (x ∷ y ∷ l) e = e

      one_of : (es : List (With expr_ok)) → has_two (fst_of es) ≡ true → has_one (map built_expr (fst_of es)) ≡ true
      one_of [] e = e
      one_of (x ∷ l) e = refl
  by_kind (level.ExprKind::Call f args) n at p = (
    λ u.
        let ps = both_true (form_expr f.0).proper (all_proper (map form_expr (fst_of args))) p in
        let us = both_none (uses_of texts b f.0).value (values (map (uses_of texts b) (fst_of args))) u in
        and_true (built_expr f.0) _ ((f.1 ps.0).0 us.0) (all_built args ps.1 us.1),
    λ u. some_none u,
  )
  by_kind (level.Function f) n at p = (λ u. f.1 p u, λ u. some_none u)
  by_kind (level.ExprKind::If arms other) n at p = (
    λ u.
        let p1 = both_true (has_one (map proper_expr_arm (fst_of arms)) && all (map proper_expr_arm (fst_of arms))) (form_expr other.0).proper p in
        let p2 = both_true (has_one (map proper_expr_arm (fst_of arms))) (all (map proper_expr_arm (fst_of arms))) p1.0 in
        let us = both_none (block (map (unbuilt_in_expr_arm texts b) (fst_of arms))) (uses_of texts b other.0).value u in
        and_true (all (map built_expr_arm (fst_of arms))) (built_expr other.0) (choices_built arms p2.1 us.0) ((other.1 p1.1).0 us.1),
    λ u. some_none u,
  )
  by_kind (level.Index x y) n at p = (λ u. some_none u, λ u. some_none u)
  by_kind (level.Member x m) n at p = (λ u. some_none u, λ u. some_none u)
  by_kind (level.Method x m args) n at p = (λ u. some_none u, λ u. some_none u)
  by_kind (level.Table fs) n at p = (λ u. some_none u, λ u. some_none u)
  by_kind (level.Interp xs es) n at p = (λ u. some_none u, λ u. some_none u)

  -- ---- statements

  abbrev StatLevelOk : StatKindWith → (at : ℕ) → Type 0
  StatLevelOk y at =
      levels.at_stat_level proper.steps (stat_kind_parts y) ≡ true → levels.at_stat_level (unbuilt.steps texts b) (stat_kind_parts y) at ≡ None
      → levels.at_stat_level built.steps (stat_kind_parts y) ≡ true

  by_stat_kind : (y : StatKindWith) (at : ℕ) → StatLevelOk y at
  by_stat_kind (level.Local xs es) at p u = all_built es (both_true (has_one xs) _ p).1 u
  by_stat_kind (level.Assign ts es) at p u =
      let p1 = both_true _ (all_proper (map form_expr (fst_of es))) p in
      let p2 = both_true _ (has_one (map form_expr (fst_of es))) p1.0 in
      let p3 = both_true _ (all_proper (map form_expr (fst_of ts))) p2.0 in
      let us = both_none (targets (map (uses_of texts b) (fst_of ts))) (values (map (uses_of texts b) (fst_of es))) u in
      and_true (all (map built_expr (fst_of ts))) _ (targets_built ts p3.1 us.0) (all_built es p1.1 us.1)
  by_stat_kind (level.Compound op t e) at p u =
      let p1 = both_true _ (form_expr e.0).proper p in
      let p2 = both_true _ (form_expr t.0).proper p1.0 in
      let us = both_none (uses_of texts b t.0).target (uses_of texts b e.0).value u in
      and_true (built_expr t.0) (built_expr e.0) ((t.1 p2.1).1 us.0) ((e.1 p1.1).0 us.1)
  by_stat_kind (level.StatKind::Call e) at p u = (e.1 (both_true (form_expr e.0).calls (form_expr e.0).proper p).1).0 u
  by_stat_kind (level.Do body) at p u = block_built body p u
  by_stat_kind (level.While c body) at p u =
      let ps = both_true (form_expr c.0).proper _ p in
      let us = both_none (uses_of texts b c.0).value _ u in
      and_true (built_expr c.0) _ ((c.1 ps.0).0 us.0) (block_built body ps.1 us.1)
  by_stat_kind (level.Repeat body c) at p u =
      let ps = both_true (all (map proper_stat (fst_of body))) _ p in
      let us = both_none (block (map (unbuilt_in_stat texts b) (fst_of body))) _ u in
      and_true (all (map built_stat (fst_of body))) _ (block_built body ps.0 us.0) ((c.1 ps.1).0 us.1)
  by_stat_kind (level.StatKind::If arms other) at p u = by other p u
    where
      by : (o : Option (List (With stat_ok))) → levels.at_stat_level proper.steps (stat_kind_parts (level.StatKind::If arms o)) ≡ true
          → levels.at_stat_level (unbuilt.steps texts b) (stat_kind_parts (level.StatKind::If arms o)) at ≡ None
          → levels.at_stat_level built.steps (stat_kind_parts (level.StatKind::If arms o)) ≡ true
      by None p u =
          let p1 = both_true (has_one (map proper_arm (fst_of arms)) && all (map proper_arm (fst_of arms))) _ p in
          let p2 = both_true (has_one (map proper_arm (fst_of arms))) (all (map proper_arm (fst_of arms))) p1.0 in
          let us = both_none (block (map (unbuilt_in_arm texts b) (fst_of arms))) _ u in
          and_true (all (map built.built_arm (fst_of arms))) _ (arms_built arms p2.1 us.0) refl
      by (Some body) p u =
          let p1 = both_true (has_one (map proper_arm (fst_of arms)) && all (map proper_arm (fst_of arms))) _ p in
          let p2 = both_true (has_one (map proper_arm (fst_of arms))) (all (map proper_arm (fst_of arms))) p1.0 in
          let us = both_none (block (map (unbuilt_in_arm texts b) (fst_of arms))) _ u in
          and_true (all (map built.built_arm (fst_of arms))) _ (arms_built arms p2.1 us.0) (block_built body p1.1 us.1)
  by_stat_kind (level.NumFor x from limit each body) at p u = by each p u
    where
      by : (o : Option (With expr_ok)) → levels.at_stat_level proper.steps (stat_kind_parts (level.NumFor x from limit o body)) ≡ true
          → levels.at_stat_level (unbuilt.steps texts b) (stat_kind_parts (level.NumFor x from limit o body)) at ≡ None
          → levels.at_stat_level built.steps (stat_kind_parts (level.NumFor x from limit o body)) ≡ true
      by None p u =
          let p1 = both_true _ (all (map proper_stat (fst_of body))) p in
          let p2 = both_true _ true p1.0 in
          let p3 = both_true (form_expr from.0).proper (form_expr limit.0).proper p2.0 in
          let u1 = both_none (uses_of texts b from.0).value _ u in
          let u2 = both_none (uses_of texts b limit.0).value _ u1.1 in
          and_true (built_expr from.0) _ ((from.1 p3.0).0 u1.0)
          (and_true (built_expr limit.0) _ ((limit.1 p3.1).0 u2.0) (block_built body p1.1 u2.1))
      by (Some e) p u =
          let p1 = both_true _ (all (map proper_stat (fst_of body))) p in
          let p2 = both_true _ (form_expr e.0).proper p1.0 in
          let p3 = both_true (form_expr from.0).proper (form_expr limit.0).proper p2.0 in
          let u1 = both_none (uses_of texts b from.0).value _ u in
          let u2 = both_none (uses_of texts b limit.0).value _ u1.1 in
          let u3 = both_none (uses_of texts b e.0).value _ u2.1 in
          and_true (built_expr from.0) _ ((from.1 p3.0).0 u1.0)
          (and_true (built_expr limit.0) _ ((limit.1 p3.1).0 u2.0)
          (and_true (built_expr e.0) _ ((e.1 p2.1).0 u3.0) (block_built body p1.1 u3.1)))
  by_stat_kind (level.GenFor xs es body) at p u = some_none u
  by_stat_kind (level.LocalFunction x f) at p u = f.1 p u
  by_stat_kind (level.Return es) at p u = all_built es p u
  by_stat_kind level.Break at p u = refl
  by_stat_kind level.Continue at p u = refl

  -- ---- the induction

  proper_of : {f g : Form} → f ≡ g → g.proper ≡ true → f.proper ≡ true
  proper_of e p = ap (λ (f : Form). f.proper) e ∙ p

  abbrev ArmWith : Type 0
  ArmWith = induction.arm_with kind_ok (λ _. Unit {0}) stat_kind_ok arm_ok expr_ok choice_ok (λ _. Unit {0}) func_ok stat_ok

  abbrev FuncWith : Type 0
  FuncWith = induction.func_with kind_ok (λ _. Unit {0}) stat_kind_ok arm_ok expr_ok choice_ok (λ _. Unit {0}) func_ok stat_ok

  arm_step : (y : ArmWith) → arm_ok (induction.arm_of kind_ok (λ _. Unit {0}) stat_kind_ok arm_ok expr_ok choice_ok (λ _. Unit {0}) func_ok stat_ok y)
  arm_step y =
      let parts_of = induction.arm_parts kind_ok (λ _. Unit {0}) stat_kind_ok arm_ok expr_ok choice_ok (λ _. Unit {0}) func_ok stat_ok y in
      let a : Arm = roll-Arm parts_of in
      let same : out-Arm (roll-Arm parts_of) ≡ parts_of = search (rules, folds.the_lemmas, views.the_lemmas) in
      λ p u.
      let ps = both_true (form_expr y.cond.0).proper (all (map proper_stat (fst_of y.body)))
      (ap (λ z. (form_expr z.cond).proper && all (map proper_stat z.body)) (sym same) ∙ sym (levels.arm_is proper.steps a) ∙ p) in
      let us = both_none (uses_of texts b y.cond.0).value (block (map (unbuilt_in_stat texts b) (fst_of y.body)))
      (ap (λ z. or_else (uses_of texts b z.cond).value (block (map (unbuilt_in_stat texts b) z.body))) (sym same)
      ∙ sym (levels.arm_is (unbuilt.steps texts b) a) ∙ u) in
      levels.arm_is built.steps a ∙ ap (λ z. built_expr z.cond && all (map built_stat z.body)) same
      ∙ and_true (built_expr y.cond.0) (all (map built_stat (fst_of y.body))) ((y.cond.1 ps.0).0 us.0) (block_built y.body ps.1 us.1)

  func_step : (y : FuncWith) → func_ok (induction.func_of kind_ok (λ _. Unit {0}) stat_kind_ok arm_ok expr_ok choice_ok (λ _. Unit {0}) func_ok stat_ok y)
  func_step y =
      let parts_of = induction.func_parts kind_ok (λ _. Unit {0}) stat_kind_ok arm_ok expr_ok choice_ok (λ _. Unit {0}) func_ok stat_ok y in
      let f : FuncBody = roll-FuncBody parts_of in
      let same : out-FuncBody (roll-FuncBody parts_of) ≡ parts_of = search (rules, folds.the_lemmas, views.the_lemmas) in
      λ p u.
      let p1 = ap (λ z. all (map proper_stat z.body)) (sym same) ∙ sym (levels.func_is proper.steps f) ∙ p in
      let u1 = ap (λ z. block (map (unbuilt_in_stat texts b) z.body)) (sym same) ∙ sym (levels.func_is (unbuilt.steps texts b) f) ∙ u in
      levels.func_is built.steps f ∙ ap (λ z. all (map built_stat z.body)) same ∙ block_built y.body p1 u1

  every : induction.Steps kind_ok (λ _. Unit {0}) stat_kind_ok arm_ok expr_ok choice_ok (λ _. Unit {0}) func_ok stat_ok
  every = record {
    kind = λ y n at p.
        let go = by_kind y n at (proper_of (sym (levels.rolled_expr proper.steps (kind_parts y))) p) in
        let same = ap (λ f. f n at) (levels.rolled_expr (unbuilt.steps texts b) (kind_parts y)) in (
          λ u. levels.rolled_expr built.steps (kind_parts y) ∙ go.0 (ap (λ (x : ExprUses). x.value) (sym same) ∙ u),
          λ u. levels.rolled_expr built.steps (kind_parts y) ∙ go.1 (ap (λ (x : ExprUses). x.target) (sym same) ∙ u),
        );
    field_kind = λ y. tt;
    stat_kind = λ y at p u.
        levels.rolled_stat built.steps (stat_kind_parts y)
        ∙ by_stat_kind y at (sym (levels.rolled_stat proper.steps (stat_kind_parts y)) ∙ p)
        (ap (λ f. f at) (sym (levels.rolled_stat (unbuilt.steps texts b) (stat_kind_parts y))) ∙ u);
    arm = arm_step;
    expr = λ y p.
        let go = y.kind.1 y.id y.at (proper_of (sym (levels.expr_is proper.steps _)) p) in (
          λ u. levels.expr_is built.steps _ ∙ go.0 (ap (λ (x : ExprUses). x.value) (sym (levels.expr_is (unbuilt.steps texts b) _)) ∙ u),
          λ u. levels.expr_is built.steps _ ∙ go.1 (ap (λ (x : ExprUses). x.target) (sym (levels.expr_is (unbuilt.steps texts b) _)) ∙ u),
        );
    expr_arm = λ y p u.
        let ps = both_true (form_expr y.cond.0).proper (form_expr y.value.0).proper (sym (levels.expr_arm_is proper.steps _) ∙ p) in
        let us = both_none (uses_of texts b y.cond.0).value (uses_of texts b y.value.0).value (sym (levels.expr_arm_is (unbuilt.steps texts b) _) ∙ u) in
        levels.expr_arm_is built.steps _
        ∙ and_true (built_expr y.cond.0) (built_expr y.value.0) ((y.cond.1 ps.0).0 us.0) ((y.value.1 ps.1).0 us.1);
    field = λ y. tt;
    func = func_step;
    stat = λ y p u.
        levels.stat_is built.steps _
        ∙ y.kind.1 y.at (sym (levels.stat_is proper.steps _) ∙ p) (sym (levels.stat_is (unbuilt.steps texts b) _) ∙ u);
  }

  func_built : (f : FuncBody) → func_ok f
  func_built = induction.all_func kind_ok (λ _. Unit {0}) stat_kind_ok arm_ok expr_ok choice_ok (λ _. Unit {0}) func_ok stat_ok every

pub built_scripts : BuiltScripts
built_scripts texts b f p u = func_built texts b f p u
