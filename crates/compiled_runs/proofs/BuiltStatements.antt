-- Each statement all of whose nodes are built does what its code does: by induction over the tree.
use Rattle.std.proofs.Common.{◌≡◌, ℕ, ◌≤◌, true, ◌&&◌, List, [], ◌∷◌, map, Some, None, rules, refl, sym, ap, ◌∙◌, subst}
use Rattle.byte_text.specs.declared.fixed.StrId.{StrId}
use Rattle.syntax_tree.specs.declared.bindings.Bindings.{Bindings}
use Rattle.syntax_tree.specs.declared.tree.Arm.{Arm, out-Arm, roll-Arm}
use Rattle.syntax_tree.specs.declared.tree.Expr.{Expr}
use Rattle.syntax_tree.specs.declared.tree.ExprArm.{ExprArm}
use Rattle.syntax_tree.specs.declared.tree.ExprKind.{ExprKind, out-ExprKind}
use Rattle.syntax_tree.specs.declared.tree.ExprKind.TheFolds as folds
use Rattle.syntax_tree.specs.declared.tree.ExprKind.TheViews as views
use Rattle.syntax_tree.specs.declared.tree.ExprKind.TheOpen as level
use Rattle.syntax_tree.specs.declared.tree.ExprKind.TheOpen.{Arm-F}
use Rattle.syntax_tree.specs.declared.tree.Field.{Field}
use Rattle.syntax_tree.specs.declared.tree.FieldKind.{FieldKind}
use Rattle.syntax_tree.specs.declared.tree.FuncBody.{FuncBody}
use Rattle.syntax_tree.specs.declared.tree.Stat.{Stat}
use Rattle.syntax_tree.specs.declared.tree.StatKind.{StatKind, out-StatKind, roll-StatKind}
use Rattle.syntax_tree.specs.Fold.{at_arm}
use Rattle.syntax_tree.specs.Bound.{known}
use Rattle.syntax_tree.specs.Numbers.{numbered}
use Rattle.syntax_tree.specs.Proper as proper
use Rattle.syntax_tree.specs.Proper.{all, all_targets, all_proper, has_one, maybe_all, maybe_proper, form_expr, proper_stat, proper_arm}
use Rattle.emit_expr.specs.declared.draft.Emitter.{Emitter}
use Rattle.emit_laws.specs.Induction as induction
use Rattle.emit_laws.specs.Induction.{With}
use Rattle.scope_laws.specs.Sight.{ExprLevel, StatLevel}
use Rattle.scope_laws.proofs.Levels as levels
use Rattle.code_simulation.specs.Relation.{Setting}
use Rattle.code_simulation.proofs.Along.{CallsGo}
use Rattle.code_simulation.proofs.Assigns.{AreNames}
use Rattle.compiled_runs.specs.Built as built
use Rattle.compiled_runs.specs.Built.{built_expr, built_stat}
use Rattle.compiled_runs.proofs.Standing.{Script}
use Rattle.compiled_runs.proofs.Leaves.{Holds}
use Rattle.compiled_runs.proofs.Lists.{AllHold}
use Rattle.compiled_runs.proofs.Parentheses.{false_true}
use Rattle.compiled_runs.proofs.Functions.{FunctionsCoded}
use Rattle.compiled_runs.proofs.Expressions.{both_true, built_holds}
use Rattle.compiled_runs.proofs.Statements.{Performs, AllPerform}
use Rattle.compiled_runs.proofs.Locals.{local_performs}
use Rattle.compiled_runs.proofs.LocalFunctions.{local_function_performs}
use Rattle.compiled_runs.proofs.Blocks.{do_performs}
use Rattle.compiled_runs.proofs.Branches.{ArmsPerform, if_performs}
use Rattle.compiled_runs.proofs.Loops.{break_performs, continue_performs, while_performs}
use Rattle.compiled_runs.proofs.Repeats.{repeat_performs}
use Rattle.compiled_runs.proofs.EarlyEnds.{early_tries}
use Rattle.compiled_runs.proofs.CallStatements.{call_performs}
use Rattle.compiled_runs.proofs.Returns.{return_performs}
use Rattle.compiled_runs.proofs.Assigns.{assign_performs}
use Rattle.compiled_runs.proofs.NamedUpdates.{update_performs}
use Rattle.compiled_runs.proofs.NumericLoops.{num_for_performs}

out_roll_stat : (x : StatLevel) → out-StatKind (roll-StatKind x) ≡ x
out_roll_stat x = search (rules, folds.the_lemmas, views.the_lemmas)

abbrev ArmLevel : Type 0
ArmLevel = Arm-F ExprKind FieldKind StatKind Arm Expr ExprArm Field FuncBody Stat

out_roll_arm : (x : ArmLevel) → out-Arm (roll-Arm x) ≡ x
out_roll_arm x = search (rules, folds.the_lemmas, views.the_lemmas)

-- ---- proper targets and calls

built_level : (e : Expr) → levels.at_expr_level built.steps (out-ExprKind e.kind) ≡ built_expr e
built_level e = sym (levels.expr_is built.steps e ∙ levels.kind_is built.steps e.kind)

form_level : (e : Expr) → levels.at_expr_level proper.steps (out-ExprKind e.kind) ≡ form_expr e
form_level e = sym (levels.expr_is proper.steps e ∙ levels.kind_is proper.steps e.kind)

-- a target that is built is a name
pub record NameOf (e : Expr) : Type 0 where
  pub name : StrId
  pub is : out-ExprKind e.kind ≡ level.Name name

name_of : (e : Expr) → (form_expr e).target ≡ true → built_expr e ≡ true → NameOf e
name_of e t u = by (out-ExprKind e.kind) refl (ap (λ (f : proper.Form). f.target) (form_level e) ∙ t) (built_level e ∙ u)
  where
    by : (l : ExprLevel) → out-ExprKind e.kind ≡ l → (levels.at_expr_level proper.steps l).target ≡ true → levels.at_expr_level built.steps l ≡ true
        → NameOf e
    by (level.Name x) is t u = record { name = x; is = is }
    by (level.Index a k) is t u = absurd (false_true u)
    by (level.Member a x) is t u = absurd (false_true u)
    by l is t u = absurd (false_true t)

-- a call that is built is one of a function
pub record CallOf (e : Expr) : Type 0 where
  pub callee : Expr
  pub args : List Expr
  pub is : out-ExprKind e.kind ≡ level.ExprKind::Call callee args
  pub built_callee : built_expr callee ≡ true
  pub built_args : all (map built_expr args) ≡ true

call_of : (e : Expr) → (form_expr e).calls ≡ true → built_expr e ≡ true → CallOf e
call_of e t u = by (out-ExprKind e.kind) refl (ap (λ (f : proper.Form). f.calls) (form_level e) ∙ t) (built_level e ∙ u)
  where
    by : (l : ExprLevel) → out-ExprKind e.kind ≡ l → (levels.at_expr_level proper.steps l).calls ≡ true → levels.at_expr_level built.steps l ≡ true
        → CallOf e
    by (level.ExprKind::Call f args) is t u =
        let s = both_true (built_expr f) (all (map built_expr args)) u in
        record { callee = f; args = args; is = is; built_callee = s.0; built_args = s.1 }
    by (level.Method a x args) is t u = absurd (false_true u)
    by l is t u = absurd (false_true t)

-- the names of some targets
pub record NamesOf (ts : List Expr) : Type 0 where
  pub names : List StrId
  pub are : AreNames ts names

names_of : (ts : List Expr) → all_targets (map form_expr ts) ≡ true → all (map built_expr ts) ≡ true → NamesOf ts
names_of [] t u = record { names = []; are = tt }
names_of (e ∷ es) t u =
    let s = both_true (form_expr e).target (all_targets (map form_expr es)) t in
    let v = both_true (built_expr e) (all (map built_expr es)) u in
    let x = name_of e s.0 v.0 in
    let rest = names_of es s.1 v.1 in
    record { names = x.name ∷ rest.names; are = (x.is, rest.are) }

module _ (p : Setting) (most : ℕ) (calls : (i : ℕ) → i ≤ most → CallsGo p i) (b : Bindings) (whole : Emitter) (script : Script p b whole)
    (coded : FunctionsCoded p most b whole script)
    (clean : (known (numbered script.main)).faults ≡ []) where
  abbrev Done : Stat → Type 0
  Done s = Performs p most b whole script s

  holds : (e : Expr) → built_expr e ≡ true → Holds p most calls b whole script e
  holds = built_holds p most calls b whole script coded

  all_hold : (es : List Expr) → all (map built_expr es) ≡ true → AllHold p most b whole script es
  all_hold [] t = tt
  all_hold (e ∷ es) t = let s = both_true (built_expr e) (all (map built_expr es)) t in (holds e s.0, all_hold es s.1)

  -- ---- what is shown of each node

  abbrev stat_kind_ok : StatKind → Type 0
  stat_kind_ok k = (s : Stat) → s.kind ≡ k → levels.at_stat_kind built.steps k ≡ true → levels.at_stat_kind proper.steps k ≡ true → Done s

  abbrev stat_ok : Stat → Type 0
  stat_ok s = built_stat s ≡ true → proper_stat s ≡ true → Done s

  abbrev arm_ok : Arm → Type 0
  arm_ok a =
      at_arm built.steps a ≡ true → proper_arm a ≡ true
      → Holds p most calls b whole script (out-Arm a).cond × AllPerform p most b whole script (out-Arm a).body

  abbrev StatWith : Type 0
  StatWith = induction.stat_kind_with (λ _. Unit {0}) (λ _. Unit {0}) stat_kind_ok arm_ok (λ _. Unit {0}) (λ _. Unit {0}) (λ _. Unit {0}) (λ _. Unit {0}) stat_ok

  abbrev stat_parts : StatWith → StatLevel
  stat_parts y =
      induction.stat_kind_parts (λ _. Unit {0}) (λ _. Unit {0}) stat_kind_ok arm_ok (λ _. Unit {0}) (λ _. Unit {0}) (λ _. Unit {0}) (λ _. Unit {0}) stat_ok y

  all_done : (ss : List (With stat_ok)) → all (map built_stat (map (λ z. z.0) ss)) ≡ true → all (map proper_stat (map (λ z. z.0) ss)) ≡ true
      → AllPerform p most b whole script (map (λ z. z.0) ss)
  all_done [] t q = tt
  all_done (s ∷ ss) t q =
      let u = both_true (built_stat s.0) (all (map built_stat (map (λ z. z.0) ss))) t in
      let v = both_true (proper_stat s.0) (all (map proper_stat (map (λ z. z.0) ss))) q in
      (s.1 u.0 v.0, all_done ss u.1 v.1)

  arms_done : (arms : List (With arm_ok)) → all (map (at_arm built.steps) (map (λ z. z.0) arms)) ≡ true
      → all (map proper_arm (map (λ z. z.0) arms)) ≡ true → ArmsPerform p most b whole script (map (λ z. z.0) arms)
  arms_done [] t q = tt
  arms_done (a ∷ arms) t q =
      let u = both_true (at_arm built.steps a.0) (all (map (at_arm built.steps) (map (λ z. z.0) arms))) t in
      let v = both_true (proper_arm a.0) (all (map proper_arm (map (λ z. z.0) arms))) q in
      (a.1 u.0 v.0, arms_done arms u.1 v.1)

  by_kind : (y : StatWith) (s : Stat) → out-StatKind s.kind ≡ stat_parts y → levels.at_stat_level built.steps (stat_parts y) ≡ true
      → levels.at_stat_level proper.steps (stat_parts y) ≡ true → Done s
  by_kind (level.Local xs es) s is t q = local_performs p most b whole script s xs (map (λ z. z.0) es) is (all_hold (map (λ z. z.0) es) t)
  by_kind (level.Assign ts es) s is t q =
      let targets = map (λ z. z.0) ts in
      let values = map (λ z. z.0) es in
      let u = both_true (all (map built_expr targets)) (all (map built_expr values)) t in
      let h1 = has_one (map form_expr targets) in
      let h2 = all_targets (map form_expr targets) in
      let h3 = all_proper (map form_expr targets) in
      let h4 = has_one (map form_expr values) in
      let q4 = (both_true (h1 && h2 && h3 && h4) (all_proper (map form_expr values)) q).0 in
      let q2 = (both_true (h1 && h2) h3 (both_true (h1 && h2 && h3) h4 q4).0).0 in
      let n = names_of targets (both_true h1 h2 q2).1 u.0 in
      assign_performs p most calls b whole script s targets values n.names is n.are (all_hold values u.1)
  by_kind (level.Compound o x e) s is t q =
      let u = both_true (built_expr x.0) (built_expr e.0) t in
      let h1 = proper.computes o in
      let h2 = (form_expr x.0).target in
      let h3 = (form_expr x.0).proper in
      let q2 = (both_true (h1 && h2) h3 (both_true (h1 && h2 && h3) (form_expr e.0).proper q).0).0 in
      let v = both_true h1 h2 q2 in
      let n = name_of x.0 v.1 u.0 in
      update_performs p most calls b whole script s o x.0 e.0 n.name v.0 is n.is (holds e.0 u.1)
  by_kind (level.StatKind::Call e) s is t q =
      let c = call_of e.0 (both_true (form_expr e.0).calls (form_expr e.0).proper q).0 t in
      call_performs p most calls b whole script s e.0 c.callee c.args is c.is (holds c.callee c.built_callee) (all_hold c.args c.built_args)
  by_kind (level.Do body) s is t q = do_performs p most b whole script s (map (λ z. z.0) body) is (all_done body t q)
  by_kind (level.While c body) s is t q =
      let stats = map (λ z. z.0) body in
      let u = both_true (built_expr c.0) (all (map built_stat stats)) t in
      let v = both_true (form_expr c.0).proper (all (map proper_stat stats)) q in
      while_performs p most b whole script s c.0 stats is (holds c.0 u.0) (all_done body u.1 v.1)
  by_kind (level.Repeat body c) s is t q =
      let stats = map (λ z. z.0) body in
      let u = both_true (all (map built_stat stats)) (built_expr c.0) t in
      let v = both_true (all (map proper_stat stats)) (form_expr c.0).proper q in
      let c_holds = holds c.0 u.1 in
      repeat_performs p most b whole script calls s stats c.0 is (all_done body u.0 v.0) c_holds
      (early_tries p most calls b whole script clean stats c.0 c_holds)
  by_kind (level.StatKind::If arms None) s is t q =
      let list = map (λ z. z.0) arms in
      let u = both_true (all (map (at_arm built.steps) list)) true t in
      let h1 = has_one (map proper_arm list) in
      let h2 = all (map proper_arm list) in
      let v = both_true h1 h2 (both_true (h1 && h2) true q).0 in
      if_performs p most b whole script s list None is (arms_done arms u.0 v.1) tt
  by_kind (level.StatKind::If arms (Some body)) s is t q =
      let list = map (λ z. z.0) arms in
      let stats = map (λ z. z.0) body in
      let u = both_true (all (map (at_arm built.steps) list)) (all (map built_stat stats)) t in
      let h1 = has_one (map proper_arm list) in
      let h2 = all (map proper_arm list) in
      let w = both_true (h1 && h2) (all (map proper_stat stats)) q in
      if_performs p most b whole script s list (Some stats) is (arms_done arms u.0 (both_true h1 h2 w.0).1) (all_done body u.1 w.1)
  by_kind (level.NumFor x a c None body) s is t q =
      let stats = map (λ z. z.0) body in
      let u = both_true (built_expr a.0) (built_expr c.0 && (true && all (map built_stat stats))) t in
      let u2 = both_true (built_expr c.0) (true && all (map built_stat stats)) u.1 in
      let v = both_true ((form_expr a.0).proper && (form_expr c.0).proper && true) (all (map proper_stat stats)) q in
      num_for_performs p most calls b whole script s x a.0 c.0 None stats is (holds a.0 u.0) (holds c.0 u2.0) tt
      (all_done body (both_true true (all (map built_stat stats)) u2.1).1 v.1)
  by_kind (level.NumFor x a c (Some e) body) s is t q =
      let stats = map (λ z. z.0) body in
      let u = both_true (built_expr a.0) (built_expr c.0 && (built_expr e.0 && all (map built_stat stats))) t in
      let u2 = both_true (built_expr c.0) (built_expr e.0 && all (map built_stat stats)) u.1 in
      let u3 = both_true (built_expr e.0) (all (map built_stat stats)) u2.1 in
      let v = both_true ((form_expr a.0).proper && (form_expr c.0).proper && (form_expr e.0).proper) (all (map proper_stat stats)) q in
      num_for_performs p most calls b whole script s x a.0 c.0 (Some e.0) stats is (holds a.0 u.0) (holds c.0 u2.0) (holds e.0 u3.0) (all_done body u3.1 v.1)
  by_kind (level.GenFor xs es body) s is t q = absurd (false_true t)
  by_kind (level.LocalFunction x f) s is t q = local_function_performs p most b whole script coded s x f.0 is
  by_kind (level.Return es) s is t q = return_performs p most calls b whole script s (map (λ z. z.0) es) is (all_hold (map (λ z. z.0) es) t)
  by_kind level.Break s is t q = break_performs p most b whole script s is
  by_kind level.Continue s is t q = continue_performs p most b whole script s is

  abbrev ArmWith : Type 0
  ArmWith = induction.arm_with (λ _. Unit {0}) (λ _. Unit {0}) stat_kind_ok arm_ok (λ _. Unit {0}) (λ _. Unit {0}) (λ _. Unit {0}) (λ _. Unit {0}) stat_ok

  arm_done : (y : ArmWith) → arm_ok (roll-Arm (record { cond = y.cond.0; body = map (λ z. z.0) y.body }))
  arm_done y t q =
      let o = out_roll_arm (record { cond = y.cond.0; body = map (λ z. z.0) y.body }) in
      let stats = map (λ z. z.0) y.body in
      let u = both_true (built_expr y.cond.0) (all (map built_stat stats))
      (sym (levels.arm_is built.steps _ ∙ ap (λ (z : ArmLevel). built_expr z.cond && all (map built_stat z.body)) o) ∙ t) in
      let v = both_true (form_expr y.cond.0).proper (all (map proper_stat stats))
      (sym (levels.arm_is proper.steps _ ∙ ap (λ (z : ArmLevel). (form_expr z.cond).proper && all (map proper_stat z.body)) o) ∙ q) in
      subst (λ (z : ArmLevel). Holds p most calls b whole script z.cond × AllPerform p most b whole script z.body) (sym o)
      (holds y.cond.0 u.0, all_done y.body u.1 v.1)

  -- ---- the induction

  every : induction.Steps (λ _. Unit {0}) (λ _. Unit {0}) stat_kind_ok arm_ok (λ _. Unit {0}) (λ _. Unit {0}) (λ _. Unit {0}) (λ _. Unit {0}) stat_ok
  every = record {
    kind = λ y. tt;
    field_kind = λ y. tt;
    stat_kind = λ y s is t q.
        by_kind y s (ap out-StatKind is ∙ out_roll_stat (stat_parts y)) (sym (levels.rolled_stat built.steps (stat_parts y)) ∙ t)
        (sym (levels.rolled_stat proper.steps (stat_parts y)) ∙ q);
    arm = λ y t q. arm_done y t q;
    expr = λ y. tt;
    expr_arm = λ y. tt;
    field = λ y. tt;
    func = λ y. tt;
    stat = λ y t q. y.kind.1 _ refl (sym (levels.stat_is built.steps _) ∙ t) (sym (levels.stat_is proper.steps _) ∙ q);
  }

  pub built_performs : (s : Stat) → built_stat s ≡ true → proper_stat s ≡ true → Done s
  built_performs =
      induction.all_stat (λ _. Unit {0}) (λ _. Unit {0}) stat_kind_ok arm_ok (λ _. Unit {0}) (λ _. Unit {0}) (λ _. Unit {0}) (λ _. Unit {0}) stat_ok every

  -- and statements in order do
  pub all_perform : (ss : List Stat) → all (map built_stat ss) ≡ true → all (map proper_stat ss) ≡ true → AllPerform p most b whole script ss
  all_perform [] t q = tt
  all_perform (s ∷ ss) t q =
      let u = both_true (built_stat s) (all (map built_stat ss)) t in
      let v = both_true (proper_stat s) (all (map proper_stat ss)) q in
      (built_performs s u.0 v.0, all_perform ss u.1 v.1)
