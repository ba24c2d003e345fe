-- Where no loop is around a statement that breaks no rule, no `continue` in it ends a turn of a loop around it.
use Rattle.std.proofs.Common.{rules, ◌≡◌, ℕ, ◌+◌, Bool, true, false, ◌||◌, List, [], ◌∷◌, ◌++◌, map, Some, None, refl, sym, ap, ◌∙◌, subst, if◌then◌else◌}
use Rattle.syntax_tree.specs.declared.notes.Place.{Place}
use Rattle.syntax_tree.specs.declared.tree.Arm.{Arm, out-Arm, roll-Arm}
use Rattle.syntax_tree.specs.declared.tree.ExprKind.TheFolds as folds
use Rattle.syntax_tree.specs.declared.tree.ExprKind.TheOpen as level
use Rattle.syntax_tree.specs.declared.tree.ExprKind.TheOpen.{Arm-F}
use Rattle.syntax_tree.specs.declared.tree.ExprKind.TheViews as views
use Rattle.syntax_tree.specs.declared.tree.ExprKind.{ExprKind}
use Rattle.syntax_tree.specs.declared.tree.Expr.{Expr}
use Rattle.syntax_tree.specs.declared.tree.ExprArm.{ExprArm}
use Rattle.syntax_tree.specs.declared.tree.Field.{Field}
use Rattle.syntax_tree.specs.declared.tree.FieldKind.{FieldKind}
use Rattle.syntax_tree.specs.declared.tree.FuncBody.{FuncBody}
use Rattle.syntax_tree.specs.declared.tree.Stat.{Stat}
use Rattle.syntax_tree.specs.declared.tree.StatKind.{StatKind, out-StatKind, roll-StatKind}
use Rattle.syntax_tree.specs.declared.fault.ScopeFault.{ScopeFault}
use Rattle.syntax_tree.specs.Rules as scopes
use Rattle.syntax_tree.specs.Rules.{rules_expr, rules_stat, rules_arm}
use Rattle.emit_laws.specs.Induction as induction
use Rattle.emit_laws.specs.Induction.{With}
use Rattle.link_laws.proofs.Walks.{left, right}
use Rattle.scope_laws.specs.Sight.{StatLevel}
use Rattle.scope_laws.proofs.Levels as levels
use Rattle.compiled_runs.proofs.NodeLevels.{stat_rules_of, ends_turn_of, rules_arm_of, arm_ends_of}
use Rattle.compiled_runs.proofs.Turns as turns
use Rattle.compiled_runs.proofs.Turns.{any, ends_turn, arm_ends}

false_true : {A : Type 0} → false ≡ true → A
false_true e = cc

-- one of two
either : {A : Type 0} (x y : Bool) → (x || y) ≡ true → (x ≡ true → A) → (y ≡ true → A) → A
either true y e f g = f refl
either false y e f g = g e

out_roll_stat : (x : StatLevel) → out-StatKind (roll-StatKind x) ≡ x
out_roll_stat x = search (rules, folds.the_lemmas, views.the_lemmas)

abbrev ArmLevel : Type 0
ArmLevel = Arm-F ExprKind FieldKind StatKind Arm Expr ExprArm Field FuncBody Stat

out_roll_arm : (x : ArmLevel) → out-Arm (roll-Arm x) ≡ x
out_roll_arm x = search (rules, folds.the_lemmas, views.the_lemmas)

-- ---- what is shown of a part

abbrev StatEnds : StatLevel → Type 0
StatEnds l =
    (at : ℕ) (p : Place) → (levels.at_stat_level scopes.steps l at).faults p ≡ [] → levels.at_stat_level turns.steps l ≡ true → p.in_loop ≡ true

abbrev BlockEnds : List Stat → Type 0
BlockEnds ss = (p : Place) → scopes.block (map rules_stat ss) p ≡ [] → any (map ends_turn ss) ≡ true → p.in_loop ≡ true

abbrev ArmEnds : ArmLevel → Type 0
ArmEnds l = (p : Place) → rules_expr l.cond p ++ scopes.block (map rules_stat l.body) p ≡ [] → any (map ends_turn l.body) ≡ true → p.in_loop ≡ true

abbrev stat_kind_ok : StatKind → Type 0
stat_kind_ok k = StatEnds (out-StatKind k)

abbrev arm_ok : Arm → Type 0
arm_ok a = ArmEnds (out-Arm a)

abbrev stat_ok : Stat → Type 0
stat_ok s = (p : Place) → (rules_stat s).faults p ≡ [] → ends_turn s ≡ true → p.in_loop ≡ true

-- ---- lists

block_ends : (ss : List (With stat_ok)) → BlockEnds (map (λ z. z.0) ss)
block_ends [] p r e = false_true e
block_ends (s ∷ ss) p r e =
    either (ends_turn s.0) _ e (s.1 p (left _ _ r))
    (block_ends ss (record p { live = p.live + (rules_stat s.0).declares }) (right ((rules_stat s.0).faults p) _ r))

arm_at : (a : Arm) → arm_ok a → (p : Place) → rules_arm a p ≡ [] → arm_ends a ≡ true → p.in_loop ≡ true
arm_at a h p r e = h p (ap (λ (f : scopes.Part). f p) (sym (rules_arm_of a)) ∙ r) (sym (arm_ends_of a) ∙ e)

arms_end : (l : List (With arm_ok)) (p : Place) → scopes.all (map rules_arm (map (λ z. z.0) l)) p ≡ [] → any (map arm_ends (map (λ z. z.0) l)) ≡ true
    → p.in_loop ≡ true
arms_end [] p r e = false_true e
arms_end (a ∷ l) p r e =
    either (arm_ends a.0) _ e (arm_at a.0 a.1 p (left _ _ r)) (arms_end l p (right (rules_arm a.0 p) _ r))

-- ---- the parts of the tree

abbrev stat_kind_with : Type 0
stat_kind_with = induction.stat_kind_with (λ _. Unit {0}) (λ _. Unit {0}) stat_kind_ok arm_ok (λ _. Unit {0}) (λ _. Unit {0}) (λ _. Unit {0})
    (λ _. Unit {0}) stat_ok

abbrev stat_kind_parts : stat_kind_with → StatLevel
stat_kind_parts y = induction.stat_kind_parts (λ _. Unit {0}) (λ _. Unit {0}) stat_kind_ok arm_ok (λ _. Unit {0}) (λ _. Unit {0}) (λ _. Unit {0})
    (λ _. Unit {0}) stat_ok y

around : (t : Bool) (x : ScopeFault) → (if t then [] else x ∷ []) ≡ [] → t ≡ true
around true x e = refl
around false x e = cc

stat_kind_ends : (y : stat_kind_with) → StatEnds (stat_kind_parts y)
stat_kind_ends (level.Do ss) at p r e = block_ends ss p r e
stat_kind_ends (level.StatKind::If arms None) at p r e =
    either (any (map arm_ends (map (λ z. z.0) arms))) false e (arms_end arms p (left _ _ r)) false_true
stat_kind_ends (level.StatKind::If arms (Some ss)) at p r e =
    either (any (map arm_ends (map (λ z. z.0) arms))) (any (map ends_turn (map (λ z. z.0) ss))) e (arms_end arms p (left _ _ r))
    (block_ends ss p (right (scopes.all (map rules_arm (map (λ z. z.0) arms)) p) _ r))
stat_kind_ends level.Continue at p r e = around p.in_loop _ r
stat_kind_ends (level.Local xs es) at p r e = false_true e
stat_kind_ends (level.Assign ts es) at p r e = false_true e
stat_kind_ends (level.Compound o t v) at p r e = false_true e
stat_kind_ends (level.StatKind::Call c) at p r e = false_true e
stat_kind_ends (level.While c ss) at p r e = false_true e
stat_kind_ends (level.Repeat ss c) at p r e = false_true e
stat_kind_ends (level.NumFor x a c by ss) at p r e = false_true e
stat_kind_ends (level.GenFor xs es ss) at p r e = false_true e
stat_kind_ends (level.LocalFunction x f) at p r e = false_true e
stat_kind_ends (level.Return es) at p r e = false_true e
stat_kind_ends level.Break at p r e = false_true e

-- ---- the induction

stat_kind_step : (y : stat_kind_with) → stat_kind_ok (induction.stat_kind_of (λ _. Unit {0}) (λ _. Unit {0}) stat_kind_ok arm_ok (λ _. Unit {0})
    (λ _. Unit {0}) (λ _. Unit {0}) (λ _. Unit {0}) stat_ok y)
stat_kind_step y = subst StatEnds (sym (out_roll_stat (stat_kind_parts y))) (stat_kind_ends y)

arm_step : (y : induction.arm_with (λ _. Unit {0}) (λ _. Unit {0}) stat_kind_ok arm_ok (λ _. Unit {0}) (λ _. Unit {0}) (λ _. Unit {0})
    (λ _. Unit {0}) stat_ok) → arm_ok (induction.arm_of (λ _. Unit {0}) (λ _. Unit {0}) stat_kind_ok arm_ok (λ _. Unit {0}) (λ _. Unit {0})
    (λ _. Unit {0}) (λ _. Unit {0}) stat_ok y)
arm_step y =
    let parts = induction.arm_parts (λ _. Unit {0}) (λ _. Unit {0}) stat_kind_ok arm_ok (λ _. Unit {0}) (λ _. Unit {0}) (λ _. Unit {0})
    (λ _. Unit {0}) stat_ok y in
    let here : ArmEnds parts = λ p r e. block_ends y.body p (right (rules_expr y.cond.0 p) _ r) e in
    subst ArmEnds (sym (out_roll_arm parts)) here

stat_from : (s : Stat) → stat_kind_ok s.kind → stat_ok s
stat_from s h p r e =
    let o = out-StatKind s.kind in
    h s.at p (ap (λ (x : scopes.StatRules). x.faults p) (sym (stat_rules_of s o refl)) ∙ r) (sym (ends_turn_of s o refl) ∙ e)

all_steps : induction.Steps (λ _. Unit {0}) (λ _. Unit {0}) stat_kind_ok arm_ok (λ _. Unit {0}) (λ _. Unit {0}) (λ _. Unit {0}) (λ _. Unit {0}) stat_ok
all_steps = record {
  kind = λ _. tt;
  field_kind = λ _. tt;
  stat_kind = stat_kind_step;
  arm = arm_step;
  expr = λ _. tt;
  expr_arm = λ _. tt;
  field = λ _. tt;
  func = λ _. tt;
  stat = λ y. stat_from (induction.stat_of (λ _. Unit {0}) (λ _. Unit {0}) stat_kind_ok arm_ok (λ _. Unit {0}) (λ _. Unit {0}) (λ _. Unit {0})
      (λ _. Unit {0}) stat_ok y) y.kind.1;
}

in_loop_around : (s : Stat) → stat_ok s
in_loop_around s = induction.all_stat (λ _. Unit {0}) (λ _. Unit {0}) stat_kind_ok arm_ok (λ _. Unit {0}) (λ _. Unit {0}) (λ _. Unit {0})
    (λ _. Unit {0}) stat_ok all_steps s

-- where a turn of a loop around them is ended, there is one
pub ends_in_loop : (ss : List Stat) → BlockEnds ss
ends_in_loop [] p r e = false_true e
ends_in_loop (s ∷ ss) p r e =
    either (ends_turn s) _ e (in_loop_around s p (left _ _ r))
    (ends_in_loop ss (record p { live = p.live + (rules_stat s).declares }) (right ((rules_stat s).faults p) _ r))
