-- In a function that is built and proper, all parts are.
use Rattle.std.proofs.Common.{◌≡◌, true, ◌&&◌, List, [], ◌∷◌, ◌++◌, map, Some, None, sym, ap, ◌∙◌, append-nil, subst}
use Rattle.syntax_tree.specs.declared.tree.Arm.{Arm, out-Arm}
use Rattle.syntax_tree.specs.declared.tree.Expr.{Expr}
use Rattle.syntax_tree.specs.declared.tree.ExprArm.{ExprArm}
use Rattle.syntax_tree.specs.declared.tree.ExprKind.{out-ExprKind}
use Rattle.syntax_tree.specs.declared.tree.ExprKind.TheOpen as level
use Rattle.syntax_tree.specs.declared.tree.FuncBody.{FuncBody, out-FuncBody}
use Rattle.syntax_tree.specs.declared.tree.Stat.{Stat}
use Rattle.syntax_tree.specs.declared.tree.StatKind.{out-StatKind}
use Rattle.syntax_tree.specs.Fold.{at_arm}
use Rattle.syntax_tree.specs.Proper as proper
use Rattle.syntax_tree.specs.Proper.{all, all_targets, all_proper, has_one, has_two, stands_between, computes, form_expr, proper_stat, proper_arm, proper_expr_arm, proper_func}
use Rattle.scope_laws.specs.Sight.{Sight, Part, expr, stat, function, arm, expr_arm, field, block, ExprLevel, StatLevel, expr_parts, in_stat, in_part, itself, next, enter, Sees}
use Rattle.scope_laws.proofs.Levels as levels
use Rattle.compiled_runs.specs.Built as built
use Rattle.compiled_runs.specs.Built.{built_expr, built_expr_arm, built_stat, built_func}
use Rattle.compiled_runs.proofs.Parentheses.{false_true}
use Rattle.compiled_runs.proofs.Expressions.{both_true}

-- each of these statements is
pub record AllFine (body : List Stat) : Type 0 where
  pub built : all (map built_stat body) ≡ true
  pub proper : all (map proper_stat body) ≡ true

abbrev pub IsFine : Part → Type 0
IsFine (expr e) = (built_expr e ≡ true) × ((form_expr e).proper ≡ true)
IsFine (stat s) = (built_stat s ≡ true) × (proper_stat s ≡ true)
IsFine (function f) = (built_func f ≡ true) × (proper_func f ≡ true)
IsFine (arm a) = (at_arm built.steps a ≡ true) × (proper_arm a ≡ true)
IsFine (expr_arm a) = (built_expr_arm a ≡ true) × (proper_expr_arm a ≡ true)
IsFine (field f) = ⊥
IsFine (block names body) = AllFine body

abbrev AreFine : List Part → Type 0
AreFine [] = Unit {0}
AreFine (p ∷ ps) = IsFine p × AreFine ps

exprs_fine : (es : List Expr) (ps : List Part) → all (map built_expr es) ≡ true → all_proper (map form_expr es) ≡ true → AreFine ps
    → AreFine (map expr es ++ ps)
exprs_fine [] ps t q rest = rest
exprs_fine (e ∷ es) ps t q rest =
    let u = both_true (built_expr e) (all (map built_expr es)) t in
    let v = both_true (form_expr e).proper (all_proper (map form_expr es)) q in
    ((u.0, v.0), exprs_fine es ps u.1 v.1 rest)

only_exprs : (es : List Expr) → all (map built_expr es) ≡ true → all_proper (map form_expr es) ≡ true → AreFine (map expr es)
only_exprs es t q = subst AreFine (append-nil (map expr es)) (exprs_fine es [] t q tt)

stats_fine : (ss : List Stat) (ps : List Part) → all (map built_stat ss) ≡ true → all (map proper_stat ss) ≡ true → AreFine ps
    → AreFine (map stat ss ++ ps)
stats_fine [] ps t q rest = rest
stats_fine (s ∷ ss) ps t q rest =
    let u = both_true (built_stat s) (all (map built_stat ss)) t in
    let v = both_true (proper_stat s) (all (map proper_stat ss)) q in
    ((u.0, v.0), stats_fine ss ps u.1 v.1 rest)

only_stats : (ss : List Stat) → all (map built_stat ss) ≡ true → all (map proper_stat ss) ≡ true → AreFine (map stat ss)
only_stats ss t q = subst AreFine (append-nil (map stat ss)) (stats_fine ss [] t q tt)

arms_fine : (arms : List Arm) (ps : List Part) → all (map (at_arm built.steps) arms) ≡ true → all (map proper_arm arms) ≡ true → AreFine ps
    → AreFine (map arm arms ++ ps)
arms_fine [] ps t q rest = rest
arms_fine (a ∷ arms) ps t q rest =
    let u = both_true (at_arm built.steps a) (all (map (at_arm built.steps) arms)) t in
    let v = both_true (proper_arm a) (all (map proper_arm arms)) q in
    ((u.0, v.0), arms_fine arms ps u.1 v.1 rest)

choices_fine : (arms : List ExprArm) (ps : List Part) → all (map built_expr_arm arms) ≡ true → all (map proper_expr_arm arms) ≡ true → AreFine ps
    → AreFine (map expr_arm arms ++ ps)
choices_fine [] ps t q rest = rest
choices_fine (a ∷ arms) ps t q rest =
    let u = both_true (built_expr_arm a) (all (map built_expr_arm arms)) t in
    let v = both_true (proper_expr_arm a) (all (map proper_expr_arm arms)) q in
    ((u.0, v.0), choices_fine arms ps u.1 v.1 rest)

expr_fine : (l : ExprLevel) → levels.at_expr_level built.steps l ≡ true → (levels.at_expr_level proper.steps l).proper ≡ true
    → AreFine (expr_parts l)
expr_fine level.Nil t q = tt
expr_fine level.True t q = tt
expr_fine level.False t q = tt
expr_fine (level.Num n) t q = tt
expr_fine (level.Str x) t q = tt
expr_fine level.Vararg t q = tt
expr_fine (level.Name x) t q = tt
expr_fine (level.Paren e) t q = ((t, q), tt)
expr_fine (level.Unary o e) t q = ((t, q), tt)
expr_fine (level.Binary o a b) t q =
    let u = both_true (built_expr a) (built_expr b) (both_true (stands_between o) (built_expr a && built_expr b) t).1 in
    let v = both_true (stands_between o && (form_expr a).proper) (form_expr b).proper q in
    ((u.0, (both_true (stands_between o) (form_expr a).proper v.0).1), ((u.1, v.1), tt))
expr_fine (level.Concat es) t q =
    only_exprs es (both_true (has_one (map built_expr es)) (all (map built_expr es)) t).1
    (both_true (has_two (map form_expr es)) (all_proper (map form_expr es)) q).1
expr_fine (level.ExprKind::Call f args) t q =
    let u = both_true (built_expr f) (all (map built_expr args)) t in
    let v = both_true (form_expr f).proper (all_proper (map form_expr args)) q in
    ((u.0, v.0), only_exprs args u.1 v.1)
expr_fine (level.Function f) t q = ((t, q), tt)
expr_fine (level.ExprKind::If arms other) t q =
    let h1 = has_one (map proper_expr_arm arms) in
    let h2 = all (map proper_expr_arm arms) in
    let u = both_true (all (map built_expr_arm arms)) (built_expr other) t in
    let v = both_true (h1 && h2) (form_expr other).proper q in
    choices_fine arms (expr other ∷ []) u.0 (both_true h1 h2 v.0).1 ((u.1, v.1), tt)
expr_fine (level.Index a k) t q = absurd (false_true t)
expr_fine (level.Member a x) t q = absurd (false_true t)
expr_fine (level.Method a x es) t q = absurd (false_true t)
expr_fine (level.Table fs) t q = absurd (false_true t)
expr_fine (level.Interp xs es) t q = absurd (false_true t)

stat_fine : (l : StatLevel) (s : Sight) → levels.at_stat_level built.steps l ≡ true → levels.at_stat_level proper.steps l ≡ true
    → AreFine (in_stat l s).parts
stat_fine (level.Local xs es) s t q = only_exprs es t (both_true (has_one xs) (all_proper (map form_expr es)) q).1
stat_fine (level.Assign ts es) s t q =
    let u = both_true (all (map built_expr ts)) (all (map built_expr es)) t in
    let h1 = has_one (map form_expr ts) in
    let h2 = all_targets (map form_expr ts) in
    let h3 = all_proper (map form_expr ts) in
    let h4 = has_one (map form_expr es) in
    let v = both_true (h1 && h2 && h3 && h4) (all_proper (map form_expr es)) q in
    exprs_fine ts (map expr es) u.0 (both_true (h1 && h2) h3 (both_true (h1 && h2 && h3) h4 v.0).0).1 (only_exprs es u.1 v.1)
stat_fine (level.Compound o x e) s t q =
    let u = both_true (built_expr x) (built_expr e) t in
    let v = both_true (computes o && (form_expr x).target && (form_expr x).proper) (form_expr e).proper q in
    ((u.0, (both_true (computes o && (form_expr x).target) (form_expr x).proper v.0).1), ((u.1, v.1), tt))
stat_fine (level.StatKind::Call e) s t q = ((t, (both_true (form_expr e).calls (form_expr e).proper q).1), tt)
stat_fine (level.Do body) s t q = (record { built = t; proper = q }, tt)
stat_fine (level.While c body) s t q =
    let u = both_true (built_expr c) (all (map built_stat body)) t in
    let v = both_true (form_expr c).proper (all (map proper_stat body)) q in
    ((u.0, v.0), (record { built = u.1; proper = v.1 }, tt))
stat_fine (level.Repeat body c) s t q =
    let u = both_true (all (map built_stat body)) (built_expr c) t in
    let v = both_true (all (map proper_stat body)) (form_expr c).proper q in
    stats_fine body (expr c ∷ []) u.0 v.0 ((u.1, v.1), tt)
stat_fine (level.StatKind::If arms None) s t q =
    let h1 = has_one (map proper_arm arms) in
    let h2 = all (map proper_arm arms) in
    arms_fine arms [] (both_true (all (map (at_arm built.steps) arms)) true t).0 (both_true h1 h2 (both_true (h1 && h2) true q).0).1 tt
stat_fine (level.StatKind::If arms (Some body)) s t q =
    let h1 = has_one (map proper_arm arms) in
    let h2 = all (map proper_arm arms) in
    let u = both_true (all (map (at_arm built.steps) arms)) (all (map built_stat body)) t in
    let v = both_true (h1 && h2) (all (map proper_stat body)) q in
    arms_fine arms (block [] body ∷ []) u.0 (both_true h1 h2 v.0).1 (record { built = u.1; proper = v.1 }, tt)
stat_fine (level.NumFor x a c None body) s t q =
    let u = both_true (built_expr a) (built_expr c && (true && all (map built_stat body))) t in
    let u2 = both_true (built_expr c) (true && all (map built_stat body)) u.1 in
    let v = both_true ((form_expr a).proper && (form_expr c).proper && true) (all (map proper_stat body)) q in
    let w = both_true (form_expr a).proper (form_expr c).proper (both_true ((form_expr a).proper && (form_expr c).proper) true v.0).0 in
    ((u.0, w.0), ((u2.0, w.1), (record { built = (both_true true (all (map built_stat body)) u2.1).1; proper = v.1 }, tt)))
stat_fine (level.NumFor x a c (Some e) body) s t q =
    let u = both_true (built_expr a) (built_expr c && (built_expr e && all (map built_stat body))) t in
    let u2 = both_true (built_expr c) (built_expr e && all (map built_stat body)) u.1 in
    let u3 = both_true (built_expr e) (all (map built_stat body)) u2.1 in
    let v = both_true ((form_expr a).proper && (form_expr c).proper && (form_expr e).proper) (all (map proper_stat body)) q in
    let w = both_true ((form_expr a).proper && (form_expr c).proper) (form_expr e).proper v.0 in
    let z = both_true (form_expr a).proper (form_expr c).proper w.0 in
    ((u.0, z.0), ((u2.0, z.1), ((u3.0, w.1), (record { built = u3.1; proper = v.1 }, tt))))
stat_fine (level.GenFor xs es body) s t q = absurd (false_true t)
stat_fine (level.LocalFunction x f) s t q = ((t, q), tt)
stat_fine (level.Return es) s t q = only_exprs es t q
stat_fine level.Break s t q = tt
stat_fine level.Continue s t q = tt

-- the statements of a function
pub func_fine : (f : FuncBody) → built_func f ≡ true → proper_func f ≡ true → AllFine (out-FuncBody f).body
func_fine f t q = record { built = sym (levels.func_is built.steps f) ∙ t; proper = sym (levels.func_is proper.steps f) ∙ q }

part_fine : (p : Part) (s : Sight) → IsFine p → AreFine (in_part p s).parts
part_fine (expr e) s h =
    expr_fine (out-ExprKind e.kind) (sym (levels.expr_is built.steps e ∙ levels.kind_is built.steps e.kind) ∙ h.0)
    (ap (λ (f : proper.Form). f.proper) (sym (levels.expr_is proper.steps e ∙ levels.kind_is proper.steps e.kind)) ∙ h.1)
part_fine (stat x) s h =
    stat_fine (out-StatKind x.kind) s (sym (levels.stat_is built.steps x ∙ levels.stat_kind_is built.steps x.kind) ∙ h.0)
    (sym (levels.stat_is proper.steps x ∙ levels.stat_kind_is proper.steps x.kind) ∙ h.1)
part_fine (function f) s h = let b = func_fine f h.0 h.1 in only_stats (out-FuncBody f).body b.built b.proper
part_fine (arm a) s h =
    let body = (out-Arm a).body in
    let c = (out-Arm a).cond in
    let u = both_true (built_expr c) (all (map built_stat body)) (sym (levels.arm_is built.steps a) ∙ h.0) in
    let v = both_true (form_expr c).proper (all (map proper_stat body)) (sym (levels.arm_is proper.steps a) ∙ h.1) in
    ((u.0, v.0), (record { built = u.1; proper = v.1 }, tt))
part_fine (expr_arm a) s h =
    let u = both_true (built_expr a.cond) (built_expr a.value) (sym (levels.expr_arm_is built.steps a) ∙ h.0) in
    let v = both_true (form_expr a.cond).proper (form_expr a.value).proper (sym (levels.expr_arm_is proper.steps a) ∙ h.1) in
    ((u.0, v.0), ((u.1, v.1), tt))
part_fine (field f) s h = absurd h
part_fine (block names body) s h = only_stats body h.built h.proper

within_fine : (main : FuncBody) → built_func main ≡ true → proper_func main ≡ true → (s : Sight) (ps : List Part) → Sees main s ps → AreFine ps
within_fine main t q _ _ itself = ((t, q), tt)
within_fine main t q _ _ (next s p ps i) = (within_fine main t q s (p ∷ ps) i).1
within_fine main t q _ _ (enter s p ps i) = part_fine p s (within_fine main t q s (p ∷ ps) i).0

-- each function further inside
pub inner_fine : (main : FuncBody) → built_func main ≡ true → proper_func main ≡ true → (f : FuncBody) (s : Sight) (after : List Part)
    → Sees main s (function f ∷ after) → AllFine (out-FuncBody f).body
inner_fine main t q f s after sees = let h = (within_fine main t q s (function f ∷ after) sees).0 in func_fine f h.0 h.1
