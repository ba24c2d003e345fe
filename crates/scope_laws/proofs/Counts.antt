-- How many locals the parts of a node declare.
use Rattle.std.proofs.Common.{◌≡◌, ℕ, ◌+◌, List, [], ◌∷◌, ◌++◌, map, Some, None, refl, arith}
use Rattle.syntax_tree.specs.declared.tree.Expr.{Expr}
use Rattle.syntax_tree.specs.declared.tree.ExprKind.{out-ExprKind}
use Rattle.syntax_tree.specs.declared.tree.ExprKind.TheOpen as level
use Rattle.syntax_tree.specs.declared.tree.FieldKind.{out-FieldKind}
use Rattle.syntax_tree.specs.declared.tree.FuncBody.{out-FuncBody}
use Rattle.syntax_tree.specs.declared.tree.Stat.{Stat}
use Rattle.syntax_tree.specs.declared.tree.StatKind.{out-StatKind}
use Rattle.syntax_tree.specs.Lists.{total}
use Rattle.scope_laws.specs.Declares.{steps, declares_expr, declares_stat, declares_arm, declares_expr_arm, declares_field}
use Rattle.scope_laws.specs.Sight.{Sight, Part, expr, stat, function, arm, expr_arm, field, block, ExprLevel, FieldLevel, StatLevel, declares, visible, expr_parts, field_parts, in_stat, in_part}
use Rattle.scope_laws.proofs.Behind.{all_declare}
use Rattle.scope_laws.proofs.Levels.{at_expr_level, at_field_level, at_stat_level, kind_is, field_kind_is, stat_kind_is, arm_is, expr_is, expr_arm_is, field_is, func_is, stat_is}

all_join : (ps qs : List Part) → all_declare (ps ++ qs) ≡ all_declare ps + all_declare qs
all_join [] qs = omega arith
all_join (p ∷ ps) qs = omega (arith, all_join ps qs)

all_list : {A : Type 0} (part : A → Part) (count : A → ℕ) → ((a : A) → declares (part a) ≡ count a) → (xs : List A) →
    all_declare (map part xs) ≡ total (map count xs)
all_list part count h [] = refl
all_list part count h (x ∷ xs) = omega (arith, h x, all_list part count h xs)

exprs_count : (es : List Expr) → all_declare (map expr es) ≡ total (map declares_expr es)
exprs_count es = all_list expr declares_expr (λ a. refl) es

stats_count : (body : List Stat) → all_declare (map stat body) ≡ total (map declares_stat body)
stats_count body = all_list stat declares_stat (λ a. refl) body

expr_count : (l : ExprLevel) → all_declare (expr_parts l) ≡ at_expr_level steps l
expr_count level.Nil = refl
expr_count level.True = refl
expr_count level.False = refl
expr_count (level.Num v) = refl
expr_count (level.Str x) = refl
expr_count level.Vararg = refl
expr_count (level.Name x) = refl
expr_count (level.Paren e) = omega arith
expr_count (level.Unary op e) = omega arith
expr_count (level.Binary op a b) = omega arith
expr_count (level.Concat es) = exprs_count es
expr_count (level.Index a b) = omega arith
expr_count (level.Member a x) = omega arith
expr_count (level.ExprKind::Call a es) = omega (arith, exprs_count es)
expr_count (level.Method a x es) = omega (arith, exprs_count es)
expr_count (level.Table fs) = all_list field declares_field (λ a. refl) fs
expr_count (level.Function f) = omega arith
expr_count (level.ExprKind::If arms e) = omega (
  arith,
  all_join (map expr_arm arms) (expr e ∷ []),
  all_list expr_arm declares_expr_arm
      (λ a. refl) arms,
)
expr_count (level.Interp xs es) = exprs_count es

field_count : (l : FieldLevel) → all_declare (field_parts l) ≡ at_field_level steps l
field_count (level.Item e) = omega arith
field_count (level.Named x e) = omega arith
field_count (level.Keyed a b) = omega arith

pub stat_count : (l : StatLevel) (s : Sight) → (in_stat l s).sight.declared + all_declare
    (in_stat l s).parts ≡ s.declared + at_stat_level steps l
stat_count (level.Local xs es) s = omega (arith, exprs_count es)
stat_count (level.Assign ts es) s = omega (arith, all_join (map expr ts) (map expr es), exprs_count ts, exprs_count es)
stat_count (level.Compound op a b) s = omega arith
stat_count (level.StatKind::Call e) s = omega arith
stat_count (level.Do body) s = omega arith
stat_count (level.While a body) s = omega arith
stat_count (level.Repeat body a) s = omega (arith, all_join (map stat body) (expr a ∷ []), stats_count body)
stat_count (level.StatKind::If arms None) s = omega (arith, all_join (map arm arms) [], all_list arm declares_arm (λ a. refl) arms)
stat_count (level.StatKind::If arms (Some body)) s = omega (
  arith,
  all_join (map arm arms)
      (block [] body ∷ []),
  all_list arm declares_arm (λ a. refl) arms,
)
stat_count (level.NumFor x a b None body) s = omega arith
stat_count (level.NumFor x a b (Some c) body) s = omega arith
stat_count (level.GenFor xs es body) s = omega (arith, all_join (map expr es) (block (visible s.declared xs) body ∷ []), exprs_count es)
stat_count (level.LocalFunction x f) s = omega arith
stat_count (level.Return es) s = omega (arith, exprs_count es)
stat_count level.Break s = omega arith
stat_count level.Continue s = omega arith

pub part_count : (p : Part) (s : Sight) → (in_part p s).sight.declared + all_declare (in_part p s).parts ≡ s.declared + declares p
part_count (expr e) s = omega (arith, expr_count (out-ExprKind e.kind), kind_is steps e.kind, expr_is steps e)
part_count (stat x) s = omega (arith, stat_count (out-StatKind x.kind) s, stat_kind_is steps x.kind, stat_is steps x)
part_count (function f) s = omega (arith, stats_count (out-FuncBody f).body, func_is steps f)
part_count (arm a) s = omega (arith, arm_is steps a)
part_count (expr_arm a) s = omega (arith, expr_arm_is steps a)
part_count (field f) s = omega (arith, field_count (out-FieldKind f.kind), field_kind_is steps f.kind, field_is steps f)
part_count (block names body) s = omega (arith, stats_count body)
