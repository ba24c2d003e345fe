-- What is noted of a part is what is noted of the parts in it, behind the function itself where it is one.
use Rattle.std.proofs.Common.{◌≡◌, List, [], ◌∷◌, ◌++◌, map, Some, None, refl, sym, ap, ◌∙◌, append-nil, append_assoc}
use Rattle.syntax_tree.specs.declared.tree.Arm.{out-Arm}
use Rattle.syntax_tree.specs.declared.tree.ExprKind.{out-ExprKind}
use Rattle.syntax_tree.specs.declared.tree.ExprKind.TheOpen as level
use Rattle.syntax_tree.specs.declared.tree.FieldKind.{out-FieldKind}
use Rattle.syntax_tree.specs.declared.tree.FuncBody.{out-FuncBody}
use Rattle.syntax_tree.specs.declared.tree.StatKind.{out-StatKind}
use Rattle.scope_laws.specs.Sight.{Sight, Part, expr, stat, function, arm, expr_arm, field, block, ExprLevel, FieldLevel, StatLevel, visible, step, else_block, expr_parts, field_parts, in_part}
use Rattle.scope_laws.specs.Sight as sight
use Rattle.function_registers.specs.declared.walk.FuncRegisters.{FuncRegisters}
use Rattle.function_registers.specs.Registers as spec
use Rattle.function_registers.specs.Registers.{own_entry, all_entries, in_all}
use Rattle.register_laws.proofs.NotedLevels as levels

-- of a function itself
abbrev pub own : Part → List FuncRegisters
own (expr e) = []
own (stat s) = []
own (function f) = own_entry f
own (arm a) = []
own (expr_arm a) = []
own (field f) = []
own (block names body) = []

abbrev pub noted : Part → List FuncRegisters
noted (expr e) = spec.in_expr e
noted (stat s) = spec.in_stat s
noted (function f) = all_entries f
noted (arm a) = spec.in_arm a
noted (expr_arm a) = spec.in_expr_arm a
noted (field f) = spec.in_field f
noted (block names body) = spec.in_block body

abbrev pub all_noted : List Part → List FuncRegisters
all_noted [] = []
all_noted (p ∷ ps) = noted p ++ all_noted ps

pub noted_both : (ps qs : List Part) → all_noted (ps ++ qs) ≡ all_noted ps ++ all_noted qs
noted_both [] qs = refl
noted_both (p ∷ ps) qs = ap (λ l. noted p ++ l) (noted_both ps qs) ∙ sym (append_assoc (noted p) (all_noted ps) (all_noted qs))

one : (p : Part) → noted p ≡ all_noted (p ∷ [])
one p = sym (append-nil (noted p))

two : (p q : Part) → noted p ++ noted q ≡ all_noted (p ∷ q ∷ [])
two p q = ap (λ l. noted p ++ l) (one q)

list : {A : Type 0} (part : A → Part) (xs : List A) → in_all (map (λ a. (a, noted (part a))) xs) ≡ all_noted (map part xs)
list part [] = refl
list part (x ∷ xs) = ap (λ l. noted (part x) ++ l) (list part xs)

-- a list and what stands behind it
behind : {A : Type 0} (part : A → Part) (xs : List A) (qs : List Part) → in_all (map (λ a. (a, noted (part a))) xs) ++ all_noted qs ≡ all_noted (map part xs ++ qs)
behind part xs qs = ap (λ l. l ++ all_noted qs) (list part xs) ∙ sym (noted_both (map part xs) qs)

kind_noted : (l : ExprLevel) → levels.kind_level l ≡ all_noted (expr_parts l)
kind_noted level.Nil = refl
kind_noted level.True = refl
kind_noted level.False = refl
kind_noted (level.Num v) = refl
kind_noted (level.Str t) = refl
kind_noted level.Vararg = refl
kind_noted (level.Name x) = refl
kind_noted (level.Paren e) = one (expr e)
kind_noted (level.Unary z e) = one (expr e)
kind_noted (level.Binary z x y) = two (expr x) (expr y)
kind_noted (level.Concat es) = list expr es
kind_noted (level.Index x y) = two (expr x) (expr y)
kind_noted (level.Member x t) = one (expr x)
kind_noted (level.ExprKind::Call f es) = ap (λ l. spec.in_expr f ++ l) (list expr es)
kind_noted (level.Method o t es) = ap (λ l. spec.in_expr o ++ l) (list expr es)
kind_noted (level.Table fs) = list field fs
kind_noted (level.Function f) = one (function f)
kind_noted (level.ExprKind::If l e) = ap (λ r. in_all (map (λ a. (a, spec.in_expr_arm a)) l) ++ r) (one (expr e)) ∙ behind expr_arm l (expr e ∷ [])
kind_noted (level.Interp ts es) = list expr es

field_noted : (l : FieldLevel) → levels.field_kind_level l ≡ all_noted (field_parts l)
field_noted (level.Item e) = one (expr e)
field_noted (level.Named x e) = one (expr e)
field_noted (level.Keyed k e) = two (expr k) (expr e)

stat_noted : (l : StatLevel) (s : Sight) → levels.stat_kind_level l ≡ all_noted (sight.in_stat l s).parts
stat_noted (level.Local xs es) s = list expr es
stat_noted (level.Assign ts es) s =
    ap (λ r. in_all (map (λ a. (a, spec.in_expr a)) ts) ++ r) (list expr es) ∙ behind expr ts (map expr es)
stat_noted (level.Compound z x y) s = two (expr x) (expr y)
stat_noted (level.StatKind::Call e) s = one (expr e)
stat_noted (level.Do ss) s = one (block [] ss)
stat_noted (level.While e ss) s = two (expr e) (block [] ss)
stat_noted (level.Repeat ss e) s =
    ap (λ r. in_all (map (λ a. (a, spec.in_stat a)) ss) ++ r) (one (expr e)) ∙ behind stat ss (expr e ∷ [])
stat_noted (level.StatKind::If arms None) s = behind arm arms []
stat_noted (level.StatKind::If arms (Some ss)) s =
    ap (λ r. in_all (map (λ a. (a, spec.in_arm a)) arms) ++ r) (one (block [] ss)) ∙ behind arm arms (block [] ss ∷ [])
stat_noted (level.NumFor t x y None ss) s =
    ap (λ r. spec.in_expr x ++ (spec.in_expr y ++ r)) (one (block (visible s.declared (t ∷ [])) ss))
stat_noted (level.NumFor t x y (Some e) ss) s =
    ap (λ r. spec.in_expr x ++ (spec.in_expr y ++ (spec.in_expr e ++ r))) (one (block (visible s.declared (t ∷ [])) ss))
stat_noted (level.GenFor ts es ss) s =
    ap (λ r. in_all (map (λ a. (a, spec.in_expr a)) es) ++ r) (one (block (visible s.declared ts) ss)) ∙ behind expr es (block (visible s.declared ts) ss ∷ [])
stat_noted (level.LocalFunction t f) s = one (function f)
stat_noted (level.Return es) s = list expr es
stat_noted level.Break s = refl
stat_noted level.Continue s = refl

pub part_noted : (p : Part) (s : Sight) → noted p ≡ own p ++ all_noted (in_part p s).parts
part_noted (expr e) s = levels.expr_is e ∙ levels.kind_is e.kind ∙ kind_noted (out-ExprKind e.kind)
part_noted (stat x) s = levels.stat_is x ∙ levels.stat_kind_is x.kind ∙ stat_noted (out-StatKind x.kind) s
part_noted (function f) s = ap (λ l. own_entry f ++ l) (levels.func_is f ∙ list stat (out-FuncBody f).body)
part_noted (arm a) s = levels.arm_is a ∙ two (expr (out-Arm a).cond) (block [] (out-Arm a).body)
part_noted (expr_arm a) s = levels.expr_arm_is a ∙ two (expr a.cond) (expr a.value)
part_noted (field f) s = levels.field_is f ∙ levels.field_kind_is f.kind ∙ field_noted (out-FieldKind f.kind)
part_noted (block names body) s = list stat body
