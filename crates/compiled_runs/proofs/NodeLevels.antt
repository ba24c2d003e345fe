-- The code of a node, and the registers that it needs, by those of its parts.
use Rattle.std.proofs.Common.{◌≡◌, ℕ, max, List, [], ◌∷◌, map, refl, ap, ap₂, ◌∙◌, length}
use Rattle.syntax_tree.specs.declared.bindings.Bindings.{Bindings}
use Rattle.syntax_tree.specs.declared.tree.Arm.{Arm, out-Arm}
use Rattle.syntax_tree.specs.declared.tree.Expr.{Expr}
use Rattle.syntax_tree.specs.declared.tree.ExprKind.{out-ExprKind}
use Rattle.syntax_tree.specs.declared.tree.Stat.{Stat}
use Rattle.syntax_tree.specs.declared.tree.StatKind.{out-StatKind}
use Rattle.syntax_tree.specs.declared.tree.FuncBody.{FuncBody, out-FuncBody}
use Rattle.syntax_tree.specs.Need as need
use Rattle.syntax_tree.specs.Need.{ExprNeed, StatNeed, need_expr, need_stat, need_arm, block_from}
use Rattle.syntax_tree.specs.Rules as rules
use Rattle.syntax_tree.specs.Rules.{StatRules, rules_expr, rules_stat, rules_arm, ◌>>◌}
use Rattle.node_code.specs.Nodes.{ExprCode, StatCode, ArmCode}
use Rattle.node_code.specs.Code as code
use Rattle.node_code.specs.Code.{expr_code, stat_code, arm_code, func_code, func_run}
use Rattle.scope_laws.specs.Sight.{ExprLevel, StatLevel}
use Rattle.scope_laws.proofs.Levels as levels
use Rattle.compiled_runs.proofs.Turns as turns
use Rattle.compiled_runs.proofs.Turns.{any, ends_turn, arm_ends}

-- an expression's code, under its own number
abbrev pub under : ℕ → (ℕ → ExprCode) → ExprCode
under id f = record (f id) { id = id }

pub code_of : (b : Bindings) (e : Expr) (x : ExprLevel) → out-ExprKind e.kind ≡ x
    → expr_code b e ≡ under e.id (levels.at_expr_level (code.steps b) x)
code_of b e x is =
    levels.expr_is (code.steps b) e
    ∙ ap (λ (f : ℕ → ExprCode). under e.id f) (levels.kind_is (code.steps b) e.kind ∙ ap (levels.at_expr_level (code.steps b)) is)

pub need_of : (e : Expr) (x : ExprLevel) → out-ExprKind e.kind ≡ x → need_expr e ≡ levels.at_expr_level need.steps x
need_of e x is = levels.expr_is need.steps e ∙ levels.kind_is need.steps e.kind ∙ ap (levels.at_expr_level need.steps) is

pub stat_code_of : (b : Bindings) (s : Stat) (x : StatLevel) → out-StatKind s.kind ≡ x → stat_code b s ≡ levels.at_stat_level (code.steps b) x s.id
stat_code_of b s x is =
    levels.stat_is (code.steps b) s
    ∙ ap (λ (f : ℕ → StatCode). f s.id) (levels.stat_kind_is (code.steps b) s.kind ∙ ap (levels.at_stat_level (code.steps b)) is)

pub stat_need_of : (s : Stat) (x : StatLevel) → out-StatKind s.kind ≡ x → need_stat s ≡ levels.at_stat_level need.steps x
stat_need_of s x is = levels.stat_is need.steps s ∙ levels.stat_kind_is need.steps s.kind ∙ ap (levels.at_stat_level need.steps) is

pub func_code_of : (b : Bindings) (f : FuncBody) → func_code b f ≡ func_run b (out-FuncBody f).id (length (out-FuncBody f).params)
    (out-FuncBody f).vararg (map (stat_code b) (out-FuncBody f).body)
func_code_of b f = levels.func_is (code.steps b) f

-- the rules that a statement breaks, and whether it ends a turn of the loop around it, by those of its parts
pub stat_rules_of : (s : Stat) (x : StatLevel) → out-StatKind s.kind ≡ x → rules_stat s ≡ levels.at_stat_level rules.steps x s.at
stat_rules_of s x is =
    levels.stat_is rules.steps s
    ∙ ap (λ (f : ℕ → StatRules). f s.at) (levels.stat_kind_is rules.steps s.kind ∙ ap (levels.at_stat_level rules.steps) is)

pub ends_turn_of : (s : Stat) (x : StatLevel) → out-StatKind s.kind ≡ x → ends_turn s ≡ levels.at_stat_level turns.steps x
ends_turn_of s x is = levels.stat_is turns.steps s ∙ levels.stat_kind_is turns.steps s.kind ∙ ap (levels.at_stat_level turns.steps) is

-- the arms of an `if`, by their conditions and blocks
abbrev pub arm_parts : Bindings → Arm → ArmCode
arm_parts b a = record { cond = expr_code b (out-Arm a).cond; body = map (stat_code b) (out-Arm a).body }

pub arms_are : (b : Bindings) (arms : List Arm) → map (arm_code b) arms ≡ map (arm_parts b) arms
arms_are b [] = refl
arms_are b (a ∷ arms) = ap₂ (λ (x : ArmCode) (xs : List ArmCode). x ∷ xs) (levels.arm_is (code.steps b) a) (arms_are b arms)

pub need_arm_of : (a : Arm) → need_arm a ≡ max (need_expr (out-Arm a).cond).need (block_from 0 (map need_stat (out-Arm a).body))
need_arm_of a = levels.arm_is need.steps a

pub rules_arm_of : (a : Arm) → rules_arm a ≡ (rules_expr (out-Arm a).cond >> rules.block (map rules_stat (out-Arm a).body))
rules_arm_of a = levels.arm_is rules.steps a

pub arm_ends_of : (a : Arm) → arm_ends a ≡ any (map ends_turn (out-Arm a).body)
arm_ends_of a = levels.arm_is turns.steps a
