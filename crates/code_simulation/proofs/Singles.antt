-- Which expressions give one value, by their kinds; and a small body whose run is put together from the parts.
use Rattle.std.proofs.Common.{Bool, true, false, ◌≡◌, ℕ, ◌≤◌, ℤ, List, [], ◌∷◌, Some, refl, ap, ◌∙◌}
use Rattle.byte_text.specs.declared.fixed.StrId.{StrId}
use Rattle.syntax_tree.specs.declared.tree.Expr.{Expr}
use Rattle.syntax_tree.specs.declared.tree.ExprKind.{out-ExprKind}
use Rattle.syntax_tree.specs.declared.tree.ExprKind.TheOpen as level
use Rattle.syntax_tree.specs.declared.tree.Stat.{Stat}
use Rattle.syntax_tree.specs.declared.tree.StatKind.{out-StatKind}
use Rattle.value_model.specs.Values.{Number}
use Rattle.source_meaning.specs.Levels.{ExprLevel}
use Rattle.source_meaning.specs.States as source
use Rattle.source_meaning.specs.Moves as source_moves
use Rattle.source_meaning.specs.Expressions as expressions
use Rattle.op_words.specs.declared.insn.Insn.TheVariants as insn
use Rattle.code_simulation.specs.Slots.{Var, local_at, vars}
use Rattle.code_simulation.specs.Relation.{Setting}
use Rattle.code_simulation.proofs.Along.{CallsGo, Here, Reads}
use Rattle.code_simulation.proofs.Values.{number_constant, constant_same, loads_number, local_same}
use Rattle.code_simulation.proofs.Lists.{IsSingle, single_all, list_last, exact_single}
use Rattle.code_simulation.proofs.Blocks.{outside, BlockRuns, block_none, block_more}
use Rattle.code_simulation.proofs.Statements as statements
use Rattle.code_simulation.proofs.Statements.{return_same}

-- calls and `...` may give many values
abbrev pub gives_one : ExprLevel → Bool
gives_one level.Vararg = false
gives_one (level.ExprKind::Call f args) = false
gives_one (level.Method object x args) = false
gives_one _ = true

false_true : {A : Type 0} → false ≡ true → A
false_true e = cc

single_level : (x : ExprLevel) (e : Expr) → gives_one x ≡ true → (h : source_moves.Here) (k : List source.Frame)
    (env : source.Environment) (w : source.World)
    → expressions.begin_all x e h k env w ≡ source_moves.now (source.Evaluate e) h (source.Only ∷ k) env w
single_level level.Vararg e one h k env w = false_true one
single_level (level.ExprKind::Call f args) e one h k env w = false_true one
single_level (level.Method object x args) e one h k env w = false_true one
single_level x e one h k env w = refl

-- all other expressions give one
pub single_by : (e : Expr) (x : ExprLevel) → out-ExprKind e.kind ≡ x → gives_one x ≡ true → IsSingle e
single_by e x is one h k env w = ap (λ (y : ExprLevel). expressions.begin_all y e h k env w) is ∙ single_level x e one h k env w

-- `local x = n return x`, by a load, a copy and a return
pub small_body : (p : Setting) (most : ℕ) → ((i : ℕ) → i ≤ most → CallsGo p i) → (s1 s2 : Stat) (x : StrId) (e1 e2 : Expr) (n : ℤ)
    (h : Here p most) (m1 m2 m3 : ℕ)
    → out-StatKind s1.kind ≡ level.Local (x ∷ []) (e1 ∷ []) → out-ExprKind e1.kind ≡ level.Num n
    → out-StatKind s2.kind ≡ level.Return (e2 ∷ []) → out-ExprKind e2.kind ≡ level.Name x
    → Reads p most h 0 (insn.LoadN 0 n) m1 → Reads p most h m1 (insn.Move 1 0) m2 → Reads p most h m2 (insn.Return 1 2) m3
    → ((c : ℕ) → local_at (Var x c false ∷ []) x ≡ Some (record { register = 0; cell = c; captured = false }))
    → BlockRuns p most (s1 ∷ s2 ∷ []) h [] outside 0 m3 (λ l. Unit {0})
small_body p most calls s1 s2 x e1 e2 n h m1 m2 m3 k1 k2 k3 k4 r1 r2 r3 found =
    block_more p most s1 (s2 ∷ []) h [] outside 0 m1 m3 (λ c. vars (λ r. false) (x ∷ []) c []) (λ l. Unit {0})
    (statements.local_same p most s1 (x ∷ []) (e1 ∷ []) (λ r. false) h [] outside 0 m1 k1
    (exact_single p most e1 0 h [] 0 m1 m1 (single_by e1 (level.Num n) k2 refl)
    (constant_same p most e1 (Number n) h [] 0 m1 (number_constant p.texts e1 n k2) (loads_number r1)) refl))
    (λ c. block_more p most s2 [] h (Var x c false ∷ []) outside m1 m3 m3 (λ c. []) (λ l. Unit {0})
    (return_same p most calls s2 (e2 ∷ []) 2 h (Var x c false ∷ []) outside m1 m2 m3 (λ c. []) k3
    (list_last p most e2 2 (λ vs. vs) h (Var x c false ∷ []) m1 m2
    (single_all p most e2 h (Var x c false ∷ []) m1 m2 (single_by e2 (level.Name x) k4 refl)
    (local_same p most e2 x (record { register = 0; cell = c; captured = false }) h (Var x c false ∷ []) m1 m2 k4 (found c) r2))) r3)
    (λ c2. block_none p most h [] outside m3 (λ l. Unit {0}) tt))
