-- Opening brackets between two places.
use Rattle.std.proofs.Common.{◌≡◌, ◌≤◌, ◌<◌, ◌+◌, ℕ, zero, suc, List, IsTrue, ◌⊎◌, inl, inr, ap, subst, arith}
use Rattle.std.specs.Prelude.{if◌then◌else◌}
use Rattle.std.proofs.lemmas.Bool.{cases_lt}
use Rattle.syntax_tree.specs.declared.token.Token.{Token}
use Rattle.syntax_tree.specs.Places.{kind_at}
use Rattle.type_skip.specs.Brackets.{opens_bracket, brackets}

behind_sum : (a b : ℕ) → b ≤ a + b
behind_sum a b = omega arith

one_place : (ts : List Token) (k : ℕ) → brackets ts k ≤ brackets ts (suc k)
one_place ts k = behind_sum (if opens_bracket (kind_at ts k) then 1 else 0) (brackets ts k)

-- no fewer stand before a later place
pub brackets_grow : (ts : List Token) (i j : ℕ) → i ≤ j → brackets ts i ≤ brackets ts j
brackets_grow ts i j le = by_cases j (cases_lt i j) le
  where
    by_cases : (j : ℕ) → (i < j) ⊎ (j ≤ i) → i ≤ j → brackets ts i ≤ brackets ts j
    by_cases zero (inl less) le = absurd (omega (arith, less))
    by_cases (suc j) (inl less) le =
        let rest : brackets ts i ≤ brackets ts j = by_cases j (cases_lt i j) (omega (arith, less)) in
        omega (arith, rest, one_place ts j)
    by_cases j (inr more) le =
        let e : i ≡ j = omega (arith, le, more) in
        subst (λ (x : ℕ). brackets ts i ≤ brackets ts x) e (omega arith)

-- one more stands behind a bracket
pub bracket_counts : (ts : List Token) (i k at : ℕ) → i ≤ k → k < at → IsTrue (opens_bracket (kind_at ts k)) → brackets ts i + 1 ≤ brackets ts at
bracket_counts ts i k at le less h =
    let one : brackets ts (suc k) ≡ 1 + brackets ts k = ap (λ b. (if b then 1 else 0) + brackets ts k) h in
    let before : brackets ts i ≤ brackets ts k = brackets_grow ts i k le in
    let behind : brackets ts (suc k) ≤ brackets ts at = brackets_grow ts (suc k) at (omega (arith, less)) in
    omega (arith, before, one, behind)

-- the same, up to the bracket itself
pub bracket_here : (ts : List Token) (i k : ℕ) → i ≤ k → IsTrue (opens_bracket (kind_at ts k)) → brackets ts i + 0 < brackets ts (k + 1)
bracket_here ts i k le h = omega (arith, bracket_counts ts i k (k + 1) le (omega arith) h)
