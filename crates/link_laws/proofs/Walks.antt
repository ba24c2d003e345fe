-- The parts of a numbered tree, one behind the other; and rules of which none is broken.
use Rattle.std.proofs.Common.{◌≡◌, ℕ, ◌≤◌, List, [], ◌∷◌, ◌++◌, refl, arith}
use Rattle.scope_laws.specs.Sight.{Sight, Part, expr, stat, function, arm, expr_arm, field, block, in_part, nothing}
use Rattle.scope_laws.proofs.Walks.{Walk, HasNumber, inner, done, passed}

-- the parts of a list and those behind them
pub record Cut (n : ℕ) (ps qs : List Part) (m : ℕ) : Type 0 where
  pub k : ℕ
  pub first : Walk n ps k
  pub rest : Walk k qs m

-- one part, what is in it, and what stands behind it
pub record First (n : ℕ) (p : Part) (ps : List Part) (m : ℕ) : Type 0 where
  pub k : ℕ
  pub number : HasNumber p n
  pub inside : (s : Sight) → Walk (inner p n) (in_part p s).parts k
  pub rest : Walk k ps m

pub first : {n m : ℕ} {p : Part} {ps : List Part} → Walk n (p ∷ ps) m → First n p ps m
first (passed n k m p ps number inside rest) = record { k = k; number = number; inside = inside; rest = rest }

pub cut : (ps qs : List Part) {n m : ℕ} → Walk n (ps ++ qs) m → Cut n ps qs m
cut [] qs {n} w = record { k = n; first = done n; rest = w }
cut (p ∷ ps) qs {n} w =
    let f = first w in
    let c = cut ps qs f.rest in
    record { k = c.k; first = passed n f.k c.k p ps f.number f.inside c.first; rest = c.rest }

inner_le : (p : Part) (n : ℕ) → n ≤ inner p n
inner_le (expr e) n = omega arith
inner_le (stat s) n = omega arith
inner_le (function f) n = omega arith
inner_le (arm a) n = omega arith
inner_le (expr_arm a) n = omega arith
inner_le (field f) n = omega arith
inner_le (block names body) n = omega arith

pub walk_le : {n m : ℕ} {ps : List Part} → Walk n ps m → n ≤ m
walk_le (done n) = omega arith
walk_le (passed n k m p ps number inside rest) =
    let a = inner_le p n in
    let b = walk_le (inside nothing) in
    let c = walk_le rest in
    omega (arith, a, b, c)

pub walk_end : {n m : ℕ} → Walk n [] m → n ≡ m
walk_end (done n) = refl

-- ---- none of two lists

pub left : {A : Type 0} (xs ys : List A) → xs ++ ys ≡ [] → xs ≡ []
left [] ys e = refl
left (x ∷ xs) ys e = cc

pub right : {A : Type 0} (xs ys : List A) → xs ++ ys ≡ [] → ys ≡ []
right [] ys e = e
right (x ∷ xs) ys e = cc
