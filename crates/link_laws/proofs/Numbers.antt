-- Ranges of labels: those of the nodes from one number up to another, four for each.
use Rattle.std.proofs.Common.{◌≡◌, refl, ap, ℕ, ◌+◌, ◌*◌, ◌-◌, ◌<◌, ◌≤◌, ◌^◌, Bool, true, false, arith, nat_eq, nat_lt, if◌then◌else◌}
use Rattle.std.proofs.lemmas.Bool.Decides.{nat_tests}
use Rattle.emit_expr.specs.Puts.{label}
use Rattle.link_laws.proofs.Items.{hits}

-- 1 where the label is below the number, else 0
unfoldable pub below : ℕ → ℕ → ℕ
below a l = if nat_lt l a then 1 else 0

-- 1 where the label is one of the nodes from n up to below m, else 0
unfoldable pub span : (n m l : ℕ) → ℕ
span n m l = below (m * 4) l - below (n * 4) l

-- the same, where of node n's own labels only the first counts
abbrev pub zone : (n m l : ℕ) → ℕ
zone n m l = hits (n * 4 + 0) l + span (n + 1) m l

abbrev pub none : (l : ℕ) → ℕ
none l = 0

pub below_le : (a b l : ℕ) → a ≤ b → below a l ≤ below b l
unfolding below
below_le a b l le = which (nat_lt l a) (nat_lt l b) refl refl
  where
    which : (s t : Bool) → nat_lt l a ≡ s → nat_lt l b ≡ t → (if s then 1 else 0) ≤ (if t then 1 else 0)
    which true true p q = omega arith
    which false true p q = omega arith
    which false false p q = omega arith
    which true false p q = absurd (grind (arith, nat_tests, p, q, le))

pub below_next : (a l : ℕ) → hits a l + below a l ≡ below (a + 1) l
unfolding below hits
below_next a l = which (nat_eq a l) (nat_lt l a) (nat_lt l (a + 1)) refl refl refl
  where
    which : (s t u : Bool) → nat_eq a l ≡ s → nat_lt l a ≡ t → nat_lt l (a + 1) ≡ u → (if s then 1 else 0) + (if t then 1 else 0) ≡ (if u then 1 else 0)
    which true true u p q r = absurd (grind (arith, nat_tests, p, q))
    which true false true p q r = refl
    which true false false p q r = absurd (grind (arith, nat_tests, p, q, r))
    which false true true p q r = refl
    which false true false p q r = absurd (grind (arith, nat_tests, p, q, r))
    which false false true p q r = absurd (grind (arith, nat_tests, p, q, r))
    which false false false p q r = refl

pub below_one : (a l : ℕ) → below a l ≤ 1
unfolding below
below_one a l = which (nat_lt l a)
  where
    which : (s : Bool) → (if s then 1 else 0) ≤ 1
    which true = omega arith
    which false = omega arith

-- all labels of a node, and those of the nodes behind it
pub own_all : (n m l : ℕ) → n < m → hits (n * 4 + 0) l + hits (n * 4 + 1) l + hits (n * 4 + 2) l + hits (n * 4 + 3) l + span (n + 1) m l ≡ span n m l
unfolding span
own_all n m l lt =
    let a = below_next (n * 4 + 0) l in
    let b = below_next (n * 4 + 1) l in
    let c = below_next (n * 4 + 2) l in
    let e = below_next (n * 4 + 3) l in
    let p : below (n * 4 + 0) l ≡ below (n * 4) l = ap (λ x. below x l) (omega arith) in
    let q : below (n * 4 + 0 + 1) l ≡ below (n * 4 + 1) l = ap (λ x. below x l) (omega arith) in
    let r : below (n * 4 + 1 + 1) l ≡ below (n * 4 + 2) l = ap (λ x. below x l) (omega arith) in
    let s : below (n * 4 + 2 + 1) l ≡ below (n * 4 + 3) l = ap (λ x. below x l) (omega arith) in
    let t : below (n * 4 + 3 + 1) l ≡ below ((n + 1) * 4) l = ap (λ x. below x l) (omega arith) in
    let last = below_le ((n + 1) * 4) (m * 4) l (omega (arith, lt)) in
    omega (arith, a, b, c, e, p, q, r, s, t, last)

pub span_join : (n k m l : ℕ) → n ≤ k → k ≤ m → span n k l + span k m l ≡ span n m l
unfolding span
span_join n k m l le le' =
    let a = below_le (n * 4) (k * 4) l (omega (arith, le)) in
    let b = below_le (k * 4) (m * 4) l (omega (arith, le')) in
    omega (arith, a, b)

pub zone_span : (n m l : ℕ) → n < m → zone n m l ≤ span n m l
zone_span n m l lt = let all = own_all n m l lt in omega (arith, all)

pub zone_next : (n m l : ℕ) → n < m → zone n m l + hits (n * 4 + 1) l ≤ span n m l
zone_next n m l lt = let all = own_all n m l lt in omega (arith, all)

pub span_one : (n m l : ℕ) → span n m l ≤ 1
unfolding span
span_one n m l = let a = below_one (m * 4) l in omega (arith, a)

-- the number of a label, where there are not too many nodes
pub label_is : (node spot : ℕ) → node < 2 ^ 62 → spot ≤ 3 → label node spot ≡ node * 4 + spot
label_is node spot lt le = omega (arith, lt, le)
