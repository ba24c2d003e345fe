-- The labels of the code: each is placed once, and each branch leads to one that is placed.
use Rattle.std.proofs.Common.{◌≡◌, List, map, Option, sym, ap, ℕ, ◌<◌, ◌≤◌, [], ◌∷◌, length, Bool, true, false, Some, refl, arith, ◌+◌, ◌++◌, subst, IsSome, nat_eq, if◌then◌else◌}
use Rattle.std.specs.Prelude.{IsTrue}
use Rattle.std.specs.List.{AllByRecursion, IsDistinct}
use Rattle.std.proofs.lemmas.Bool.{eq-eqb}
use Rattle.std.proofs.lemmas.Bool.Decides.{nat_tests}
use Rattle.op_words.specs.declared.insn.Insn.{Insn}
use Rattle.op_words.specs.Encoding.{encoded}
use Rattle.code_link.specs.declared.item.Item.TheVariants as item
use Rattle.code_link.specs.declared.item.Item.{Item}
use Rattle.code_link.specs.Labels.{is_jump, word_count, place_in, labels, AreJumps, IsLinkable}
use Rattle.syntax_tree.specs.Limits.{most_bulk}
use Rattle.built_emitter.specs.Emitted.{HasLabels, placements, below, BranchesBelow}

-- ---- one label
pub below_zero : (l : ℕ) → below 0 l ≡ 0
below_zero l = grind (arith, nat_tests)

pub one_more : (n l : ℕ) → (if nat_eq n l then 1 else 0) + below n l ≡ below (n + 1) l
one_more n l = grind (arith, nat_tests)

pub next_more : (n m l : ℕ) → m ≡ n + 1 → (if nat_eq n l then 1 else 0) + below n l ≡ below m l
next_more n m l e = subst (λ k. (if nat_eq n l then 1 else 0) + below n l ≡ below k l) (sym e) (one_more n l)

pub below_one : (n l : ℕ) → below n l ≤ 1
below_one n l = grind (arith, nat_tests)

pub is_below : (n l : ℕ) → l < n → below n l ≡ 1
is_below n l h = grind (arith, nat_tests)

-- ---- pieces of code
pub placements-append : (is js : List Item) (l : ℕ) → placements (is ++ js) l ≡ placements is l + placements js l
placements-append [] js l = omega arith
placements-append (item.Insn i ∷ is) js l = placements-append is js l
placements-append (item.Branch i m ∷ is) js l = placements-append is js l
placements-append (item.Label m ∷ is) js l = omega (arith, placements-append is js l)

pub branches-append : (n : ℕ) (is js : List Item) → BranchesBelow n is → BranchesBelow n js → BranchesBelow n (is ++ js)
branches-append n [] js p q = q
branches-append n (item.Insn i ∷ is) js p q = branches-append n is js p q
branches-append n (item.Branch i l ∷ is) js p q = (p.0, p.1, branches-append n is js p.2 q)
branches-append n (item.Label l ∷ is) js p q = branches-append n is js p q

pub branches_more : (n m : ℕ) (is : List Item) → n ≤ m → BranchesBelow n is → BranchesBelow m is
branches_more n m [] le p = tt
branches_more n m (item.Insn i ∷ is) le p = branches_more n m is le p
branches_more n m (item.Branch i l ∷ is) le p = (p.0, omega (arith, p.1), branches_more n m is le p.2)
branches_more n m (item.Label l ∷ is) le p = branches_more n m is le p

pub labels_none : (n : ℕ) → HasLabels n n []
labels_none n = record { rises = omega arith; placed = λ l. omega arith; branches = tt }

no_placements : (is : List Insn) (l : ℕ) → placements (map item.Insn is) l ≡ 0
no_placements [] l = refl
no_placements (i ∷ is) l = no_placements is l

no_branches : (n : ℕ) (is : List Insn) → BranchesBelow n (map item.Insn is)
no_branches n [] = tt
no_branches n (i ∷ is) = no_branches n is

pub labels_insns : (n : ℕ) (is : List Insn) → HasLabels n n (map item.Insn is)
labels_insns n is = record { rises = omega arith; placed = λ l. omega (arith, no_placements is l); branches = no_branches n is }

pub labels_on : (a b c : ℕ) (is js : List Item) → HasLabels a b is → HasLabels b c js → HasLabels a c (is ++ js)
labels_on a b c is js p q = record {
  rises = omega (arith, p.rises, q.rises);
  placed = λ l. omega (arith, placements-append is js l, p.placed l, q.placed l);
  branches = branches-append c is js (branches_more b c is q.rises p.branches) q.branches;
}

-- a branch to a label that there is
pub labels_branch : (n label : ℕ) (i : Insn) → IsTrue (is_jump i) → label < n → HasLabels n n (item.Branch i label ∷ [])
labels_branch n label i jump lt = record { rises = omega arith; placed = λ l. omega arith; branches = (jump, lt, tt) }

-- ---- the whole code
abbrev one_if : Bool → ℕ
one_if b = if b then 1 else 0

not_placed : (is : List Item) (l : ℕ) → placements is l ≡ 0 → AllByRecursion (λ m. nat_eq l m ≡ false) (labels is)
not_placed [] l h = tt
not_placed (item.Insn i ∷ is) l h = not_placed is l h
not_placed (item.Branch i m ∷ is) l h = not_placed is l h
not_placed (item.Label m ∷ is) l h = (grind (arith, nat_tests), not_placed is l (omega arith))

once : (is : List Item) → ((l : ℕ) → placements is l ≤ 1) → IsDistinct nat_eq (labels is)
unfolding IsDistinct
once [] h = tt
once (item.Insn i ∷ is) h = once is h
once (item.Branch i m ∷ is) h = once is h
once (item.Label m ∷ is) h =
    let here : one_if (nat_eq m m) ≡ 1 = ap one_if (eq-eqb m m refl) in
    (not_placed is m (omega (arith, h m)), once is (λ l. omega (arith, h l)))

place_of : (m l from : ℕ) (t : Bool) (rest : ℕ) (later : Option ℕ) → nat_eq m l ≡ t → one_if (nat_eq m l) + rest ≡ 1 →
    (rest ≡ 1 → IsSome later) → IsSome (if nat_eq m l then Some from else later)
place_of m l from true rest later e h some = rw e refl
place_of m l from false rest later e h some =
    let none : one_if (nat_eq m l) ≡ 0 = ap one_if e in
    rw e (some (omega arith))

has_place : (is : List Item) (from l : ℕ) → placements is l ≡ 1 → IsSome (place_in is from l)
has_place [] from l h = absurd (omega arith)
has_place (item.Insn i ∷ is) from l h = has_place is (from + length (encoded i)) l h
has_place (item.Branch i m ∷ is) from l h = has_place is (from + length (encoded i)) l h
has_place (item.Label m ∷ is) from l h =
    place_of m l from (nat_eq m l) (placements is l) (place_in is from l) refl h (λ g. has_place is from l g)

are_jumps : (n : ℕ) (place : ℕ → Option ℕ) (is : List Item) → ((l : ℕ) → l < n → IsSome (place l)) → BranchesBelow n is → AreJumps place is
are_jumps n place [] h b = tt
are_jumps n place (item.Insn i ∷ is) h b = are_jumps n place is h b
are_jumps n place (item.Branch i l ∷ is) h b = (b.0, h l b.1, are_jumps n place is h b.2)
are_jumps n place (item.Label l ∷ is) h b = are_jumps n place is h b

pub linkable : (n : ℕ) (is : List Item) → HasLabels 0 n is → word_count is ≤ most_bulk → IsLinkable is
linkable n is h short = record {
  once = once is (λ l. omega (arith, h.placed l, below_one n l));
  jumps = are_jumps n (place_in is 0) is (λ l lt. has_place is 0 l (omega (arith, h.placed l, below_zero l, is_below n l lt))) h.branches;
  short = omega (arith, short);
}
