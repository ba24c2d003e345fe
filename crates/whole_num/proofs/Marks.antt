-- A text without its `_`, part by part.
use Rattle.std.proofs.Common.{◌≡◌, ℕ, zero, suc, ◌+◌, ◌<◌, ◌≢◌, true, false, cond, not, nat_eq, List, [], ◌∷◌, ◌++◌, length, take, drop, get_or, sym, ap, ◌∙◌, arith, append-nil, add-one}
use Rattle.std.proofs.lemmas.List.{take-append-drop}
use Rattle.std.proofs.lemmas.List.Elements.{filter_more, filter-append}
use Rattle.std.proofs.lemmas.Bool.Decides.{nat_tests}
use Rattle.whole_num.specs.Literals.{without_marks}

is_mark : (b : ℕ) → b ≡ 95 → not (nat_eq b 95) ≡ false
is_mark b e = ap (λ x. not (nat_eq x 95)) e

no_mark : (b : ℕ) → b ≢ 95 → not (nat_eq b 95) ≡ true
no_mark b ne = grind (arith, nat_tests)

-- a `_` more
pub marks_skip : (xs : List ℕ) (i : ℕ) → i < length xs → get_or xs i 0 ≡ 95 → without_marks (take (i + 1) xs) ≡ without_marks (take i xs)
marks_skip xs i less e =
    filter_more (λ b. not (nat_eq b 95)) xs i 0 less
    ∙ ap (λ t. without_marks (take i xs) ++ cond t (get_or xs i 0 ∷ []) []) (is_mark (get_or xs i 0) e)
    ∙ append-nil (without_marks (take i xs))

-- a byte more
pub marks_take : (xs : List ℕ) (i : ℕ) → i < length xs → get_or xs i 0 ≢ 95 → without_marks (take (i + 1) xs) ≡ without_marks (take i xs) ++ (get_or xs i 0 ∷ [])
marks_take xs i less ne =
    filter_more (λ b. not (nat_eq b 95)) xs i 0 less
    ∙ ap (λ t. without_marks (take i xs) ++ cond t (get_or xs i 0 ∷ []) []) (no_mark (get_or xs i 0) ne)

-- a front and what follows it
pub marks_split : (xs : List ℕ) (i : ℕ) → without_marks xs ≡ without_marks (take i xs) ++ without_marks (drop i xs)
marks_split xs i = ap without_marks (sym (take-append-drop i xs)) ∙ filter-append (λ b. not (nat_eq b 95)) (take i xs) (drop i xs)

head_first : (xs : List ℕ) (i : ℕ) → i < length xs → get_or xs i 0 ≢ 95 → without_marks (drop i xs) ≡ get_or xs i 0 ∷ without_marks (drop (suc i) xs)
head_first [] i less ne = absurd (omega arith)
head_first (x ∷ xs) zero less ne = ap (λ t. cond t (x ∷ without_marks xs) (without_marks xs)) (no_mark x ne)
head_first (x ∷ xs) (suc i) less ne = head_first xs i (omega arith) ne

-- a byte and what follows it
pub marks_head : (xs : List ℕ) (i : ℕ) → i < length xs → get_or xs i 0 ≢ 95 → without_marks (drop i xs) ≡ get_or xs i 0 ∷ without_marks (drop (i + 1) xs)
marks_head xs i less ne = rw add-one (head_first xs i less ne)
