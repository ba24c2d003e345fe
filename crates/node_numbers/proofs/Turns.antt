-- Lists whose parts are numbered one by one.
use Rattle.std.proofs.Common.{◌≡◌, ◌∙◌, ◌<◌, ◌≤◌, ◌+◌, append_assoc, ℕ, List, [], ◌∷◌, ◌++◌, length, drop, get_or, sym, ap}
use Rattle.std.proofs.lemmas.List.{append-nil, at_drop_all, at_drop_more}
use Rattle.syntax_tree.specs.Numbers.{Numbering}
use Rattle.node_numbers.specs.Parts.{Gives, numbered_list}

-- the parts, and the next free number
abbrev pub with : {A : Type 0} → ℕ → List A → List A × ℕ
with next parts = (parts, next)

-- what a list gives whose first parts gave these, with what its other parts give
abbrev pub joined : {A : Type 0} → List A → List A × ℕ → List A × ℕ
joined done rest = with rest.1 (done ++ rest.0)

-- what a list gives whose first parts gave these, with the parts that are left and the next free number
abbrev pub after : {A : Type 0} → (A → Numbering A) → List A → List A → ℕ → List A × ℕ
after f done left n = joined done (numbered_list f left n)

-- a part, and then the others
abbrev pub first : {A : Type 0} → (A → Numbering A) → List A → List A → A × ℕ → List A × ℕ
first f done rest part = joined done (part.0 ∷ (numbered_list f rest part.1).0, (numbered_list f rest part.1).1)

-- one part more
pub turn : {A : Type 0} (f : A → Numbering A) (xs : List A) (i : ℕ) (d : A) (done new : List A) (n m : ℕ) (x : A) (all : List A × ℕ) → i < length xs → Gives (f (get_or xs i d)) n x m → new ≡ done ++ x ∷ [] → all ≡ after f done (drop i xs) n → all ≡ after f new (drop (i + 1) xs) m
turn f xs i d done new n m x all lt e p h =
    let rest = drop (i + 1) xs in
    let others = numbered_list f rest m in
    let left : after f done (drop i xs) n ≡ first f done rest (f (get_or xs i d) n) = at_drop_more (λ l. after f done l n) xs i d lt in
    let part : first f done rest (f (get_or xs i d) n) ≡ with others.1 (done ++ x ∷ others.0) = ap (first f done rest) e in
    let moved : with others.1 (done ++ x ∷ others.0) ≡ with others.1 ((done ++ x ∷ []) ++ others.0) = ap (with others.1) (sym (append_assoc done (x ∷ []) others.0)) in
    let named : with others.1 ((done ++ x ∷ []) ++ others.0) ≡ after f new rest m = ap (λ l. with others.1 (l ++ others.0)) (sym p) in
    h ∙ left ∙ part ∙ moved ∙ named

-- all parts
pub last : {A : Type 0} (f : A → Numbering A) (xs : List A) (i : ℕ) (done : List A) (n : ℕ) (all : List A × ℕ) → length xs ≤ i → all ≡ after f done (drop i xs) n → all ≡ (done, n)
last f xs i done n all le h =
    let nothing : after f done (drop i xs) n ≡ with n (done ++ []) = at_drop_all (λ l. after f done l n) xs i le in
    h ∙ nothing ∙ ap (with n) (append-nil done)
