-- A function of what is left of a list, at a loop's turn and at its end.
use Rattle.std.proofs.Common.{◌≡◌, ◌∙◌, ◌<◌, ◌≤◌, ◌+◌, ℕ, List, [], ◌∷◌, length, drop, get_or, sym, ap}
use Rattle.std.proofs.lemmas.List.{at_drop_more, at_drop_all}

pub at_turn : {X : Type 0} {Y : Type 0} (F : List X → Y) (xs : List X) (i : ℕ) (x : X) (r : Y) → i < length xs → x ≡ get_or xs i x → F (drop i xs) ≡ r → F (x ∷ drop (i + 1) xs) ≡ r
at_turn F xs i x r lt h p = ap (λ y. F (y ∷ drop (i + 1) xs)) h ∙ sym (at_drop_more F xs i x lt) ∙ p

pub at_end : {X : Type 0} {Y : Type 0} (F : List X → Y) (xs : List X) (i : ℕ) → length xs ≤ i → F (drop i xs) ≡ F []
at_end F xs i le = at_drop_all F xs i le
