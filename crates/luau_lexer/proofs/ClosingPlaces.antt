-- Where a bracket closes: at the first place that passes the test.
use Rattle.std.proofs.Common.{◌≡◌, ℕ, suc, ◌+◌, ◌<◌, Bool, true, false, cond, List, ◌∷◌, length, get_or, drop, Option, Some, None, option_map, refl, sym, ap, ◌∙◌, arith, add-one, drop-cons}
use Rattle.syntax_tree.specs.Gaps.{bracket_level, is_level, closing_place}

-- what is found k bytes behind the front is found that much further from before it
abbrev pub shifted : ℕ → Option ℕ → Option ℕ
shifted i o = option_map (λ k. k + i) o

pub shifted-zero : (o : Option ℕ) → o ≡ shifted 0 o
shifted-zero None = refl
shifted-zero (Some k) = ap Some (omega arith)

shifted-more : (i : ℕ) (o : Option ℕ) → shifted i (option_map (λ k. k + 1) o) ≡ shifted (i + 1) o
shifted-more i None = refl
shifted-more i (Some k) = ap Some (omega arith)

at_front : (level b : ℕ) (bs : List ℕ) (t : Bool) → is_level level (bracket_level 93 (b ∷ bs)) ≡ t → closing_place level (b ∷ bs) ≡ cond t (Some 0) (option_map (λ k. k + 1) (closing_place level bs))
at_front level b bs t is = ap (λ v. cond v (Some 0) (option_map (λ k. k + 1) (closing_place level bs))) is

at_place : (level i : ℕ) (bytes : List ℕ) (t : Bool) → i < length bytes → is_level level (bracket_level 93 (drop i bytes)) ≡ t → closing_place level (drop i bytes) ≡ cond t (Some 0) (option_map (λ k. k + 1) (closing_place level (drop (i + 1) bytes)))
at_place level i bytes t less is =
    let front = drop-cons bytes i 0 less in
    rw (add-one, front)
    (at_front level (get_or bytes i 0) (drop (suc i) bytes) t (ap (λ l. is_level level (bracket_level 93 l)) (sym front) ∙ is))

pub closes_here : (level i : ℕ) (bytes : List ℕ) → i < length bytes → is_level level (bracket_level 93 (drop i bytes)) ≡ true → closing_place level bytes ≡ shifted i (closing_place level (drop i bytes)) → closing_place level bytes ≡ Some i
closes_here level i bytes less is so_far = so_far ∙ ap (shifted i) (at_place level i bytes true less is) ∙ ap Some (omega arith)

pub closes_later : (level i : ℕ) (bytes : List ℕ) → i < length bytes → is_level level (bracket_level 93 (drop i bytes)) ≡ false → closing_place level bytes ≡ shifted i (closing_place level (drop i bytes)) → closing_place level bytes ≡ shifted (i + 1) (closing_place level (drop (i + 1) bytes))
closes_later level i bytes less is so_far =
    so_far
    ∙ ap (shifted i) (at_place level i bytes false less is)
    ∙ shifted-more i (closing_place level (drop (i + 1) bytes))
