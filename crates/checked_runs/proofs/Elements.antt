-- Lists of which each element has something, and values that exist.
use Rattle.std.proofs.Common.{◌≡◌, ℕ, zero, suc, ◌<◌, ◌≤◌, List, [], ◌∷◌, ◌++◌, length, take, drop, reverse, get_or, set, Option, Some, None, arith, subst}
use mathlib.Core.List.{reverse_aux}
use Rattle.std.specs.Prelude.{slice_get, MatchOption}
use Rattle.value_model.specs.Values.{Value, Nil, Boolean, Number, Text, Table, Closure, Native, Host, Wrap, Thread}
use Rattle.checked_runs.specs.Safe.{Each, IsMade, AreMade}

module _ {X : Type 0} (P : X → Type 0) where
  pub each_at : (xs : List X) (i : ℕ) (x : X) → Each P xs → slice_get xs i ≡ Some x → P x
  each_at [] i x e g = absurd cc
  each_at (y ∷ xs) zero x e g = let same : y ≡ x = cc in subst P same e.0
  each_at (y ∷ xs) (suc i) x e g = each_at xs i x e.1 g

  pub each_or : (xs : List X) (i : ℕ) (d : X) → Each P xs → P d → P (get_or xs i d)
  each_or [] i d e f = f
  each_or (y ∷ xs) zero d e f = e.0
  each_or (y ∷ xs) (suc i) d e f = each_or xs i d e.1 f

  pub each_within : (xs : List X) (i : ℕ) (d : X) → i < length xs → Each P xs → P (get_or xs i d)
  each_within [] i d l e = absurd (omega arith)
  each_within (y ∷ xs) zero d l e = e.0
  each_within (y ∷ xs) (suc i) d l e = each_within xs i d (omega arith) e.1

  pub each_set : (xs : List X) (i : ℕ) (x : X) → Each P xs → P x → Each P (set xs i x)
  each_set [] i x e f = tt
  each_set (y ∷ xs) zero x e f = (f, e.1)
  each_set (y ∷ xs) (suc i) x e f = (e.0, each_set xs i x e.1 f)

  pub each_append : (xs ys : List X) → Each P xs → Each P ys → Each P (xs ++ ys)
  each_append [] ys e f = f
  each_append (x ∷ xs) ys e f = (e.0, each_append xs ys e.1 f)

  pub each_take : (k : ℕ) (xs : List X) → Each P xs → Each P (take k xs)
  each_take zero xs e = tt
  each_take (suc k) [] e = tt
  each_take (suc k) (x ∷ xs) e = (e.0, each_take k xs e.1)

  pub each_drop : (k : ℕ) (xs : List X) → Each P xs → Each P (drop k xs)
  each_drop zero xs e = e
  each_drop (suc k) [] e = tt
  each_drop (suc k) (x ∷ xs) e = each_drop k xs e.1

pub each_map : {X : Type 0} (P Q : X → Type 0) → ((x : X) → P x → Q x) → (xs : List X) → Each P xs → Each Q xs
each_map P Q h [] e = tt
each_map P Q h (x ∷ xs) e = (h x e.0, each_map P Q h xs e.1)

each_onto : {X : Type 0} (P : X → Type 0) → (xs ys : List X) → Each P xs → Each P ys → Each P (reverse_aux xs ys)
each_onto P [] ys e f = f
each_onto P (x ∷ xs) ys e f = each_onto P xs (x ∷ ys) e.1 (e.0, f)

pub each_reverse : {X : Type 0} (P : X → Type 0) → (xs : List X) → Each P xs → Each P (reverse xs)
each_reverse P xs e = each_onto P xs [] e tt

-- ---- values

pub made_more : (n m : ℕ) → n ≤ m → (v : Value) → IsMade n v → IsMade m v
made_more n m le Nil i = tt
made_more n m le (Boolean b) i = tt
made_more n m le (Number z) i = tt
made_more n m le (Text t) i = tt
made_more n m le (Table t) i = tt
made_more n m le (Closure f) i = omega arith
made_more n m le (Native b) i = tt
made_more n m le (Host f) i = tt
made_more n m le (Wrap f) i = i
made_more n m le (Thread f) i = i

pub are_made_more : (n m : ℕ) → n ≤ m → (vs : List Value) → AreMade n vs → AreMade m vs
are_made_more n m le vs e = each_map (IsMade n) (IsMade m) (made_more n m le) vs e

pub option_more : {X : Type 0} (P Q : X → Type 0) → ((x : X) → P x → Q x) → (o : Option X) → MatchOption o (Unit {0}) P → MatchOption o (Unit {0}) Q
option_more P Q h None e = tt
option_more P Q h (Some x) e = h x e
