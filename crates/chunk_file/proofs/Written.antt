-- What is written one after another: the bytes of a number, and the items of a list.
use Rattle.std.proofs.Common.{◌≡◌, ℕ, zero, suc, ◌+◌, ◌/◌, ◌%◌, ◌^◌, ◌<◌, ◌≤◌, Bool, List, [], ◌∷◌, ◌++◌, length, map, get_or, refl, sym, ◌∙◌, ap, subst, arith, append_assoc, if◌then◌else◌}
use Rattle.std.proofs.Math.Nat.{pow-succ'}
use Rattle.std.proofs.lemmas.Bool.{lt-ltb, le-ltb}
use Rattle.std.specs.List.{AllByRecursion}
use Rattle.chunk_file.specs.Spelling.{number, number_within}

-- what is left of a number is written behind what is out
pub record NumberSoFar (start out : List ℕ) (n left : ℕ) : Type 0 where
  pub most : ℕ
  pub small : left < 128 ^ suc most
  pub so_far : out ++ number_within (suc most) left ≡ start ++ number n

pub number_starts : (out : List ℕ) (n : ℕ) → n < 2 ^ 32 → NumberSoFar out out n n
unfolding number
number_starts out n h = record { most = 4; small = omega arith; so_far = refl }

abbrev last_or : Bool → ℕ → List ℕ → List ℕ
last_or b n more = if b then n ∷ [] else more

pub number_ends : (start out : List ℕ) (n left : ℕ) → left < 128 → NumberSoFar start out n left → out ++ left ∷ [] ≡ start ++ number n
number_ends start out n left h s =
    ap (λ b. out ++ last_or b left ((left % 128 + 128) ∷ number_within s.most (left / 128))) (sym (lt-ltb left 128 h)) ∙ s.so_far

further : (start out : List ℕ) (n left most : ℕ) → 128 ≤ left → left < 128 ^ suc most → out ++ number_within (suc most) left ≡ start ++ number n
    → NumberSoFar start (out ++ (left % 128 + 128) ∷ []) n (left / 128)
further start out n left zero h small so_far = absurd (omega arith)
further start out n left (suc most) h small so_far =
    let power = pow-succ' 128 (suc most) in
    record {
      most = most;
      small = omega arith;
      so_far = append_assoc out ((left % 128 + 128) ∷ []) (number_within (suc most) (left / 128))
          ∙ ap (λ b. out ++ last_or b left ((left % 128 + 128) ∷ number_within (suc most) (left / 128))) (sym (le-ltb left 128 h))
          ∙ so_far;
    }

pub number_more : (start out after : List ℕ) (n left : ℕ) → 128 ≤ left → after ≡ out ++ (left % 128 + 128) ∷ [] → NumberSoFar start out n left
    → NumberSoFar start after n (left / 128)
number_more start out after n left h e s =
    subst (λ o. NumberSoFar start o n (left / 128)) (sym e) (further start out n left s.most h s.small s.so_far)

-- what holds of each item that a list is mapped to holds of the one at a place
pub mapped_at : {A B : Type 0} (P : B → Type 0) (f : A → B) (xs : List A) (i : ℕ) (x : A) → x ≡ get_or xs i x → i < length xs
    → AllByRecursion P (map f xs) → P (f x)
mapped_at P f [] i x e h all = absurd (omega arith)
mapped_at P f (y ∷ ys) zero x e h all = subst (λ z. P (f z)) (sym e) all.0
mapped_at P f (y ∷ ys) (suc i) x e h all = mapped_at P f ys i x e (omega arith) all.1
