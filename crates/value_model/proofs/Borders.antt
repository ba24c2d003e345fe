-- The border is the least number behind which there is nil.
use Rattle.std.proofs.Common.{◌≡◌, ◌≢◌, ℕ, zero, suc, ◌+◌, ◌<◌, ◌≤◌, ◌⊎◌, ℤ, pos, Bool, true, false, cond, List, [], ◌∷◌, length, refl, ap, ◌∙◌, sym, inl, inr, arith}
use Rattle.std.proofs.Math.Nat.{eq-or-lt_of_le}
use Rattle.value_model.specs.Pairs.{value_under, item, border_from, border}

module _ {V : Type 0} (same : V → V → Bool) (is_nil : V → Bool) (nil : V) (number : ℤ → V) (same_is : (a b : V) → same a b ≡ true → a ≡ b) (nil_is : is_nil nil ≡ true) (one_number : (a b : ℕ) → number (pos a) ≡ number (pos b) → a ≡ b) where
  -- below the number there is a value under each number from 1 on, and behind it nil
  pub record IsBorder (es : List (V × V)) (b : ℕ) : Type 0 where
    pub below : (k : ℕ) → k < b → is_nil (item same is_nil nil number es (pos (suc k))) ≡ false
    pub behind : is_nil (item same is_nil nil number es (pos (suc b))) ≡ true

  -- a key that is one number is no other
  other_number : (v : V) (a b : ℕ) → a ≢ b → same (number (pos a)) v ≡ true → (t : Bool) → same (number (pos b)) v ≡ t → t ≡ false
  other_number v a b ne e false d = refl
  other_number v a b ne e true d = absurd (ne (one_number a b (same_is (number (pos a)) v e ∙ sym (same_is (number (pos b)) v d))))

  -- the pairs without the first that has a key
  without : List (V × V) → V → List (V × V)
  without [] key = []
  without (e ∷ es) key = cond (same key e.0) es (e ∷ without es key)

  still : (es : List (V × V)) (a b : ℕ) → a ≢ b → value_under same is_nil nil (without es (number (pos a))) (number (pos b)) ≡ value_under same is_nil nil es (number (pos b))
  unfolding without
  still [] a b ne = refl
  still (e ∷ es) a b ne = by (same (number (pos a)) e.0) refl (still es a b ne)
    where
      by : (t : Bool) → same (number (pos a)) e.0 ≡ t → value_under same is_nil nil (without es (number (pos a))) (number (pos b)) ≡ value_under same is_nil nil es (number (pos b)) → value_under same is_nil nil (cond t es (e ∷ without es (number (pos a)))) (number (pos b)) ≡ value_under same is_nil nil (e ∷ es) (number (pos b))
      by true d ih = let f = other_number e.0 a b ne d (same (number (pos b)) e.0) refl in rw f refl
      by false d ih = ap (λ v. cond (same (number (pos b)) e.0) e.1 v) ih

  shorter : (es : List (V × V)) (k : V) → is_nil (value_under same is_nil nil es k) ≡ false → length es ≡ suc (length (without es k))
  unfolding without
  shorter [] k h = absurd (differ (sym nil_is ∙ h))
    where
      differ : true ≡ false → ⊥
      differ e = cc
  shorter (e ∷ es) k h = by (same k e.0) h (shorter es k)
    where
      by : (t : Bool) → is_nil (cond t e.1 (value_under same is_nil nil es k)) ≡ false → (is_nil (value_under same is_nil nil es k) ≡ false → length es ≡ suc (length (without es k))) → length (e ∷ es) ≡ suc (length (cond t es (e ∷ without es k)))
      by true h ih = refl
      by false h ih = ap (λ n. suc n) (ih h)

  -- so many numbers from 1 on with values need as many pairs
  enough : (n : ℕ) (es : List (V × V)) → ((k : ℕ) → k < n → is_nil (item same is_nil nil number es (pos (suc k))) ≡ false) → n ≤ length es
  enough zero es h = omega arith
  enough (suc n) es h =
      let s = shorter es (number (pos (suc n))) (h n (omega arith)) in
      let ih = enough n (without es (number (pos (suc n)))) (λ k l. ap is_nil (still es (suc n) (suc k) (differ k l)) ∙ h k (omega (arith, l))) in
      omega (arith, s, ih)
    where
      differ : (k : ℕ) → k < n → suc n ≢ suc k
      differ k l e = omega (arith, l, e)

  below_suc : (es : List (V × V)) (k : ℕ) → ((j : ℕ) → j < k → is_nil (item same is_nil nil number es (pos (suc j))) ≡ false) → is_nil (item same is_nil nil number es (pos (suc k))) ≡ false → (j : ℕ) → j < suc k → is_nil (item same is_nil nil number es (pos (suc j))) ≡ false
  below_suc es k h e j l = by (eq-or-lt_of_le (le_of l))
    where
      le_of : j < suc k → j ≤ k
      le_of l = omega (arith, l)

      by : (j ≡ k) ⊎ (j < k) → is_nil (item same is_nil nil number es (pos (suc j))) ≡ false
      by (inl p) = rw p e
      by (inr l) = h j l

  next_border : (es : List (V × V)) (k r : ℕ) → ((j : ℕ) → j < k → is_nil (item same is_nil nil number es (pos (suc j))) ≡ false) → (is_nil (item same is_nil nil number es (pos (suc k))) ≡ false → IsBorder es r) → (x : Bool) → is_nil (item same is_nil nil number es (pos (suc k))) ≡ x → IsBorder es (cond x k r)
  next_border es k r h rest true d = record { below = h; behind = d }
  next_border es k r h rest false d = rest d

  last_by : (es : List (V × V)) (k : ℕ) → length es ≤ k → ((j : ℕ) → j < k → is_nil (item same is_nil nil number es (pos (suc j))) ≡ false) → (x : Bool) → is_nil (item same is_nil nil number es (pos (suc k))) ≡ x → x ≡ true
  last_by es k l h true d = refl
  last_by es k l h false d = let e = enough (suc k) es (below_suc es k h d) in absurd (omega (arith, l, e))

  found : (more : ℕ) (es : List (V × V)) (k : ℕ) → length es ≤ k + more → ((j : ℕ) → j < k → is_nil (item same is_nil nil number es (pos (suc j))) ≡ false) → IsBorder es (border_from same is_nil nil number more es k)
  found zero es k l h = record { below = h; behind = last_by es k (omega (arith, l)) h (is_nil (item same is_nil nil number es (pos (suc k)))) refl }
  found (suc more) es k l h =
      next_border es k (border_from same is_nil nil number more es (suc k)) h (λ d. found more es (suc k) (omega (arith, l)) (below_suc es k h d)) (is_nil (item same is_nil nil number es (pos (suc k)))) refl

  pub border_is_least : (es : List (V × V)) → IsBorder es (border same is_nil nil number es)
  border_is_least es = found (length es) es 0 (omega arith) (λ j l. absurd (omega (arith, l)))
