-- What a table of pairs gives after a write.
use Rattle.std.proofs.Common.{◌≡◌, Bool, true, false, cond, List, [], ◌∷◌, refl, ap, sym, subst}
use Rattle.value_model.specs.Pairs.{value_under, written}

module _ {V : Type 0} (same : V → V → Bool) (is_nil : V → Bool) (nil : V) (same_is : (a b : V) → same a b ≡ true → a ≡ b) (same_refl : (a : V) → same a a ≡ true) (nil_is : (v : V) → is_nil v ≡ true → v ≡ nil) where
  -- what was written is there, nil too
  pub written_here : (es : List (V × V)) (key v : V) → value_under same is_nil nil (written same is_nil nil es key v) key ≡ v
  written_here [] key v = by (is_nil v) refl
    where
      by : (b : Bool) → is_nil v ≡ b → value_under same is_nil nil (cond b [] ((key, v) ∷ [])) key ≡ v
      by true e = sym (nil_is v e)
      by false e = rw (same_refl key) refl
  written_here (e ∷ es) key v = by (same key e.0) refl (written_here es key v)
    where
      by : (b : Bool) → same key e.0 ≡ b → value_under same is_nil nil (written same is_nil nil es key v) key ≡ v → value_under same is_nil nil (cond b ((e.0, v) ∷ es) (e ∷ written same is_nil nil es key v)) key ≡ v
      by true d ih = rw d refl
      by false d ih = rw d ih

  -- under another key all stays
  pub written_else : (es : List (V × V)) (key v other : V) → same other key ≡ false → value_under same is_nil nil (written same is_nil nil es key v) other ≡ value_under same is_nil nil es other
  written_else [] key v other ne = by (is_nil v)
    where
      by : (b : Bool) → value_under same is_nil nil (cond b [] ((key, v) ∷ [])) other ≡ nil
      by true = refl
      by false = rw ne refl
  written_else (e ∷ es) key v other ne = by (same key e.0) refl (written_else es key v other ne)
    where
      by : (b : Bool) → same key e.0 ≡ b → value_under same is_nil nil (written same is_nil nil es key v) other ≡ value_under same is_nil nil es other → value_under same is_nil nil (cond b ((e.0, v) ∷ es) (e ∷ written same is_nil nil es key v)) other ≡ value_under same is_nil nil (e ∷ es) other
      by true d ih = let apart : same other e.0 ≡ false = subst (λ k. same other k ≡ false) (same_is key e.0 d) ne in rw apart refl
      by false d ih = ap (λ w. cond (same other e.0) e.1 w) ih
