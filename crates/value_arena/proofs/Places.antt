-- What stands at the place of a key.
use Rattle.std.proofs.Common.{◌≡◌, ℕ, zero, suc, ◌+◌, Bool, true, false, cond, List, [], ◌∷◌, ◌++◌, drop, Some, None, Option, slice_get, refl, sym, ◌∙◌, ap, rules, arith}
use Rattle.std_collections.proofs.HashLookup.{IsFirst, IsAbsent}
use Rattle.indexmap.specs.IndexMap.{set_value_at}
use Rattle.std.specs.Map.{lookup}
use Rattle.value_model.specs.Pairs as pairs

module _ {V : Type 0} (same : V → V → Bool) (is_nil : V → Bool) (nil : V) where
  pub found_value : (key : V) (es : List (V × V)) (i : ℕ) (e : V × V) → IsFirst (same key) es i → slice_get es i ≡ Some e → e.1 ≡ pairs.value_under same is_nil nil es key
  found_value key [] i e h s = absurd h
  found_value key (d ∷ es) zero e h s = search (rules, h, s)
  found_value key (d ∷ es) (suc i) e h s = found_value key es i e h.1 s ∙ sym (ap (λ b. cond b d.1 (pairs.value_under same is_nil nil es key)) h.0)

  pub absent_value : (key : V) (es : List (V × V)) → IsAbsent (same key) es → pairs.value_under same is_nil nil es key ≡ nil
  absent_value key [] h = refl
  absent_value key (d ∷ es) h = ap (λ b. cond b d.1 (pairs.value_under same is_nil nil es key)) h.0 ∙ absent_value key es h.1

  pub found_written : (key v : V) (es : List (V × V)) (i : ℕ) → IsFirst (same key) es i → set_value_at es i v ≡ pairs.written same is_nil nil es key v
  found_written key v [] i h = absurd h
  found_written key v (d ∷ es) zero h = sym (ap (λ b. cond b ((d.0, v) ∷ es) (d ∷ pairs.written same is_nil nil es key v)) h)
  found_written key v (d ∷ es) (suc i) h = ap (λ l. d ∷ l) (found_written key v es i h.1) ∙ sym (ap (λ b. cond b ((d.0, v) ∷ es) (d ∷ pairs.written same is_nil nil es key v)) h.0)

  pub absent_written : (key v : V) (es : List (V × V)) → IsAbsent (same key) es → pairs.written same is_nil nil es key v ≡ cond (is_nil v) es (es ++ (key, v) ∷ [])
  absent_written key v [] h = refl
  absent_written key v (d ∷ es) h =
      ap (λ b. cond b ((d.0, v) ∷ es) (d ∷ pairs.written same is_nil nil es key v)) h.0
      ∙ ap (λ l. d ∷ l) (absent_written key v es h.1) ∙ pull (is_nil v)
    where
      pull : (b : Bool) → d ∷ cond b es (es ++ (key, v) ∷ []) ≡ cond b (d ∷ es) (d ∷ (es ++ (key, v) ∷ []))
      pull true = refl
      pull false = refl

  pub found_after : (key : V) (es : List (V × V)) (i : ℕ) → IsFirst (same key) es i → pairs.entry_after same is_nil nil es key ≡ Some (pairs.first_entry same is_nil nil (drop (suc i) es))
  found_after key [] i h = absurd h
  found_after key (d ∷ es) zero h = ap (λ b. cond b (Some (pairs.first_entry same is_nil nil es)) (pairs.entry_after same is_nil nil es key)) h
  found_after key (d ∷ es) (suc i) h = ap (λ b. cond b (Some (pairs.first_entry same is_nil nil es)) (pairs.entry_after same is_nil nil es key)) h.0 ∙ found_after key es i h.1

  pub absent_after : (key : V) (es : List (V × V)) → IsAbsent (same key) es → pairs.entry_after same is_nil nil es key ≡ None
  absent_after key [] h = refl
  absent_after key (d ∷ es) h = ap (λ b. cond b (Some (pairs.first_entry same is_nil nil es)) (pairs.entry_after same is_nil nil es key)) h.0 ∙ absent_after key es h.1

pub entry_of_drop : {A : Type 0} (es : List A) (i : ℕ) (e : A) → slice_get es i ≡ Some e → drop i es ≡ e ∷ drop (i + 1) es
entry_of_drop [] i e h = cc
entry_of_drop (d ∷ es) zero e h = let same : d ≡ e = cc in ap (λ d. d ∷ es) same
entry_of_drop (d ∷ es) (suc i) e h =
    let more : suc (i + 1) ≡ suc i + 1 = omega arith in
    entry_of_drop es i e h ∙ ap (λ n. e ∷ drop n (d ∷ es)) more

module _ {V : Type 0} (same : V → V → Bool) (is_nil : V → Bool) (nil : V) where
  abbrev pub or_nil : Option V → V
  or_nil None = nil
  or_nil (Some v) = v

  pub looked_up : (key : V) (es : List (V × V)) → pairs.value_under same is_nil nil es key ≡ or_nil (lookup (same key) es)
  looked_up key [] = refl
  looked_up key (d ∷ es) = by (same key d.0) (looked_up key es)
    where
      by : (b : Bool) → pairs.value_under same is_nil nil es key ≡ or_nil (lookup (same key) es) → cond b d.1 (pairs.value_under same is_nil nil es key) ≡ or_nil (cond b (Some d.1) (lookup (same key) es))
      by true rest = refl
      by false rest = rest

  pub value_of_lookup : (key : V) (es : List (V × V)) (r : Option V) → lookup (same key) es ≡ r → pairs.value_under same is_nil nil es key ≡ or_nil r
  value_of_lookup key es r e = looked_up key es ∙ ap or_nil e
