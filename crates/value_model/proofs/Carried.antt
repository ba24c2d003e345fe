-- A table of values that a program keeps and that of the values that they mean do the same, function by function: where sameness,
-- nil and numbers are the same on both sides for all values that fit.
use Rattle.std.proofs.Common.{◌≡◌, ℕ, zero, suc, ℤ, pos, Bool, true, false, cond, List, [], ◌∷◌, map, length, Some, refl, ap, sym, ◌∙◌}
use Rattle.std.specs.Prelude.{option_map}
use Rattle.value_model.specs.Pairs as pairs

-- both parts of a pair
abbrev pub of_pair : {V W : Type 0} → (V → W) → V × V → W × W
of_pair h e = (h e.0, h e.1)

-- all values in pairs fit
abbrev pub AllFit : {V : Type 0} → (V → Type 0) → List (V × V) → Type 0
AllFit Fits [] = Unit {0}
AllFit Fits (e ∷ es) = Fits e.0 × Fits e.1 × AllFit Fits es

module _ {V W : Type 0} (same : V → V → Bool) (is_nil : V → Bool) (nil : V) (same' : W → W → Bool) (is_nil' : W → Bool) (nil' : W) (h : V → W) (Fits : V → Type 0) (same_kept : (a b : V) → Fits a → Fits b → same' (h a) (h b) ≡ same a b) (nil_kept : (a : V) → is_nil' (h a) ≡ is_nil a) (nil_is : h nil ≡ nil') where
  pub under_kept : (es : List (V × V)) (key : V) → AllFit Fits es → Fits key → pairs.value_under same' is_nil' nil' (map (of_pair h) es) (h key) ≡ h (pairs.value_under same is_nil nil es key)
  under_kept [] key f k = sym nil_is
  under_kept (e ∷ es) key f k =
      ap (λ b. cond b (h e.1) (pairs.value_under same' is_nil' nil' (map (of_pair h) es) (h key))) (same_kept key e.0 k f.0)
      ∙ by (same key e.0) (under_kept es key f.2 k)
    where
      by : (b : Bool) → pairs.value_under same' is_nil' nil' (map (of_pair h) es) (h key) ≡ h (pairs.value_under same is_nil nil es key) → cond b (h e.1) (pairs.value_under same' is_nil' nil' (map (of_pair h) es) (h key)) ≡ h (cond b e.1 (pairs.value_under same is_nil nil es key))
      by true ih = refl
      by false ih = ih

  pub written_kept : (es : List (V × V)) (key v : V) → AllFit Fits es → Fits key → pairs.written same' is_nil' nil' (map (of_pair h) es) (h key) (h v) ≡ map (of_pair h) (pairs.written same is_nil nil es key v)
  written_kept [] key v f k = ap (λ b. cond b [] ((h key, h v) ∷ [])) (nil_kept v) ∙ by (is_nil v)
    where
      by : (b : Bool) → cond b [] ((h key, h v) ∷ []) ≡ map (of_pair h) (cond b [] ((key, v) ∷ []))
      by true = refl
      by false = refl
  written_kept (e ∷ es) key v f k =
      ap (λ b. cond b ((h e.0, h v) ∷ map (of_pair h) es) (of_pair h e ∷ pairs.written same' is_nil' nil' (map (of_pair h) es) (h key) (h v))) (same_kept key e.0 k f.0)
      ∙ by (same key e.0) (written_kept es key v f.2 k)
    where
      by : (b : Bool) → pairs.written same' is_nil' nil' (map (of_pair h) es) (h key) (h v) ≡ map (of_pair h) (pairs.written same is_nil nil es key v) → cond b ((h e.0, h v) ∷ map (of_pair h) es) (of_pair h e ∷ pairs.written same' is_nil' nil' (map (of_pair h) es) (h key) (h v)) ≡ map (of_pair h) (cond b ((e.0, v) ∷ es) (e ∷ pairs.written same is_nil nil es key v))
      by true ih = refl
      by false ih = ap (λ l. of_pair h e ∷ l) ih

  pub first_kept : (es : List (V × V)) → pairs.first_entry same' is_nil' nil' (map (of_pair h) es) ≡ option_map (of_pair h) (pairs.first_entry same is_nil nil es)
  first_kept [] = refl
  first_kept (e ∷ es) =
      ap (λ b. cond b (pairs.first_entry same' is_nil' nil' (map (of_pair h) es)) (Some (of_pair h e))) (nil_kept e.1)
      ∙ by (is_nil e.1) (first_kept es)
    where
      by : (b : Bool) → pairs.first_entry same' is_nil' nil' (map (of_pair h) es) ≡ option_map (of_pair h) (pairs.first_entry same is_nil nil es) → cond b (pairs.first_entry same' is_nil' nil' (map (of_pair h) es)) (Some (of_pair h e)) ≡ option_map (of_pair h) (cond b (pairs.first_entry same is_nil nil es) (Some e))
      by true ih = ih
      by false ih = refl

  pub after_kept : (es : List (V × V)) (key : V) → AllFit Fits es → Fits key → pairs.entry_after same' is_nil' nil' (map (of_pair h) es) (h key) ≡ option_map (option_map (of_pair h)) (pairs.entry_after same is_nil nil es key)
  after_kept [] key f k = refl
  after_kept (e ∷ es) key f k =
      ap (λ b. cond b (Some (pairs.first_entry same' is_nil' nil' (map (of_pair h) es))) (pairs.entry_after same' is_nil' nil' (map (of_pair h) es) (h key))) (same_kept key e.0 k f.0)
      ∙ by (same key e.0) (after_kept es key f.2 k)
    where
      by : (b : Bool) → pairs.entry_after same' is_nil' nil' (map (of_pair h) es) (h key) ≡ option_map (option_map (of_pair h)) (pairs.entry_after same is_nil nil es key) → cond b (Some (pairs.first_entry same' is_nil' nil' (map (of_pair h) es))) (pairs.entry_after same' is_nil' nil' (map (of_pair h) es) (h key)) ≡ option_map (option_map (of_pair h)) (cond b (Some (pairs.first_entry same is_nil nil es)) (pairs.entry_after same is_nil nil es key))
      by true ih = ap (λ o. Some o) (first_kept es)
      by false ih = ih

  pub next_kept : (es : List (V × V)) (key : V) → AllFit Fits es → Fits key → pairs.next_entry same' is_nil' nil' (map (of_pair h) es) (h key) ≡ option_map (option_map (of_pair h)) (pairs.next_entry same is_nil nil es key)
  next_kept es key f k =
      ap (λ b. cond b (Some (pairs.first_entry same' is_nil' nil' (map (of_pair h) es))) (pairs.entry_after same' is_nil' nil' (map (of_pair h) es) (h key))) (nil_kept key)
      ∙ by (is_nil key)
    where
      by : (b : Bool) → cond b (Some (pairs.first_entry same' is_nil' nil' (map (of_pair h) es))) (pairs.entry_after same' is_nil' nil' (map (of_pair h) es) (h key)) ≡ option_map (option_map (of_pair h)) (cond b (Some (pairs.first_entry same is_nil nil es)) (pairs.entry_after same is_nil nil es key))
      by true = ap (λ o. Some o) (first_kept es)
      by false = after_kept es key f k

module _ {V W : Type 0} (same : V → V → Bool) (is_nil : V → Bool) (nil : V) (number : ℤ → V) (same' : W → W → Bool) (is_nil' : W → Bool) (nil' : W) (number' : ℤ → W) (h : V → W) (Fits : V → Type 0) (same_kept : (a b : V) → Fits a → Fits b → same' (h a) (h b) ≡ same a b) (nil_kept : (a : V) → is_nil' (h a) ≡ is_nil a) (nil_is : h nil ≡ nil') (number_is : (z : ℤ) → h (number z) ≡ number' z) (number_fits : (z : ℤ) → Fits (number z)) where
  pub item_kept : (es : List (V × V)) (k : ℤ) → AllFit Fits es → pairs.item same' is_nil' nil' number' (map (of_pair h) es) k ≡ h (pairs.item same is_nil nil number es k)
  item_kept es k f =
      ap (λ key. pairs.value_under same' is_nil' nil' (map (of_pair h) es) key) (sym (number_is k))
      ∙ under_kept same is_nil nil same' is_nil' nil' h Fits same_kept nil_kept nil_is es (number k) f (number_fits k)

  border_from_kept : (more : ℕ) (es : List (V × V)) (k : ℕ) → AllFit Fits es → pairs.border_from same' is_nil' nil' number' more (map (of_pair h) es) k ≡ pairs.border_from same is_nil nil number more es k
  border_from_kept zero es k f = refl
  border_from_kept (suc more) es k f =
      ap (λ b. cond b k (pairs.border_from same' is_nil' nil' number' more (map (of_pair h) es) (suc k))) (ap is_nil' (item_kept es (pos (suc k)) f) ∙ nil_kept (pairs.item same is_nil nil number es (pos (suc k))))
      ∙ ap (λ r. cond (is_nil (pairs.item same is_nil nil number es (pos (suc k)))) k r) (border_from_kept more es (suc k) f)

  length_kept : (es : List (V × V)) → length (map (of_pair h) es) ≡ length es
  length_kept [] = refl
  length_kept (e ∷ es) = ap (λ n. suc n) (length_kept es)

  pub border_kept : (es : List (V × V)) → AllFit Fits es → pairs.border same' is_nil' nil' number' (map (of_pair h) es) ≡ pairs.border same is_nil nil number es
  border_kept es f =
      ap (λ n. pairs.border_from same' is_nil' nil' number' n (map (of_pair h) es) 0) (length_kept es)
      ∙ border_from_kept (length es) es 0 f
