-- The entries of a table that are not nil can be those of another.
use Rattle.std.proofs.Common.{◌≡◌, ℕ, zero, suc, ◌+◌, ◌<◌, Bool, true, false, not, cond, [], ◌∷◌, ◌++◌, length, take, get_or, None, refl, sym, ◌∙◌, ap, subst, arith}
use Rattle.std.proofs.lemmas.List.{take_more}
use Rattle.std.specs.List.{AllByRecursion, IsDistinct}
use Rattle.std.specs.Map.{keys_of}
use Rattle.std_collections.proofs.HashLookup.{IsAbsent}
use Rattle.indexmap.proofs.MapLemmas.{index-absent}
use Rattle.value_model.specs.declared.value.Value.{Value}
use Rattle.value_model.specs.declared.value.Value.TheVariants as value
use Rattle.value_arena.specs.Tables.{Entries, HasKeys, IsKey, TableView, same, is_nil, place_of}
use Rattle.value_arena.proofs.Sameness.{value_is, is_value}
use Rattle.table_lists.specs.Lists.{filled, AreFilled}

-- ---- keys that differ

clash : false ≡ true → ⊥
clash e = absurd (cc)

apart : (a b : Value) → same a b ≡ false → same b a ≡ false
apart a b h = by (same b a) refl
  where
    by : (c : Bool) → same b a ≡ c → c ≡ false
    by true e = absurd (clash (sym h ∙ is_value a b (sym (value_is b a e))))
    by false e = refl

rest_at : (P : Value → Type 0) (es : Entries) (i : ℕ) (e : Value × Value) → AllByRecursion P (keys_of es) → i < length es → e ≡ get_or es i e → P e.0
rest_at P [] i e h l at = absurd (omega (arith, l))
rest_at P (d ∷ es) zero e h l at = subst (λ (e : Value × Value). P e.0) (sym at) h.0
rest_at P (d ∷ es) (suc i) e h l at = rest_at P es i e h.1 (omega (arith, l)) at

absent_front : (es : Entries) (i : ℕ) (e : Value × Value) → IsDistinct same (keys_of es) → i < length es → e ≡ get_or es i e → IsAbsent (same e.0) (take i es)
unfolding IsDistinct
absent_front [] i e h l at = absurd (omega (arith, l))
absent_front (d ∷ es) zero e h l at = tt
absent_front (d ∷ es) (suc i) e h l at = (apart d.0 e.0 (rest_at (λ y. same d.0 y ≡ false) es i e h.0 (omega (arith, l)) at), absent_front es i e h.1 (omega (arith, l)) at)

-- the key of an entry does not stand before it
pub new_at : (es us : Entries) (i : ℕ) (e : Value × Value) → AreFilled es → i < length es → e ≡ get_or es i e → us ≡ take i es → place_of e.0 us ≡ None
new_at es us i e h l at is = ap (place_of e.0) is ∙ index-absent (same e.0) (take i es) (absent_front es i e h.1 l at)

each_at : (P : Value × Value → Type 0) (es : Entries) (i : ℕ) (e : Value × Value) → AllByRecursion P es → i < length es → e ≡ get_or es i e → P e
each_at P [] i e h l at = absurd (omega (arith, l))
each_at P (d ∷ es) zero e h l at = subst P (sym at) h.0
each_at P (d ∷ es) (suc i) e h l at = each_at P es i e h.1 (omega (arith, l)) at

pub full_at : (es : Entries) (i : ℕ) (e : Value × Value) → AreFilled es → i < length es → e ≡ get_or es i e → (is_nil e.0 ≡ false) × (is_nil e.1 ≡ false)
full_at es i e h l at = each_at (λ e. (is_nil e.0 ≡ false) × (is_nil e.1 ≡ false)) es i e h.0 l at

-- one entry more
pub entries_more : (t u now : TableView) (es : Entries) (i : ℕ) (e : Value × Value) → i < length es → e ≡ get_or es i e → t ≡ record u { entries = take i es } → now ≡ record t { entries = t.entries ++ e ∷ [] } → now ≡ record u { entries = take (i + 1) es }
entries_more t u now es i e l at h is =
    is
    ∙ ap (λ (t : TableView). record t { entries = t.entries ++ e ∷ [] }) h
    ∙ ap (λ d. record u { entries = take i es ++ d ∷ [] }) at
    ∙ ap (λ es. record u { entries = es }) (sym (take_more es i e l))

-- ---- the entries of a table that are not nil

full_key : (v : Value) → IsKey v → is_nil v ≡ false
full_key value.Nil h = absurd h
full_key _ h = refl

filled_full : (es : Entries) → HasKeys es → AllByRecursion (λ e. (is_nil e.0 ≡ false) × (is_nil e.1 ≡ false)) (filled es)
filled_full [] h = tt
filled_full (e ∷ es) h = by (is_nil e.1) refl (filled_full es h.1)
  where
    by : (b : Bool) → is_nil e.1 ≡ b → AllByRecursion (λ e. (is_nil e.0 ≡ false) × (is_nil e.1 ≡ false)) (filled es) → AllByRecursion (λ e. (is_nil e.0 ≡ false) × (is_nil e.1 ≡ false)) (cond (not b) (e ∷ filled es) (filled es))
    by true is rest = rest
    by false is rest = ((full_key e.0 h.0, is), rest)

keys_filled : (P : Value → Type 0) (es : Entries) → AllByRecursion P (keys_of es) → AllByRecursion P (keys_of (filled es))
keys_filled P [] h = tt
keys_filled P (e ∷ es) h = by (is_nil e.1) (keys_filled P es h.1)
  where
    by : (b : Bool) → AllByRecursion P (keys_of (filled es)) → AllByRecursion P (keys_of (cond (not b) (e ∷ filled es) (filled es)))
    by true rest = rest
    by false rest = (h.0, rest)

distinct_filled : (es : Entries) → IsDistinct same (keys_of es) → IsDistinct same (keys_of (filled es))
unfolding IsDistinct
distinct_filled [] h = tt
distinct_filled (e ∷ es) h = by (is_nil e.1) (distinct_filled es h.1)
  where
    by : (b : Bool) → IsDistinct same (keys_of (filled es)) → IsDistinct same (keys_of (cond (not b) (e ∷ filled es) (filled es)))
    by true rest = rest
    by false rest = (keys_filled (λ y. same e.0 y ≡ false) es h.0, rest)

pub are_filled : (us es : Entries) → us ≡ filled es → HasKeys es → IsDistinct same (keys_of es) → AreFilled us
are_filled us es is h d = subst AreFilled (sym is) (filled_full es h, distinct_filled es d)
