-- Whole tables: entry after entry.
use Rattle.std.proofs.Common.{◌≡◌, ℕ, zero, suc, ◌+◌, ◌<◌, ◌≤◌, Bool, true, false, not, cond, [], ◌∷◌, ◌++◌, length, map, take, Some, slice_get, refl, sym, ◌∙◌, ap, arith, add-one}
use Rattle.std.proofs.lemmas.List.{take_all, append-nil}
use Rattle.std.proofs.lemmas.List.Elements.{filter_more}
use Rattle.std.proofs.lemmas.Option.{get_or_from_slice_get}
use Rattle.indexmap.specs.IndexMap.{set_value_at}
use Rattle.value_model.specs.declared.value.Value.{Value}
use Rattle.value_model.specs.declared.value.Value.TheVariants.{Nil}
use Rattle.value_arena.specs.Tables.{Entries, is_nil}
use Rattle.table_lists.specs.Lists.{filled}

-- ---- nil under the first keys

pub cleared_front : ℕ → Entries → Entries
cleared_front zero es = es
cleared_front (suc n) [] = []
cleared_front (suc n) (e ∷ es) = (e.0, Nil) ∷ cleared_front n es

pub front_none : (es : Entries) → cleared_front 0 es ≡ es
unfolding cleared_front
front_none es = refl

pub front_more : (n : ℕ) (es : Entries) → set_value_at (cleared_front n es) n Nil ≡ cleared_front (n + 1) es
unfolding cleared_front
front_more n es = by n es ∙ ap (λ n. cleared_front n es) (sym (add-one n))
  where
    by : (n : ℕ) (es : Entries) → set_value_at (cleared_front n es) n Nil ≡ cleared_front (suc n) es
    by zero [] = refl
    by zero (e ∷ es) = refl
    by (suc n) [] = refl
    by (suc n) (e ∷ es) = ap (λ es. (e.0, Nil) ∷ es) (by n es)

pub front_length : (n : ℕ) (es : Entries) → length (cleared_front n es) ≡ length es
unfolding cleared_front
front_length zero es = refl
front_length (suc n) [] = refl
front_length (suc n) (e ∷ es) = ap suc (front_length n es)

pub front_all : (n : ℕ) (es : Entries) → length es ≤ n → cleared_front n es ≡ map (λ e. (e.0, Nil)) es
unfolding cleared_front
front_all zero [] h = refl
front_all zero (e ∷ es) h = absurd (omega (arith, h))
front_all (suc n) [] h = refl
front_all (suc n) (e ∷ es) h = ap (λ es. (e.0, Nil) ∷ es) (front_all n es (omega (arith, h)))

-- ---- the entries that are not nil

abbrev is_filled : Value × Value → Bool
is_filled e = not (is_nil e.1)

pub filled_more : (es : Entries) (i : ℕ) (e : Value × Value) (b : Bool) → i < length es → slice_get es i ≡ Some e → is_nil e.1 ≡ b → filled (take (i + 1) es) ≡ cond b (filled (take i es)) (filled (take i es) ++ e ∷ [])
filled_more es i e b l at is =
    filter_more is_filled es i e l
    ∙ ap (λ x. filled (take i es) ++ cond (is_filled x) (x ∷ []) []) (get_or_from_slice_get es i e e at)
    ∙ ap (λ b. filled (take i es) ++ cond (not b) (e ∷ []) []) is
    ∙ by b
  where
    by : (b : Bool) → filled (take i es) ++ cond (not b) (e ∷ []) [] ≡ cond b (filled (take i es)) (filled (take i es) ++ e ∷ [])
    by true = append-nil (filled (take i es))
    by false = refl

pub filled_all : (es : Entries) (n : ℕ) → length es ≤ n → filled (take n es) ≡ filled es
filled_all es n h = ap filled (take_all n es h)
