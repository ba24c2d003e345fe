-- What a list of texts has at its places, before and after a text is noted.
use Rattle.std.proofs.Common.{◌≡◌, ℕ, zero, suc, ◌+◌, ◌<◌, ◌≤◌, Bool, true, false, ◌||◌, ◌&&◌, not, List, [], ◌∷◌, ◌++◌, map, length, Option, None, Some, slice_get, get_or, position, if◌then◌else◌, refl, sym, ap, ◌∙◌, ◌⊎◌, inl, inr, arith, true≢false, Vec, Global, zero-add, add-zero, suc-add, length-append}
use Rattle.std.specs.List.{list_any, position_from}
use Rattle.std.specs.Str.{bytes_eq}
use Rattle.std.proofs.lemmas.Iterator.Adapters.{position_from-zero}
use Rattle.std.proofs.lemmas.List.Folds.{list_any-append}
use Rattle.std.proofs.lemmas.List.Quantifiers.{position-Some}
use Rattle.std.proofs.lemmas.List.{map-append, append_assoc}
use Rattle.std.proofs.lemmas.Map.Keys.{any_passes_from_place}
use Rattle.std.proofs.lemmas.Option.{slice_get-map, slice_get-get_or, slice_get_read, same_Some, none-some}
use Rattle.std.proofs.lemmas.Slice.Eq.{bytes_eq-Decides}
use Rattle.indexmap.specs.IndexSet.{insert_key}
use Rattle.byte_text.specs.Texts.{noted, AreDistinct, fixed_texts}

-- the bytes of each vector
abbrev pub items_of : List (Vec ℕ Global) → List (List ℕ)
items_of stored = map (λ v. v.items) stored

-- a place behind the first list is a place in the second
pub slice_get_behind : {X : Type 0} (xs ys : List X) (i : ℕ) → slice_get (xs ++ ys) (length xs + i) ≡ slice_get ys i
slice_get_behind [] ys i = ap (slice_get ys) (zero-add i)
slice_get_behind (x ∷ xs) ys i = ap (slice_get (x ∷ (xs ++ ys))) (suc-add (length xs) i) ∙ slice_get_behind xs ys i

-- a place in the first list stays one
pub slice_get_front : {X : Type 0} (xs ys : List X) (i : ℕ) (x : X) → slice_get xs i ≡ Some x → slice_get (xs ++ ys) i ≡ Some x
slice_get_front [] ys i x h = absurd (none-some x h)
slice_get_front (y ∷ xs) ys zero x h = h
slice_get_front (y ∷ xs) ys (suc i) x h = slice_get_front xs ys i x h

-- a place after a push is an older one, or the new one
pub slice_get_push : {X : Type 0} (xs : List X) (y : X) (i : ℕ) (x : X) → slice_get (xs ++ y ∷ []) i ≡ Some x → (slice_get xs i ≡ Some x) ⊎ ((i ≡ length xs) × (y ≡ x))
slice_get_push [] y zero x h = inr (refl, same_Some y x h)
slice_get_push [] y (suc i) x h = absurd (none-some x h)
slice_get_push (z ∷ xs) y zero x h = inl h
slice_get_push (z ∷ xs) y (suc i) x h =
    elim (slice_get_push xs y i x h) [ inl older ↦ inl older | inr new ↦ inr (ap suc new.0, new.1) ]

-- the place that `position` gives has an element that passes
pub position_passes : {X : Type 0} (p : X → Bool) (xs : List X) (i : ℕ) → position p xs ≡ Some i → (x : X) × (slice_get xs i ≡ Some x) × (p x ≡ true)
position_passes p [] i h = absurd (none-some i h)
position_passes p (y ∷ ys) i h =
    let found = position-Some p (y ∷ ys) i y h in
    (_, slice_get-get_or (y ∷ ys) i y found.0, found.1)

-- where `position` gives no place, no element passes
none_passes_from : {X : Type 0} (p : X → Bool) (i : ℕ) (xs : List X) → position_from p i xs ≡ None → list_any p xs ≡ false
none_passes_from p i [] h = refl
none_passes_from p i (x ∷ xs) h = by (p x) h (none_passes_from p (i + 1) xs)
  where
    by : (b : Bool) → (if b then Some i else position_from p (i + 1) xs) ≡ None → (position_from p (i + 1) xs ≡ None → list_any p xs ≡ false) → (b || list_any p xs) ≡ false
    by true e rest = absurd (none-some i (sym e))
    by false e rest = rest e

pub none_passes : {X : Type 0} (p : X → Bool) (xs : List X) → position p xs ≡ None → list_any p xs ≡ false
none_passes p xs h = none_passes_from p 0 xs (sym (position_from-zero p xs) ∙ h)

-- the text at the place that `position` gives
pub text_at_position : (texts : List (List ℕ)) (t : List ℕ) (i : ℕ) → position (bytes_eq t) texts ≡ Some i → slice_get texts i ≡ Some t
text_at_position texts t i h =
    let found = position_passes (bytes_eq t) texts i h in
    found.1 ∙ ap Some (sym ((bytes_eq-Decides t found.0).0 found.2))

-- a text at a place is among the texts
pub among_from_place : (texts : List (List ℕ)) (i : ℕ) (t : List ℕ) → slice_get texts i ≡ Some t → list_any (bytes_eq t) texts ≡ true
among_from_place texts i t h = any_passes_from_place (bytes_eq t) texts i t h ((bytes_eq-Decides t t).1 refl)

-- the vector at a place stores the text that stands so far behind the first list
pub stored_text : (texts : List (List ℕ)) (stored : List (Vec ℕ Global)) (i : ℕ) (v : Vec ℕ Global) → slice_get stored i ≡ Some v → slice_get (texts ++ items_of stored) (length texts + i) ≡ Some v.items
stored_text texts stored i v h =
    slice_get_behind texts (items_of stored) i ∙ slice_get-map (λ w. w.items) stored i ∙ ap (λ o. elim o as (λ _. Option (List ℕ)) [ None ↦ None | Some w ↦ Some w.items ]) h

-- the same at a read of the vectors
pub stored_text_read : (texts : List (List ℕ)) (stored : List (Vec ℕ Global)) (place i : ℕ) (v : Vec ℕ Global) → place ≡ length texts + i → i < length stored → v ≡ get_or stored i v → slice_get (texts ++ items_of stored) place ≡ Some v.items
stored_text_read texts stored place i v e within read =
    ap (slice_get (texts ++ items_of stored)) e ∙ stored_text texts stored i v (slice_get_read stored (length stored) i v refl within read)

-- the text of the vector at the place that `position` gives
pub stored_text_at_position : (texts : List (List ℕ)) (stored : List (Vec ℕ Global)) (t : List ℕ) (i : ℕ) → position (λ v. bytes_eq t v.items) stored ≡ Some i → slice_get (texts ++ items_of stored) (length texts + i) ≡ Some t
stored_text_at_position texts stored t i h =
    let found = position_passes (λ v. bytes_eq t v.items) stored i h in
    stored_text texts stored i found.0 found.1 ∙ ap Some (sym ((bytes_eq-Decides t found.0.items).0 found.2))

-- noting a text that is there changes nothing
pub noted_present : (texts : List (List ℕ)) (i : ℕ) (t : List ℕ) → slice_get texts i ≡ Some t → texts ≡ noted texts t
noted_present texts i t h = sym (ap (λ b. if b then texts else texts ++ t ∷ []) (among_from_place texts i t h))

-- a test of the vectors' bytes is a test of the texts
pub list_any-items : (p : List ℕ → Bool) (stored : List (Vec ℕ Global)) → list_any p (items_of stored) ≡ list_any (λ v. p v.items) stored
list_any-items p [] = refl
list_any-items p (v ∷ stored) = ap (λ b. p v.items || b) (list_any-items p stored)

-- a text that neither list has is in neither
pub absent_text : (texts : List (List ℕ)) (stored : List (Vec ℕ Global)) (t : List ℕ) → list_any (bytes_eq t) texts ≡ false → list_any (λ v. bytes_eq t v.items) stored ≡ false → list_any (bytes_eq t) (texts ++ items_of stored) ≡ false
absent_text texts stored t first second =
    list_any-append (bytes_eq t) texts (items_of stored) ∙ ap (λ b. b || list_any (bytes_eq t) (items_of stored)) first ∙ list_any-items (bytes_eq t) stored ∙ second

absent_stored : (texts : List (List ℕ)) (stored : List (Vec ℕ Global)) (t : List ℕ) → list_any (bytes_eq t) (texts ++ items_of stored) ≡ false → list_any (λ v. bytes_eq t v.items) stored ≡ false
absent_stored [] stored t h = sym (list_any-items (bytes_eq t) stored) ∙ h
absent_stored (x ∷ texts) stored t h = by (bytes_eq t x) h (absent_stored texts stored t)
  where
    by : (b : Bool) → (b || list_any (bytes_eq t) (texts ++ items_of stored)) ≡ false → (list_any (bytes_eq t) (texts ++ items_of stored) ≡ false → list_any (λ v. bytes_eq t v.items) stored ≡ false) → list_any (λ v. bytes_eq t v.items) stored ≡ false
    by true e rest = absurd (true≢false e)
    by false e rest = rest e

-- storing a vector whose bytes are a new text notes that text
pub noted_stored : (texts now : List (List ℕ)) (old new : List (Vec ℕ Global)) (v : Vec ℕ Global) (t : List ℕ) → texts ++ items_of old ≡ now → list_any (bytes_eq t) now ≡ false → v.items ≡ t → new ≡ insert_key (λ x y. bytes_eq x.items y.items) old v → texts ++ items_of new ≡ noted now t
noted_stored texts now old new v t view absent same inserted =
    let before : list_any (bytes_eq v.items) (texts ++ items_of old) ≡ false = (λ j. list_any (bytes_eq (same j)) (view j)) ∙ absent in
    let pushed : new ≡ old ++ v ∷ [] = inserted ∙ ap (λ b. if b then old else old ++ v ∷ []) (absent_stored texts old v.items before) in
    ap (λ l. texts ++ items_of l) pushed ∙ ap (λ l. texts ++ l) (map-append (λ w. w.items) old (v ∷ [])) ∙ sym (append_assoc texts (items_of old) (v.items ∷ []))
    ∙ (λ j. view j ++ same j ∷ []) ∙ sym (ap (λ b. if b then now else now ++ t ∷ []) absent)

-- a new text stands last
pub noted_last : (texts : List (List ℕ)) (t : List ℕ) → list_any (bytes_eq t) texts ≡ false → slice_get (noted texts t) (length texts) ≡ Some t
noted_last texts t absent =
    ap (λ b. slice_get (if b then texts else texts ++ t ∷ []) (length texts)) absent ∙ ap (slice_get (texts ++ t ∷ [])) (sym (add-zero (length texts))) ∙ slice_get_behind texts (t ∷ []) 0

-- a text keeps its number when another is noted
pub slice_get-noted : (texts : List (List ℕ)) (t : List ℕ) (i : ℕ) (u : List ℕ) → slice_get texts i ≡ Some u → slice_get (noted texts t) i ≡ Some u
slice_get-noted texts t i u at = by (list_any (bytes_eq t) texts)
  where
    by : (b : Bool) → slice_get (if b then texts else texts ++ t ∷ []) i ≡ Some u
    by true = at
    by false = slice_get_front texts (t ∷ []) i u at

-- no number is lost when a text is noted
pub length-noted : (texts : List (List ℕ)) (t : List ℕ) → length texts ≤ length (noted texts t)
length-noted texts t = by (list_any (bytes_eq t) texts)
  where
    by : (b : Bool) → length texts ≤ length (if b then texts else texts ++ t ∷ [])
    by true = omega arith
    by false = omega (arith, length-append texts (t ∷ []))

-- texts that differ do so after one was noted
pub AreDistinct-noted : (texts : List (List ℕ)) (t : List ℕ) → AreDistinct texts → AreDistinct (noted texts t)
AreDistinct-noted texts t distinct = by (list_any (bytes_eq t) texts) refl
  where
    new : (i j : ℕ) (u : List ℕ) → list_any (bytes_eq t) texts ≡ false → (slice_get texts i ≡ Some u) ⊎ ((i ≡ length texts) × (t ≡ u)) → (slice_get texts j ≡ Some u) ⊎ ((j ≡ length texts) × (t ≡ u)) → i ≡ j
    new i j u absent (inl at) (inl too) = distinct.same i j u at too
    new i j u absent (inl at) (inr last) = absurd (true≢false (sym (among_from_place texts i t (at ∙ ap Some (sym last.1))) ∙ absent))
    new i j u absent (inr last) (inl at) = absurd (true≢false (sym (among_from_place texts j t (at ∙ ap Some (sym last.1))) ∙ absent))
    new i j u absent (inr last) (inr too) = last.0 ∙ sym too.0

    by : (b : Bool) → list_any (bytes_eq t) texts ≡ b → AreDistinct (if b then texts else texts ++ t ∷ [])
    by true e = distinct
    by false e = record { same = λ i j u at too. new i j u e (slice_get_push texts t i u at) (slice_get_push texts t j u too) }

-- no text is equal to one after it
abbrev all_apart : List (List ℕ) → Bool
all_apart [] = true
all_apart (t ∷ texts) = not (list_any (bytes_eq t) texts) && all_apart texts

AreDistinct-from_test : (texts : List (List ℕ)) → all_apart texts ≡ true → AreDistinct texts
AreDistinct-from_test [] h = record { same = λ i j t at too. absurd (none-some t at) }
AreDistinct-from_test (x ∷ texts) h = record { same = by (list_any (bytes_eq x) texts) refl h (λ rest. (AreDistinct-from_test texts rest).same) }
  where
    never : (j : ℕ) (t : List ℕ) → list_any (bytes_eq x) texts ≡ false → x ≡ t → slice_get texts j ≡ Some t → ⊥
    never j t absent same at = true≢false (sym (among_from_place texts j x (at ∙ ap Some (sym same))) ∙ absent)

    apart : list_any (bytes_eq x) texts ≡ false → ((i j : ℕ) (t : List ℕ) → slice_get texts i ≡ Some t → slice_get texts j ≡ Some t → i ≡ j) → (i j : ℕ) (t : List ℕ) → slice_get (x ∷ texts) i ≡ Some t → slice_get (x ∷ texts) j ≡ Some t → i ≡ j
    apart absent rest zero zero t at too = refl
    apart absent rest zero (suc j) t at too = absurd (never j t absent (same_Some x t at) too)
    apart absent rest (suc i) zero t at too = absurd (never i t absent (same_Some x t too) at)
    apart absent rest (suc i) (suc j) t at too = ap suc (rest i j t at too)

    by : (b : Bool) → list_any (bytes_eq x) texts ≡ b → (not b && all_apart texts) ≡ true → (all_apart texts ≡ true → (i j : ℕ) (t : List ℕ) → slice_get texts i ≡ Some t → slice_get texts j ≡ Some t → i ≡ j) → (i j : ℕ) (t : List ℕ) → slice_get (x ∷ texts) i ≡ Some t → slice_get (x ∷ texts) j ≡ Some t → i ≡ j
    by true e h rest = absurd (true≢false (sym h))
    by false e h rest = apart e (rest h)

-- the fixed texts differ
pub AreDistinct-fixed : AreDistinct fixed_texts
AreDistinct-fixed = AreDistinct-from_test fixed_texts refl
