-- A key that stands at a place is there, since no key stands twice.
use Rattle.std.proofs.Common.{◌≡◌, ℕ, zero, suc, Bool, true, false, [], ◌∷◌, Some, slice_get, refl, sym, ◌∙◌, ap, subst}
use Rattle.std.specs.List.{IsDistinct, AllByRecursion}
use Rattle.std.specs.Map.{keys_of}
use Rattle.std_collections.proofs.HashLookup.{IsFirst}
use Rattle.indexmap.proofs.MapLemmas.{index-first}
use Rattle.value_model.specs.declared.value.Value.{Value}
use Rattle.value_arena.proofs.Sameness.{value_is, is_value}
use Rattle.value_arena.specs.Tables.{same, Entries, place_of}

-- a key is not one of the keys behind it
apart : (k e : Value) (es : Entries) (i : ℕ) (v : Value) → AllByRecursion (λ q. same e q ≡ false) (keys_of es) → slice_get es i ≡ Some (k, v) → same e k ≡ false
apart k e [] i v d h = absurd (cc)
apart k e (x ∷ es) zero v d h = let pair : x ≡ (k, v) = cc in let is : x.0 ≡ k = ap (λ (x : Value × Value). x.0) pair in subst (λ q. same e q ≡ false) is d.0
apart k e (x ∷ es) (suc i) v d h = apart k e es i v d.1 h

turned_by : (x : Bool) (a b : Value) → same b a ≡ x → same a b ≡ false → x ≡ false
turned_by true a b is h = absurd (clash (sym h ∙ is_value a b (sym (value_is b a is))))
  where
    clash : false ≡ true → ⊥
    clash e = absurd (cc)
turned_by false a b is h = refl

-- two keys that differ do so in either order
turned : (a b : Value) → same a b ≡ false → same b a ≡ false
turned a b h = turned_by (same b a) a b refl h

pub first_at : (key k : Value) (es : Entries) (i : ℕ) (v : Value) → IsDistinct same (keys_of es) → slice_get es i ≡ Some (k, v) → same key k ≡ true → IsFirst (same key) es i
unfolding IsDistinct
first_at key k [] i v d h s = absurd (cc)
first_at key k (x ∷ es) zero v d h s = let pair : x ≡ (k, v) = cc in let is : k ≡ x.0 = sym (ap (λ (x : Value × Value). x.0) pair) in subst (λ q. same key q ≡ true) is s
first_at key k (x ∷ es) (suc i) v d h s =
    let other : same k x.0 ≡ false = turned x.0 k (apart k x.0 es i v d.0 h) in
    (subst (λ q. same q x.0 ≡ false) (sym (value_is key k s)) other, first_at key k es i v d.1 h s)

pub stands : (key k : Value) (es : Entries) (i : ℕ) (v : Value) → IsDistinct same (keys_of es) → slice_get es i ≡ Some (k, v) → same key k ≡ true → place_of key es ≡ Some i
stands key k es i v d h s = index-first (same key) es i (first_at key k es i v d h s)
