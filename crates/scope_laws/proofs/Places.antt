-- Places in lists.
use Rattle.std.proofs.Common.{◌≡◌, ◌≢◌, ◌∙◌, ℕ, zero, suc, ◌+◌, ◌<◌, List, [], ◌∷◌, ◌++◌, length, take, drop, append-nil, append_assoc, Bool, true, false, ◌||◌, Some, None, refl, sym, ap, rules, arith, slice_get, set}
use Rattle.std.specs.List.{list_any}

pub none_some : {A : Type 0} {x : A} → None ≡ Some x → ⊥
none_some h = search rules

pub same_some : {A : Type 0} {x y : A} → Some x ≡ Some y → x ≡ y
same_some h = search rules

pub false_true : false ≡ true → ⊥
false_true h = search rules

pub get_front : {A : Type 0} (xs ys : List A) (i : ℕ) → i < length xs → slice_get (xs ++ ys) i ≡ slice_get xs i
get_front [] ys i h = absurd (omega (arith, h))
get_front (x ∷ xs) ys zero h = refl
get_front (x ∷ xs) ys (suc i) h = get_front xs ys i (omega (arith, h))

pub get_last : {A : Type 0} (xs : List A) (y : A) → slice_get (xs ++ y ∷ []) (length xs) ≡ Some y
get_last [] y = refl
get_last (x ∷ xs) y = get_last xs y

pub get_other : {A : Type 0} (xs : List A) (j i : ℕ) (y : A) → i ≢ j → slice_get (set xs j y) i ≡ slice_get xs i
get_other [] j i y h = refl
get_other (x ∷ xs) zero zero y h = absurd (h refl)
get_other (x ∷ xs) zero (suc i) y h = refl
get_other (x ∷ xs) (suc j) zero y h = refl
get_other (x ∷ xs) (suc j) (suc i) y h = get_other xs j i y (λ e. h (ap suc e))

-- what stands where an element was set
pub get_set : {A : Type 0} (xs : List A) (j : ℕ) (y z : A) → slice_get (set xs j y) j ≡ Some z → y ≡ z
get_set [] j y z h = absurd (search rules)
get_set (x ∷ xs) zero y z h = search rules
get_set (x ∷ xs) (suc j) y z h = get_set xs j y z h

pub get_set_within : {A : Type 0} (xs : List A) (j : ℕ) (y : A) → j < length xs → slice_get (set xs j y) j ≡ Some y
get_set_within [] j y h = absurd (omega (arith, h))
get_set_within (x ∷ xs) zero y h = refl
get_set_within (x ∷ xs) (suc j) y h = get_set_within xs j y (omega (arith, h))

pub get_drop : {A : Type 0} (xs : List A) (j i : ℕ) → slice_get (drop j xs) i ≡ slice_get xs (j + i)
get_drop xs zero i = ap (slice_get xs) (omega arith)
get_drop [] (suc j) i = refl
get_drop (x ∷ xs) (suc j) i = get_drop xs j i ∙ sym (ap (slice_get (x ∷ xs)) (plus j i)) where
  plus : (j i : ℕ) → suc j + i ≡ suc (j + i)
  plus j i = omega arith

-- an element that passes a test has a place, and the other way round
pub any_at : {A : Type 0} (p : A → Bool) (xs : List A) → list_any p xs ≡ true →
    (i : ℕ) × ((x : A) × (slice_get xs i ≡ Some x) × (p x ≡ true))
any_at p [] h = absurd (search rules)
any_at p (x ∷ xs) h = chosen (p x) refl (any_at p xs) h where
  chosen : (b : Bool) → p x ≡ b → (list_any p xs ≡ true → (i : ℕ) × ((y : _) × (slice_get xs i ≡ Some y) × (p y ≡ true))) →
      (b || list_any p xs) ≡ true → (i : ℕ) × ((y : _) × (slice_get (x ∷ xs) i ≡ Some y) × (p y ≡ true))
  chosen true e later h = (0, (x, refl, e))
  chosen false e later h = (suc (later h).0, (later h).1)

pub at_any : {A : Type 0} (p : A → Bool) (xs : List A) (i : ℕ) (x : A) → slice_get xs i ≡ Some x → p x ≡ true → list_any p xs ≡ true
at_any p [] i x h e = absurd (search rules)
at_any p (y ∷ xs) zero x h e = ap (λ b. b || list_any p xs) (ap p (first h) ∙ e) where
  first : {A : Type 0} {x y : A} → Some y ≡ Some x → y ≡ x
  first h = search rules
at_any p (y ∷ xs) (suc i) x h e = ap (λ b. p y || b) (at_any p xs i x h e) ∙ yes (p y) where
  yes : (b : Bool) → (b || true) ≡ true
  yes true = refl
  yes false = refl

-- an element that is taken
pub get_take : {A : Type 0} (xs : List A) (m i : ℕ) (x : A) → slice_get (take m xs) i ≡ Some x → (i < m) × (slice_get xs i ≡ Some x)
get_take xs zero i x h = absurd (none_some h)
get_take [] (suc m) i x h = absurd (none_some h)
get_take (y ∷ xs) (suc m) zero x h = (omega arith, h)
get_take (y ∷ xs) (suc m) (suc i) x h = let t : (i < m) × (slice_get xs i ≡ Some x) = get_take xs m i x h in (omega (arith, t.0), t.1)

-- an element of a second list
pub get_behind : {A : Type 0} (xs ys : List A) (i : ℕ) → slice_get (xs ++ ys) (length xs + i) ≡ slice_get ys i
get_behind [] ys i = ap (slice_get ys) (omega arith)
get_behind (x ∷ xs) ys i = ap (slice_get (x ∷ (xs ++ ys))) (plus (length xs) i) ∙ get_behind xs ys i where
  plus : (n i : ℕ) → suc n + i ≡ suc (n + i)
  plus n i = omega arith

-- ---- lists that begin with others

pub record Front {A : Type 0} (xs ys : List A) : Type 0 where
  pub more : List A
  pub is : ys ≡ xs ++ more

pub front_same : {A : Type 0} (xs : List A) → Front xs xs
front_same xs = record { more = []; is = sym (append-nil xs) }

pub front_then : {A : Type 0} {xs ys zs : List A} → Front xs ys → Front ys zs → Front xs zs
front_then {xs} f g = record {
  more = f.more ++ g.more;
  is = g.is ∙ ap (λ l. l ++ g.more) f.is ∙ append_assoc xs f.more g.more;
}

pub front_from : {A : Type 0} {xs ys zs : List A} → xs ≡ ys → Front ys zs → Front xs zs
front_from e f = record { more = f.more; is = f.is ∙ ap (λ l. l ++ f.more) (sym e) }

pub front_to : {A : Type 0} {xs ys zs : List A} → Front xs ys → zs ≡ ys → Front xs zs
front_to f e = record { more = f.more; is = e ∙ f.is }

pub front_get : {A : Type 0} {xs ys : List A} (i : ℕ) → Front xs ys → i < length xs → slice_get ys i ≡ slice_get xs i
front_get {xs} i f h = ap (λ l. slice_get l i) f.is ∙ get_front xs f.more i h
