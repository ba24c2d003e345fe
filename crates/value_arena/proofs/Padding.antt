-- Owners that nothing was made for yet.
use Rattle.std.proofs.Common.{◌≡◌, ℕ, ◌-◌, ◌<◌, List, [], ◌∷◌, ◌++◌, zero, suc, length, get_or, set, replicate, refl, sym, ◌∙◌, ap, subst, arith}
use Rattle.std.specs.List.{sum_by}
use Rattle.std.proofs.lemmas.List.Sums.{sum_by-cons, sum_by-append}
use Rattle.std.proofs.lemmas.List.{length-append, length-set, set-append_left, append_assoc}
use Rattle.value_arena.specs.Objects.{ObjectsView, no_objects, object_count}
use Rattle.value_arena.specs.Arenas.{padded, owner_count}

-- past its end, a list of copies gives the copy as the default
copies : {A : Type 0} (n i : ℕ) (d : A) → get_or (replicate n d) i d ≡ d
copies zero i d = refl
copies (suc n) zero d = refl
copies (suc n) (suc i) d = copies n i d

-- copies of the default behind a list change no element
behind : {A : Type 0} (os : List A) (n i : ℕ) (d : A) → get_or (os ++ replicate n d) i d ≡ get_or os i d
behind [] n i d = copies n i d
behind (o ∷ os) n zero d = refl
behind (o ∷ os) n (suc i) d = behind os n i d

-- the owners behind the last have no objects, as if they were there
pub at_padded : (os : List ObjectsView) (i : ℕ) → get_or (padded os) i no_objects ≡ get_or os i no_objects
at_padded os i = behind os (owner_count - length os) i no_objects

-- a slot with an object is there
within : (size : ObjectsView → ℕ) → size no_objects ≡ 0 → (os : List ObjectsView) (i n : ℕ) → n < size (get_or os i no_objects) → i < length os
within size none [] i n h = absurd (omega (arith, none))
within size none (o ∷ os) zero n h = omega arith
within size none (o ∷ os) (suc i) n h = omega (arith, within size none os i n h)

pub is_there : (size : ObjectsView → ℕ) → size no_objects ≡ 0 → (os : List ObjectsView) (i n : ℕ) → n < size (get_or (padded os) i no_objects) → i < length os
is_there size none os i n h = within size none os i n (subst (λ o. n < size o) (at_padded os i) h)

-- a write at a slot that is there
pub set_padded : (os : List ObjectsView) (i : ℕ) (o : ObjectsView) → i < length os → set (padded os) i o ≡ padded (set os i o)
set_padded os i o h =
    set-append_left os (replicate (owner_count - length os) no_objects) i o h
    ∙ ap (λ n. set os i o ++ replicate (owner_count - n) no_objects) (sym (length-set os i o))

-- an owner more
pub more_padded : (os : List ObjectsView) → length os < owner_count → padded (os ++ no_objects ∷ []) ≡ padded os
more_padded os h =
    let n : owner_count - length os ≡ suc (owner_count - length (os ++ no_objects ∷ [])) = omega (arith, length-append os (no_objects ∷ [])) in
    append_assoc os (no_objects ∷ []) (replicate (owner_count - length (os ++ no_objects ∷ [])) no_objects)
    ∙ ap (λ n. os ++ replicate n no_objects) (sym n)

-- owners without objects add none to the count
none : (n : ℕ) → sum_by object_count (replicate n no_objects) ≡ 0
none zero = refl
none (suc n) = omega (arith, sum_by-cons object_count no_objects (replicate n no_objects), none n)

pub count_padded : (os : List ObjectsView) → sum_by object_count (padded os) ≡ sum_by object_count os
count_padded os =
    let n = owner_count - length os in
    omega (arith, sum_by-append object_count os (replicate n no_objects), none n)
