-- The rearrangement of a list that is in order: there is one only.
use Rattle.std.proofs.Common.{◌≡◌, ℕ, zero, suc, ◌+◌, ◌<◌, Bool, true, false, List, [], ◌∷◌, map, length, get_or, set, refl, sym, ◌∙◌, ap, subst, arith}
use Rattle.std.proofs.lemmas.List.Edits.{swap_is}
use Rattle.std.proofs.lemmas.List.Sorted.{IsPermutation-keeps}
use Rattle.std.proofs.lemmas.Map.Lookups.{CmpEqualImpliesEq}
use Rattle.std.specs.Cmp.{IsTotalOrder}
use Rattle.std.specs.List.{swap}
use Rattle.std.specs.List.Sorted.{IsPermutation, IsSortedBy}
use Rattle.std.specs.declared.cmp.Ordering.{Ordering}
use Rattle.std.specs.declared.cmp.Ordering.TheVariants.{Less, Equal, Greater}
use Rattle.std.specs.Ordering.{is_lt, ordering_reverse}
use Rattle.std.specs.Prelude.{if◌then◌else◌}

clash : false ≡ true → ⊥
clash e = absurd (cc)

-- ---- order by neighbours

-- no element is less than the one before it
pub Rises : {X : Type 0} → (X → X → Bool) → List X → Type 0
Rises lt [] = Unit {0}
Rises lt (x ∷ []) = Unit {0}
Rises lt (x ∷ y ∷ xs) = (lt y x ≡ false) × Rises lt (y ∷ xs)

module _ {X : Type 0} (lt : X → X → Bool) where
  tail_sorted : (x : X) (xs : List X) → IsSortedBy lt (x ∷ xs) → IsSortedBy lt xs
  tail_sorted x xs h k d low l =
      let next : suc k + 1 ≡ suc (k + 1) = omega arith in
      subst (λ n. lt (get_or (x ∷ xs) n d) (get_or xs k d) ≡ false) next (h (suc k) d (omega arith) (omega (arith, l)))

  pub rises : (xs : List X) → IsSortedBy lt xs → Rises lt xs
  unfolding Rises
  rises [] h = tt
  rises (x ∷ []) h = tt
  rises (x ∷ y ∷ xs) h = (h 0 x (omega arith) (omega arith), rises (y ∷ xs) (tail_sorted x (y ∷ xs) h))

pub rises_map : {X Y : Type 0} (lt : X → X → Bool) (lt' : Y → Y → Bool) (f : X → Y) → ((x y : X) → lt x y ≡ false → lt' (f x) (f y) ≡ false) →
    (xs : List X) → Rises lt xs → Rises lt' (map f xs)
unfolding Rises
rises_map lt lt' f on [] h = tt
rises_map lt lt' f on (x ∷ []) h = tt
rises_map lt lt' f on (x ∷ y ∷ xs) h = (on y x h.0, rises_map lt lt' f on (y ∷ xs) h.1)

-- ---- sorting

unfoldable pub into : {X : Type 0} → (X → X → Bool) → X → List X → List X
into lt v [] = v ∷ []
into lt v (w ∷ ws) = if lt v w then v ∷ w ∷ ws else w ∷ into lt v ws

unfoldable pub sort : {X : Type 0} → (X → X → Bool) → List X → List X
sort lt [] = []
sort lt (v ∷ vs) = into lt v (sort lt vs)

module _ {K : Type 0} (R : K → K → Ordering) (o : IsTotalOrder R) (exact : CmpEqualImpliesEq R) where
  abbrev lt : K → K → Bool
  lt a b = is_lt (R a b)

  before : (v w : K) (ws : List K) → lt v w ≡ true → into lt v (w ∷ ws) ≡ v ∷ w ∷ ws
  unfolding into
  before v w ws h = ap (λ b. if b then v ∷ w ∷ ws else w ∷ into lt v ws) h

  behind : (v w : K) (ws : List K) → lt v w ≡ false → into lt v (w ∷ ws) ≡ w ∷ into lt v ws
  unfolding into
  behind v w ws h = ap (λ b. if b then v ∷ w ∷ ws else w ∷ into lt v ws) h

  last : (v : K) → into lt v [] ≡ v ∷ []
  unfolding into
  last v = refl

  turned : (a b : K) → R a b ≡ Less → lt b a ≡ false
  turned a b h = ap is_lt (o.antisymm b a ∙ ap ordering_reverse h)

  less : (a b : K) → lt a b ≡ true → R a b ≡ Less
  less a b h = by (R a b) h
    where
      by : (r : Ordering) → is_lt r ≡ true → r ≡ Less
      by Less h = refl
      by Equal h = absurd (clash h)
      by Greater h = absurd (clash h)

  further : (a b w : K) → R a b ≡ Less → lt b w ≡ true → lt a w ≡ true
  further a b w h k = ap is_lt (o.trans a b w h (less b w k))

  -- what is put in first does not matter
  lesser_first : (a b : K) (l : List K) → R a b ≡ Less → into lt a (into lt b l) ≡ into lt b (into lt a l)
  lesser_first a b [] h =
      ap (into lt a) (last b) ∙ before a b [] (ap is_lt h)
      ∙ sym (ap (into lt b) (last a) ∙ behind b a [] (turned a b h) ∙ ap (λ l. a ∷ l) (last b))
  lesser_first a b (w ∷ l) h = by (lt b w) (lt a w) refl refl (lesser_first a b l h)
    where
      by : (c d : Bool) → lt b w ≡ c → lt a w ≡ d → into lt a (into lt b l) ≡ into lt b (into lt a l) →
          into lt a (into lt b (w ∷ l)) ≡ into lt b (into lt a (w ∷ l))
      by true d e f rest =
          ap (into lt a) (before b w l e) ∙ before a b (w ∷ l) (ap is_lt h)
          ∙ sym (ap (into lt b) (before a w l (further a b w h e)) ∙ behind b a (w ∷ l) (turned a b h) ∙ ap (λ l. a ∷ l) (before b w l e))
      by false true e f rest =
          ap (into lt a) (behind b w l e) ∙ before a w (into lt b l) f
          ∙ sym (ap (into lt b) (before a w l f) ∙ behind b a (w ∷ l) (turned a b h) ∙ ap (λ l. a ∷ l) (behind b w l e))
      by false false e f rest =
          ap (into lt a) (behind b w l e) ∙ behind a w (into lt b l) f
          ∙ ap (λ l. w ∷ l) rest
          ∙ sym (ap (into lt b) (behind a w l f) ∙ behind b w (into lt a l) e)

  either_first : (a b : K) (l : List K) → into lt a (into lt b l) ≡ into lt b (into lt a l)
  either_first a b l = by (R a b) refl
    where
      by : (r : Ordering) → R a b ≡ r → into lt a (into lt b l) ≡ into lt b (into lt a l)
      by Less h = lesser_first a b l h
      by Equal h = subst (λ c. into lt a (into lt c l) ≡ into lt c (into lt a l)) (exact a b h) refl
      by Greater h = sym (lesser_first b a l (o.antisymm b a ∙ ap ordering_reverse h))

  -- an element gives way to another
  changed : (l : List K) (i : ℕ) (x d : K) → i < length l → into lt (get_or l i d) (sort lt (set l i x)) ≡ into lt x (sort lt l)
  unfolding sort
  changed [] i x d l = absurd (omega (arith, l))
  changed (y ∷ ys) zero x d l = either_first y x (sort lt ys)
  changed (y ∷ ys) (suc i) x d l =
      either_first (get_or ys i d) y (sort lt (set ys i x))
      ∙ ap (into lt y) (changed ys i x d (omega (arith, l)))
      ∙ either_first y x (sort lt ys)

  -- two elements change places
  swapped : (l : List K) (i j : ℕ) (d : K) → i < length l → j < length l → sort lt (set (set l i (get_or l j d)) j (get_or l i d)) ≡ sort lt l
  unfolding sort
  swapped [] i j d l k = absurd (omega (arith, l))
  swapped (y ∷ ys) zero zero d l k = refl
  swapped (y ∷ ys) zero (suc j) d l k = changed ys j y d (omega (arith, k))
  swapped (y ∷ ys) (suc i) zero d l k = changed ys i y d (omega (arith, l))
  swapped (y ∷ ys) (suc i) (suc j) d l k = ap (into lt y) (swapped ys i j d (omega (arith, l)) (omega (arith, k)))

  swap_sorts : (l : List K) (i j : ℕ) → i < length l → j < length l → sort lt (swap l i j) ≡ sort lt l
  swap_sorts [] i j l k = absurd (omega (arith, l))
  swap_sorts (y ∷ ys) i j l k = ap (sort lt) (sym (swap_is (y ∷ ys) i j y l k)) ∙ swapped (y ∷ ys) i j y l k

  -- the least comes first
  into_front : (v : K) (ws : List K) → Rises lt (v ∷ ws) → into lt v ws ≡ v ∷ ws
  unfolding Rises
  into_front v [] h = last v
  into_front v (w ∷ ws) h = by (R v w) refl (into_front w ws h.1)
    where
      by : (r : Ordering) → R v w ≡ r → into lt w ws ≡ w ∷ ws → into lt v (w ∷ ws) ≡ v ∷ w ∷ ws
      by Less e rest = before v w ws (ap is_lt e)
      by Equal e rest =
          let same = exact v w e in
          behind v w ws (ap is_lt e)
          ∙ ap (λ u. w ∷ into lt u ws) same
          ∙ ap (λ l. w ∷ l) rest
          ∙ ap (λ u. u ∷ w ∷ ws) (sym same)
      by Greater e rest = absurd (clash (sym h.0 ∙ ap is_lt (o.antisymm w v ∙ ap ordering_reverse e)))

  rest_rises : (x : K) (xs : List K) → Rises lt (x ∷ xs) → Rises lt xs
  unfolding Rises
  rest_rises x [] h = tt
  rest_rises x (y ∷ xs) h = h.1

  in_order : (xs : List K) → Rises lt xs → sort lt xs ≡ xs
  unfolding sort
  in_order [] h = refl
  in_order (x ∷ xs) h = ap (into lt x) (in_order xs (rest_rises x xs h)) ∙ into_front x xs h

  -- a rearrangement that is in order
  pub sorted_is : (xs ys : List K) → IsPermutation xs ys → Rises lt ys → sort lt xs ≡ ys
  sorted_is xs ys moved h =
      sym (IsPermutation-keeps xs (λ l. sort lt l ≡ sort lt xs) refl (λ l i j k m e. swap_sorts l i j k m ∙ e) ys moved)
      ∙ in_order ys h
