-- The first fault of many.
use Rattle.std.proofs.Common.{◌≡◌, refl, sym, ap, ◌∙◌, ℕ, suc, ◌<◌, ◌≤◌, ◌⊎◌, Bool, true, false, List, [], ◌∷◌, ◌++◌, append_assoc, Option, Some, None, arith, inl, inr}
use Rattle.std.specs.Prelude.{if◌then◌else◌, slice_get}
use Rattle.std.specs.Option.{option_or}
use Rattle.std.specs.Bool.{Decides}
use Rattle.std.proofs.lemmas.List.{append-nil}
use Rattle.std.proofs.lemmas.Bool.{cases_lt}
use Rattle.std.proofs.lemmas.Bool.Decides.{Decides-or, Decides-and, Decides-ltb, Decides-eqb, not_from_Decides}
use Rattle.machine_meaning.specs.WellFormed.{CodeFault, precedes, earlier, first_of, unless, at_place}
use Rattle.chunk_check.specs.Faults.{sooner, located}

pub head_append : (xs ys : List ℕ) → slice_get (xs ++ ys) 0 ≡ option_or (slice_get xs 0) (slice_get ys 0)
head_append [] ys = refl
head_append (x ∷ xs) ys = refl

-- ---- the order of faults

abbrev Below : CodeFault → CodeFault → Type 0
Below a b = (a.proto < b.proto) ⊎ ((a.proto ≡ b.proto) × ((a.place < b.place) ⊎ ((a.place ≡ b.place) × (a.rule < b.rule))))

decides : (a b : CodeFault) → Decides (precedes a b) (Below a b)
decides a b =
    Decides-or _ _ (Decides-ltb a.proto b.proto)
    (Decides-and _ _ (Decides-eqb a.proto b.proto)
    (Decides-or _ _ (Decides-ltb a.place b.place)
    (Decides-and _ _ (Decides-eqb a.place b.place) (Decides-ltb a.rule b.rule))))

below_below : (a b c : CodeFault) → Below a b → Below b c → Below a c
below_below a b c h k = grind arith

-- at the same place or behind it
abbrev AtLeast : CodeFault → CodeFault → Type 0
AtLeast a b = (b.proto < a.proto) ⊎ ((a.proto ≡ b.proto) × ((b.place < a.place) ⊎ ((a.place ≡ b.place) × (b.rule ≤ a.rule))))

order : (m n : ℕ) → (m < n) ⊎ ((m ≡ n) ⊎ (n < m))
order m n = grind arith

either : (a b : CodeFault) → Below a b ⊎ AtLeast a b
either a b =
    elim (order a.proto b.proto) [
      | inl h ↦ inl (inl h)
      | inr r ↦
          elim r [
            | inl e ↦
                elim (order a.place b.place) [
                  | inl h ↦ inl (inr (e, inl h))
                  | inr q ↦
                      elim q [
                        | inl f ↦ elim (cases_lt a.rule b.rule) [ inl h ↦ inl (inr (e, inr (f, h))) | inr h ↦ inr (inr (e, inr (f, h))) ]
                        | inr h ↦ inr (inr (e, inl h))
                      ]
                ]
            | inr h ↦ inr (inl h)
          ]
    ]

rises : (a b c : CodeFault) → precedes a b ≡ true → precedes b c ≡ true → precedes a c ≡ true
rises a b c h k = (decides a c).1 (below_below a b c ((decides a b).0 h) ((decides b c).0 k))

not_both : (a b c : CodeFault) → AtLeast c b → AtLeast b a → Below c a → ⊥
not_both a b c h k l = grind arith

at_least : (a b : CodeFault) → precedes a b ≡ false → AtLeast a b
at_least a b e = elim (either a b) [ inl h ↦ absurd (not_from_Decides (precedes a b) (decides a b) e h) | inr h ↦ h ]

is_false : (b : Bool) → (b ≡ true → ⊥) → b ≡ false
is_false true h = absurd (h refl)
is_false false h = refl

stays : (a b c : CodeFault) → precedes c b ≡ false → precedes b a ≡ false → precedes c a ≡ false
stays a b c h k = is_false (precedes c a) (λ e. not_both a b c (at_least c b h) (at_least b a k) ((decides c a).0 e))

-- ---- the first of three

-- by any order
abbrev first_by : (CodeFault → CodeFault → Bool) → CodeFault → CodeFault → CodeFault
first_by R a b = if R b a then b else a

three : (R : CodeFault → CodeFault → Bool) (a b c : CodeFault) (x y z : Bool) → R c b ≡ x → R b a ≡ y → R c a ≡ z
    → (x ≡ true → y ≡ true → z ≡ true) → (x ≡ false → y ≡ false → z ≡ false) → first_by R a (first_by R b c) ≡ first_by R (first_by R a b) c
three R a b c true true z e f g h k = simp (e, f, g ∙ h refl refl)
three R a b c true false z e f g h k = simp (e, f)
three R a b c false true z e f g h k = simp (e, f)
three R a b c false false z e f g h k = simp (e, f, g ∙ k refl refl)

first_of_three : (a b c : CodeFault) → first_by precedes a (first_by precedes b c) ≡ first_by precedes (first_by precedes a b) c
first_of_three a b c = three precedes a b c _ _ _ refl refl refl (λ h k. rises c b a h k) (λ h k. stays a b c h k)

pub earlier_sooner : (a : CodeFault) (o q : Option CodeFault) → earlier a (sooner o q) ≡ earlier (earlier a o) q
earlier_sooner a None q = refl
earlier_sooner a (Some b) None = refl
earlier_sooner a (Some b) (Some c) = first_of_three a b c

pub sooner_sooner : (o p q : Option CodeFault) → sooner o (sooner p q) ≡ sooner (sooner o p) q
sooner_sooner None p q = refl
sooner_sooner (Some a) p q = ap (λ f. Some f) (earlier_sooner a p q)

pub first_append : (xs ys : List CodeFault) → first_of (xs ++ ys) ≡ sooner (first_of xs) (first_of ys)
first_append [] ys = refl
first_append (x ∷ xs) ys = ap (λ o. Some (earlier x o)) (first_append xs ys) ∙ ap (λ f. Some f) (earlier_sooner x (first_of xs) (first_of ys))

-- ---- the first rule of a place

abbrev Above : ℕ → List ℕ → Type 0
Above r [] = Unit {0}
Above r (s ∷ ss) = (r ≤ s) × Above r ss

lower : (r s : ℕ) (ss : List ℕ) → r ≤ s → Above s ss → Above r ss
lower r s [] h a = tt
lower r s (t ∷ ss) h a = (omega (arith, a.0), lower r s ss h a.1)

abbrev fault : (n place rule : ℕ) → CodeFault
fault n place rule = record { proto = n; place = place; rule = rule }

same_place : (n place r s : ℕ) → r ≤ s → precedes (fault n place s) (fault n place r) ≡ false
same_place n place r s h = is_false _ (λ e. not_both (fault n place r) (fault n place r) (fault n place s) (inr (refl, inr (refl, h))) (inr (refl, inr (refl, omega arith))) ((decides (fault n place s) (fault n place r)).0 e))

earliest : (n place r : ℕ) (rs : List ℕ) → Above r rs → earlier (fault n place r) (first_of (at_place n place rs)) ≡ fault n place r
earliest n place r [] a = refl
earliest n place r (s ∷ rs) a =
    let f = fault n place r in
    let g = fault n place s in
    let rest = first_of (at_place n place rs) in
    let pair : earlier f (Some g) ≡ f = ap (λ b. if b then g else f) (same_place n place r s a.0) in
    earlier_sooner f (Some g) rest ∙ ap (λ x. earlier x rest) pair ∙ earliest n place r rs a.1

-- rules in a row, one number after another
abbrev rules_from : List Bool → ℕ → List ℕ
rules_from [] k = []
rules_from (b ∷ bs) k = unless b k ++ rules_from bs (suc k)

all_above : (bs : List Bool) (k : ℕ) → Above k (rules_from bs k)
all_above [] k = tt
all_above (true ∷ bs) k = lower k (suc k) _ (omega arith) (all_above bs (suc k))
all_above (false ∷ bs) k = (omega arith, lower k (suc k) _ (omega arith) (all_above bs (suc k)))

first_rule : (n place : ℕ) (bs : List Bool) (k : ℕ) → first_of (at_place n place (rules_from bs k)) ≡ located n place (slice_get (rules_from bs k) 0)
first_rule n place [] k = refl
first_rule n place (true ∷ bs) k = first_rule n place bs (suc k)
first_rule n place (false ∷ bs) k = ap (λ f. Some f) (earliest n place k (rules_from bs (suc k)) (lower k (suc k) _ (omega arith) (all_above bs (suc k))))

nine_rules : (a b c d e f g h i : Bool)
    → unless a 1 ++ unless b 2 ++ unless c 3 ++ unless d 4 ++ unless e 5 ++ unless f 6 ++ unless g 7 ++ unless h 8 ++ unless i 9
    ≡ rules_from (a ∷ b ∷ c ∷ d ∷ e ∷ f ∷ g ∷ h ∷ i ∷ []) 1
nine_rules a b c d e f g h i = simp (append_assoc, append-nil)

pub first_of_nine : (n place : ℕ) (a b c d e f g h i : Bool) →
    let rules = unless a 1 ++ unless b 2 ++ unless c 3 ++ unless d 4 ++ unless e 5 ++ unless f 6 ++ unless g 7 ++ unless h 8 ++ unless i 9 in
    first_of (at_place n place rules) ≡ located n place (slice_get rules 0)
first_of_nine n place a b c d e f g h i =
    let same = nine_rules a b c d e f g h i in
    ap (λ rs. first_of (at_place n place rs)) same ∙ first_rule n place (a ∷ b ∷ c ∷ d ∷ e ∷ f ∷ g ∷ h ∷ i ∷ []) 1
    ∙ sym (ap (λ rs. located n place (slice_get rs 0)) same)

pub first_of_two : (n place : ℕ) (a b : Bool)
    → first_of (at_place n place (unless a 3 ++ unless b 11)) ≡ located n place (slice_get (unless a 3 ++ unless b 11) 0)
first_of_two n place true true = refl
first_of_two n place true false = refl
first_of_two n place false true = refl
first_of_two n place false false = ap (λ f. Some f) (earliest n place 3 (11 ∷ []) (omega arith, tt))
