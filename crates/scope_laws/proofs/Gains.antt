-- The names by which a function gains a local stand for each captured local once.
use Rattle.std.proofs.Common.{◌≡◌, ◌≢◌, ◌⊎◌, inl, inr, ◌∙◌, ℕ, zero, suc, ◌<◌, ◌≤◌, ◌==◌, ◌&&◌, ◌||◌, not, Bool, true, false, List, [], ◌∷◌, ◌++◌, length, take, Option, Some, None, refl, sym, ap, ap₂, subst, arith, slice_get, if◌then◌else◌}
use Rattle.std.proofs.lemmas.Bool.Decides.{eqb_tells, leb_tells}
use Rattle.std.proofs.lemmas.List.Elements.{Contains-append_cases, Contains-append_right}
use Rattle.std.proofs.lemmas.List.Folds.{list_any-append}
use Rattle.std.proofs.lemmas.Option.{slice_get_within, slice_get-get_or, get_or_from_slice_get}
use Rattle.std.proofs.Math.Dec.{eqb, leb}
use Rattle.std.specs.List.{Contains, list_any}
use Rattle.std.specs.Prelude.{nat_lt}
use Rattle.syntax_tree.specs.declared.notes.Note.{Note}
use Rattle.syntax_tree.specs.Captures.{is_some, stands_for, is_new, capture, gains, variables}
use Rattle.syntax_tree.specs.Lists.{or_zero}
use Rattle.syntax_tree.specs.Scope.{local_of}
use Rattle.scope_laws.proofs.Places.{none_some, same_some, false_true}

-- ---- truth

left_false : (a b : Bool) → (a || b) ≡ false → a ≡ false
left_false true b h = absurd (false_true (sym h))
left_false false b h = refl

right_false : (a b : Bool) → (a || b) ≡ false → b ≡ false
right_false true b h = absurd (false_true (sym h))
right_false false b h = h

right_true : (a b : Bool) → b ≡ true → (a || b) ≡ true
right_true true b h = refl
right_true false b h = h

other_true : (a b : Bool) → a ≡ false → (a || b) ≡ true → b ≡ true
other_true true b e h = absurd (false_true (sym e))
other_true false b e h = h

pub both_true : (a b : Bool) → (a && b) ≡ true → (a ≡ true) × (b ≡ true)
both_true true b h = (refl, h)
both_true false b h = absurd (false_true h)

true_not : (a : Bool) → not a ≡ true → a ≡ false
true_not true h = absurd (false_true h)
true_not false h = refl

pub less_true : (a b : ℕ) → nat_lt a b ≡ true → a < b
less_true a b h = told (leb_tells (suc a) b) where
  told : ((leb (suc a) b ≡ true) × (suc a ≤ b)) ⊎ ((leb (suc a) b ≡ false) × (b < suc a)) → a < b
  told (inl p) = omega (arith, p.1)
  told (inr p) = absurd (false_true (sym p.0 ∙ h))

pub true_less : (a b : ℕ) → a < b → nat_lt a b ≡ true
true_less a b h = told (leb_tells (suc a) b) where
  told : ((leb (suc a) b ≡ true) × (suc a ≤ b)) ⊎ ((leb (suc a) b ≡ false) × (b < suc a)) → nat_lt a b ≡ true
  told (inl p) = p.0
  told (inr p) = absurd (omega (arith, h, p.1))

pub same_true : (a : ℕ) → (a == a) ≡ true
same_true a = told (eqb_tells a a) where
  told : ((eqb a a ≡ true) × (a ≡ a)) ⊎ ((eqb a a ≡ false) × (a ≢ a)) → (a == a) ≡ true
  told (inl p) = p.0
  told (inr p) = absurd (p.1 refl)

pub true_same : (a b : ℕ) → (a == b) ≡ true → a ≡ b
true_same a b h = told (eqb_tells a b) where
  told : ((eqb a b ≡ true) × (a ≡ b)) ⊎ ((eqb a b ≡ false) × (a ≢ b)) → a ≡ b
  told (inl p) = p.1
  told (inr p) = absurd (false_true (sym p.0 ∙ h))

-- ---- what a note stands for

pub is_some_true : (k : ℕ) (o : Option ℕ) → is_some k o ≡ true → o ≡ Some k
is_some_true k None h = absurd (false_true h)
is_some_true k (Some j) h = ap Some (true_same j k h)

pub true_is_some : (k : ℕ) (o : Option ℕ) → o ≡ Some k → is_some k o ≡ true
true_is_some k o h = ap (is_some k) h ∙ same_true k

-- a new local is declared outside, and nothing before stands for it
new_true : (first : ℕ) (before : List Note) (o : Option ℕ) → is_new first before o ≡ true →
    (k : ℕ) × (o ≡ Some k) × (k < first) × (list_any (stands_for k) before ≡ false)
new_true first before None h = absurd (false_true h)
new_true first before (Some k) h =
    let both : (nat_lt k first ≡ true) × (not (list_any (stands_for k) before) ≡ true) =
    both_true (nat_lt k first) (not (list_any (stands_for k) before)) h in
    (k, refl, less_true k first both.0, true_not (list_any (stands_for k) before) both.1)

true_new : (first : ℕ) (before : List Note) (k : ℕ) (o : Option ℕ) → o ≡ Some k → k < first → list_any (stands_for k) before ≡ false →
    is_new first before o ≡ true
true_new first before k o e lt h =
    ap (is_new first before) e ∙ ap (λ b. b && not (list_any (stands_for k) before)) (true_less k first lt) ∙ ap not h

-- ---- elements

contains_first : (x : ℕ) (xs : List ℕ) → Contains (x ∷ xs) x
contains_first x xs = (0, omega arith, refl)

contains_cases : (x : ℕ) (xs : List ℕ) (y : ℕ) → Contains (x ∷ xs) y → (x ≡ y) ⊎ Contains xs y
contains_cases x xs y h = told (Contains-append_cases (x ∷ []) xs y h) where
  only : (i : ℕ) → i < length (x ∷ []) → slice_get (x ∷ []) i ≡ Some y → x ≡ y
  only zero lt e = same_some e
  only (suc i) lt e = absurd (omega (arith, lt))

  told : Contains (x ∷ []) y ⊎ Contains xs y → (x ≡ y) ⊎ Contains xs y
  told (inl c) = inl (only c.0 c.1 (slice_get-get_or (x ∷ []) c.0 y c.1 ∙ ap Some c.2))
  told (inr c) = inr c

pub contains_at : (xs : List ℕ) (i x : ℕ) → slice_get xs i ≡ Some x → Contains xs x
contains_at xs i x h = (i, slice_get_within xs i x h, get_or_from_slice_get xs i x x h)

-- ---- gaining

-- the locals that are gained by the first names that stand for them
pub record Gained (first : ℕ) (before notes : List Note) : Type 0 where
  pub locals : List ℕ
  pub is : locals ≡ variables (gains first before notes)
  pub sound : (k : ℕ) → Contains locals k → (k < first) × (list_any (stands_for k) notes ≡ true) × (list_any (stands_for k) before ≡ false)
  pub complete : (k : ℕ) → k < first → list_any (stands_for k) notes ≡ true → list_any (stands_for k) before ≡ false → Contains locals k
  pub once : (i j k : ℕ) → slice_get locals i ≡ Some k → slice_get locals j ≡ Some k → i ≡ j
  -- before a name that stands for one of them, names stand for those before it
  pub order : (i j earlier later place : ℕ) (note : Note) → i < j → slice_get locals i ≡ Some earlier → slice_get locals j ≡ Some later →
      slice_get notes place ≡ Some note → stands_for later note ≡ true → list_any (stands_for earlier) (take place notes) ≡ true

before_false : (k : ℕ) (before : List Note) (note : Note) → list_any (stands_for k) (before ++ note ∷ []) ≡ false →
    (list_any (stands_for k) before ≡ false) × (stands_for k note ≡ false)
before_false k before note h =
    let e : (list_any (stands_for k) before || (stands_for k note || false)) ≡ false =
    sym (list_any-append (stands_for k) before (note ∷ [])) ∙ h in (
      left_false (list_any (stands_for k) before) (stands_for k note || false) e,
      left_false (stands_for k note) false (right_false
          (list_any (stands_for k) before) (stands_for k note || false) e),
    )

false_before : (k : ℕ) (before : List Note) (note : Note) → list_any (stands_for k) before ≡ false → stands_for k note ≡ false →
    list_any (stands_for k) (before ++ note ∷ []) ≡ false
false_before k before note h e =
    list_any-append (stands_for k) before (note ∷ []) ∙ ap (λ b. b || (stands_for k note || false)) h ∙ ap (λ b. b || false) e

-- a note before others does not stand for what they gain
not_before : (first : ℕ) (before : List Note) (note : Note) (notes : List Note) (rest : Gained first (before ++ note ∷ []) notes) (j k : ℕ)
    {seen : Note} → slice_get rest.locals j ≡ Some k → note ≡ seen → stands_for k seen ≡ true → ⊥
not_before first before note notes rest j k at same stands =
    let s : (k < first) × (list_any (stands_for k) notes ≡ true) × (list_any (stands_for k) (before ++ note ∷ []) ≡ false) =
    rest.sound k (contains_at rest.locals j k at) in
    false_true (sym (before_false k before note s.2).1 ∙ ap (stands_for k) same ∙ stands)

skips_one : (first : ℕ) (before : List Note) (note : Note) (notes : List Note) → is_new first before (local_of note.bound) ≡ false →
    Gained first (before ++ note ∷ []) notes → Gained first before (note ∷ notes)
skips_one first before note notes old rest = record {
  locals = rest.locals;
  is = rest.is ∙ ap (λ b. variables (if b then capture note ∷ gains first (before ++ note ∷ []) notes else gains first
      (before ++ note ∷ []) notes)) (sym old);
  sound = λ k c.
      let s : (k < first) × (list_any (stands_for k) notes ≡ true) × (list_any (stands_for k) (before ++ note ∷ []) ≡ false) =
      rest.sound k c in
      (s.0, right_true (stands_for k note) (list_any (stands_for k) notes) s.1, (before_false k before note s.2).0);
  complete = λ k lt any none. by k lt any none (stands_for k note) refl (rest.complete k lt);
  once = rest.once;
  order = order;
} where
  order : (i j earlier later place : ℕ) (seen : Note) → i < j → slice_get rest.locals i ≡ Some earlier → slice_get rest.locals j ≡ Some later →
      slice_get (note ∷ notes) place ≡ Some seen → stands_for later seen ≡ true → list_any (stands_for earlier) (take place (note ∷ notes)) ≡ true
  order i j earlier later zero seen lt a b at stands = absurd (not_before first before note notes rest j later b (same_some at) stands)
  order i j earlier later (suc place) seen lt a b at stands =
      right_true (stands_for earlier note) (list_any (stands_for earlier) (take place notes))
      (rest.order i j earlier later place seen lt a b at stands)

  by : (k : ℕ) → k < first → (stands_for k note || list_any (stands_for k) notes) ≡ true → list_any (stands_for k) before ≡ false →
      (b : Bool) → stands_for k note ≡ b → (list_any (stands_for k) notes ≡ true → list_any (stands_for k) (before ++ note ∷ []) ≡ false →
      Contains rest.locals k) → Contains rest.locals k
  by k lt any none true e later = absurd (false_true (sym old ∙ true_new first before k (local_of note.bound) (is_some_true k
      (local_of note.bound) e) lt none))
  by k lt any none false e later = later (other_true (stands_for k note) (list_any (stands_for k) notes) e any)
      (false_before k before note none e)

gains_one : (first : ℕ) (before : List Note) (note : Note) (notes : List Note) → is_new first before (local_of note.bound) ≡ true →
    Gained first (before ++ note ∷ []) notes → Gained first before (note ∷ notes)
gains_one first before note notes new rest = record {
  locals = j ∷ rest.locals;
  is = ap₂ (λ k ks. k ∷ ks) (ap or_zero (sym fresh.1)) rest.is ∙ ap (λ b. variables (if b then capture note ∷ gains first
      (before ++ note ∷ []) notes else gains first (before ++ note ∷ []) notes)) (sym new);
  sound = λ k c. sound k (contains_cases j rest.locals k c);
  complete = λ k lt any none. complete k lt any none (eqb_tells j k);
  once = once;
  order = order;
} where
  fresh : (k : ℕ) × (local_of note.bound ≡ Some k) × (k < first) × (list_any (stands_for k) before ≡ false)
  fresh = new_true first before (local_of note.bound) new

  j : ℕ
  j = fresh.0

  stands : stands_for j note ≡ true
  stands = true_is_some j (local_of note.bound) fresh.1

  is_not : (k : ℕ) → j ≢ k → (b : Bool) → stands_for k note ≡ b → stands_for k note ≡ false
  is_not k ne true e = absurd (ne (same_some (sym fresh.1 ∙ is_some_true k (local_of note.bound) e)))
  is_not k ne false e = e

  sound : (k : ℕ) → (j ≡ k) ⊎ Contains rest.locals k → (k < first) × (list_any (stands_for k) (note ∷ notes) ≡ true) × (list_any
      (stands_for k) before ≡ false)
  sound k (inl e) =
      subst (λ k. (k < first) × (list_any (stands_for k) (note ∷ notes) ≡ true) × (list_any (stands_for k) before ≡ false)) e
      (fresh.2, ap (λ b. b || list_any (stands_for j) notes) stands, fresh.3)
  sound k (inr c) =
      let s : (k < first) × (list_any (stands_for k) notes ≡ true) × (list_any (stands_for k) (before ++ note ∷ []) ≡ false) =
      rest.sound k c in
      (s.0, right_true (stands_for k note) (list_any (stands_for k) notes) s.1, (before_false k before note s.2).0)

  complete : (k : ℕ) → k < first → list_any (stands_for k) (note ∷ notes) ≡ true → list_any (stands_for k) before ≡ false →
      ((eqb j k ≡ true) × (j ≡ k)) ⊎ ((eqb j k ≡ false) × (j ≢ k)) → Contains (j ∷ rest.locals) k
  complete k lt any none (inl p) = subst (Contains (j ∷ rest.locals)) p.1 (contains_first j rest.locals)
  complete k lt any none (inr p) =
      let not_this : stands_for k note ≡ false = is_not k p.1 (stands_for k note) refl in
      Contains-append_right (j ∷ []) rest.locals k (rest.complete k lt (other_true (stands_for k note) (list_any
      (stands_for k) notes) not_this any) (false_before k before note none not_this))

  apart : (i k : ℕ) → j ≡ k → slice_get rest.locals i ≡ Some k → ⊥
  apart i k e h =
      let s : (k < first) × (list_any (stands_for k) notes ≡ true) × (list_any (stands_for k) (before ++ note ∷ []) ≡ false) =
      rest.sound k (contains_at rest.locals i k h) in
      false_true (sym (before_false k before note s.2).1 ∙ subst (λ k. stands_for k note ≡ true) e stands)

  once : (a b k : ℕ) → slice_get (j ∷ rest.locals) a ≡ Some k → slice_get (j ∷ rest.locals) b ≡ Some k → a ≡ b
  once zero zero k h g = refl
  once zero (suc b) k h g = absurd (apart b k (same_some h) g)
  once (suc a) zero k h g = absurd (apart a k (same_some g) h)
  once (suc a) (suc b) k h g = ap suc (rest.once a b k h g)

  order : (a b earlier later place : ℕ) (seen : Note) → a < b → slice_get (j ∷ rest.locals) a ≡ Some earlier →
      slice_get (j ∷ rest.locals) b ≡ Some later → slice_get (note ∷ notes) place ≡ Some seen → stands_for later seen ≡ true →
      list_any (stands_for earlier) (take place (note ∷ notes)) ≡ true
  order a zero earlier later place seen lt h g at e = absurd (omega (arith, lt))
  order a (suc b) earlier later zero seen lt h g at e = absurd (not_before first before note notes rest b later g (same_some at) e)
  order zero (suc b) earlier later (suc place) seen lt h g at e =
      ap (λ z. z || list_any (stands_for earlier) (take place notes)) (subst (λ k. stands_for k note ≡ true) (same_some h) stands)
  order (suc a) (suc b) earlier later (suc place) seen lt h g at e =
      right_true (stands_for earlier note) (list_any (stands_for earlier) (take place notes))
      (rest.order a b earlier later place seen (omega (arith, lt)) h g at e)

pub gained : (first : ℕ) (before notes : List Note) → Gained first before notes
gained first before [] = record {
  locals = [];
  is = refl;
  sound = λ k c. absurd (omega (arith, c.1));
  complete = λ k lt any none. absurd (false_true any);
  once = λ i j k h g. absurd (none_some h);
  order = λ i j earlier later place note lt h g at e. absurd (none_some h);
}
gained first before (note ∷ notes) = by (is_new first before (local_of note.bound)) refl (gained first (before ++ note ∷ []) notes) where
  by : (b : Bool) → is_new first before (local_of note.bound) ≡ b → Gained first (before ++ note ∷ []) notes →
      Gained first before (note ∷ notes)
  by true e rest = gains_one first before note notes e rest
  by false e rest = skips_one first before note notes e rest
