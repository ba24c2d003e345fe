-- Order and jumps where items are put behind those that are there.
use Rattle.std.proofs.Common.{◌≡◌, ℕ, ℤ, pos, negsuc, Bool, true, false, List, [], ◌∷◌, ◌++◌, Option, Some, None, refl, sym, ap, ◌∙◌, subst, if◌then◌else◌, ◌⊎◌, inl, inr, ⊎_elim}
use Rattle.std.specs.Prelude.{slice_get, option_map, option_and_then}
use Rattle.op_words.specs.declared.insn.Insn.{Insn}
use Rattle.op_words.specs.declared.insn.Insn.TheVariants as i
use Rattle.code_link.specs.declared.item.Item.{Item}
use Rattle.code_link.specs.declared.item.Item.TheVariants as item
use Rattle.code_link.specs.Labels.{labels}
use Rattle.machine_meaning.specs.Needs.{sets_top, reads_top, is_capture, goes_back}
use Rattle.machine_meaning.specs.WellFormed.{at_least}
use Rattle.shape_laws.specs.Order.{Owed, Nothing, AList, Captures, AWord, captures, closure_of, skipped, owed, owed_by, unless_bound, step, step_item, walk}
use Rattle.shape_laws.specs.Jumps.{Among, Await, Ahead, Around, awaited, labelled, closes, Closes, met, lands, Jumps}
use Rattle.shape_laws.proofs.Lists.{get_front}

-- ---- order

pub walk_then : (cs : List ℕ) (o q : Owed) (xs ys : List Item) → walk cs o xs ≡ Some q → walk cs o (xs ++ ys) ≡ walk cs q ys
walk_then cs o q [] ys e = let same : o ≡ q = cc in ap (λ (z : Owed). walk cs z ys) same
walk_then cs o q (x ∷ xs) ys e = by (λ p. walk_then cs p q xs ys) (step_item cs o x) e
  where
    by : ((p : Owed) → walk cs p xs ≡ Some q → walk cs p (xs ++ ys) ≡ walk cs q ys) → (r : Option Owed)
        → option_and_then (λ (p : Owed). walk cs p xs) r ≡ Some q → option_and_then (λ (p : Owed). walk cs p (xs ++ ys)) r ≡ walk cs q ys
    by later None f = cc
    by later (Some p) f = later p f

pub walk_last : (cs : List ℕ) (o q r : Owed) (xs : List Item) (x : Item) → walk cs o xs ≡ Some q → step_item cs q x ≡ Some r → walk cs o (xs ++ x ∷ []) ≡ Some r
walk_last cs o q r xs x e f = walk_then cs o q xs (x ∷ []) e ∙ ap (option_and_then (λ (p : Owed). walk cs p [])) f

owed_more : (cs more : List ℕ) (list : Option ℕ) (closure : Option ℤ) (skip : ℕ) (q : Owed) → owed cs list closure skip ≡ Some q
    → owed (cs ++ more) list closure skip ≡ Some q
owed_more cs more (Some from) closure skip q e = e
owed_more cs more None None skip q e = e
owed_more cs more None (Some (negsuc n)) skip q e = cc
owed_more cs more None (Some (pos n)) skip q e = by (slice_get cs n) refl e
  where
    by : (o : Option ℕ) → slice_get cs n ≡ o → option_map captures o ≡ Some q → option_map captures (slice_get (cs ++ more) n) ≡ Some q
    by None f g = cc
    by (Some c) f g = ap (option_map captures) (get_front cs more n c f) ∙ g

step_more : (cs more : List ℕ) (o : Owed) (x : Insn) (q : Owed) → step cs o x ≡ Some q → step (cs ++ more) o x ≡ Some q
step_more cs more Nothing x q e = by (is_capture x) (reads_top x) e
  where
    by : (c : Bool) (r : Option ℕ) → unless_bound c r (owed_by cs x) ≡ Some q → unless_bound c r (owed_by (cs ++ more) x) ≡ Some q
    by true r f = cc
    by false (Some n) f = cc
    by false None f = owed_more cs more (sets_top x) (closure_of x) (skipped x) q f
step_more cs more (AList from) x q e = by (at_least (reads_top x) from) e
  where
    by : (t : Bool) → (if t then owed_by cs x else None) ≡ Some q → (if t then owed_by (cs ++ more) x else None) ≡ Some q
    by true f = owed_more cs more (sets_top x) (closure_of x) (skipped x) q f
    by false f = cc
step_more cs more (Captures n) x q e = e
step_more cs more AWord x q e = e

item_more : (cs more : List ℕ) (o : Owed) (x : Item) (q : Owed) → step_item cs o x ≡ Some q → step_item (cs ++ more) o x ≡ Some q
item_more cs more o (item.Insn x) q e = step_more cs more o x q e
item_more cs more o (item.Branch x l) q e = step_more cs more o x q e
item_more cs more o (item.Label l) q e = e

pub walk_more : (cs more : List ℕ) (o q : Owed) (xs : List Item) → walk cs o xs ≡ Some q → walk (cs ++ more) o xs ≡ Some q
walk_more cs more o q [] e = e
walk_more cs more o q (x ∷ xs) e = by (λ p. walk_more cs more p q xs) (step_item cs o x) refl e
  where
    by : ((p : Owed) → walk cs p xs ≡ Some q → walk (cs ++ more) p xs ≡ Some q) → (r : Option Owed) → step_item cs o x ≡ r
        → option_and_then (λ (p : Owed). walk cs p xs) r ≡ Some q
        → option_and_then (λ (p : Owed). walk (cs ++ more) p xs) (step_item (cs ++ more) o x) ≡ Some q
    by later None f g = cc
    by later (Some p) f g = ap (option_and_then (λ (p : Owed). walk (cs ++ more) p xs)) (item_more cs more o x p f) ∙ later p g

-- ---- labels

labels_front : (l : ℕ) (xs ys : List Item) → Among l (labels xs) → Among l (labels (xs ++ ys))
labels_front l [] ys h = absurd h
labels_front l (item.Insn x ∷ xs) ys h = labels_front l xs ys h
labels_front l (item.Branch x m ∷ xs) ys h = labels_front l xs ys h
labels_front l (item.Label m ∷ xs) ys h = ⊎_elim (λ e. inl e) (λ r. inr (labels_front l xs ys r)) h

labels_last : (l : ℕ) (xs : List Item) → Among l (labels (xs ++ item.Label l ∷ []))
labels_last l [] = inl refl
labels_last l (item.Insn x ∷ xs) = labels_last l xs
labels_last l (item.Branch x m ∷ xs) = labels_last l xs
labels_last l (item.Label m ∷ xs) = inr (labels_last l xs)

-- behind a branch
labels_end : (l : ℕ) (xs : List Item) (x : Insn) (m : ℕ) → Among l (labels (xs ++ item.Branch x m ∷ item.Label l ∷ []))
labels_end l [] x m = inl refl
labels_end l (item.Insn y ∷ xs) x m = labels_end l xs x m
labels_end l (item.Branch y n ∷ xs) x m = labels_end l xs x m
labels_end l (item.Label n ∷ xs) x m = inr (labels_end l xs x m)

labelled_front : (l : ℕ) (xs ys : List Item) → labelled l xs → labelled l (xs ++ ys)
labelled_front l [] ys h = absurd h
labelled_front l (item.Insn x ∷ xs) ys h = absurd h
labelled_front l (item.Branch x m ∷ xs) ys h = absurd h
labelled_front l (item.Label m ∷ xs) ys h = h

closes_front : (a l : ℕ) (x : Item) (xs ys : List Item) → closes a l x xs → closes a l x (xs ++ ys)
closes_front a l (item.Insn x) xs ys h = absurd h
closes_front a l (item.Branch x m) xs ys h = (h.0, labelled_front l xs ys h.1)
closes_front a l (item.Label m) xs ys h = absurd h

loop_front : (a l : ℕ) (xs ys : List Item) → Closes a l xs → Closes a l (xs ++ ys)
loop_front a l [] ys h = absurd h
loop_front a l (x ∷ xs) ys h = ⊎_elim (λ e. inl (closes_front a l x xs ys e)) (λ r. inr (loop_front a l xs ys r)) h

loop_last : (a l m : ℕ) (z : ℤ) (xs : List Item) → Closes a l (xs ++ item.Branch (i.ForNLoop a z) m ∷ item.Label l ∷ [])
loop_last a l m z [] = inl (refl, refl)
loop_last a l m z (x ∷ xs) = inr (loop_last a l m z xs)

met_front : (w : Await) (xs ys : List Item) → met w xs → met w (xs ++ ys)
met_front (Ahead l) xs ys h = labels_front l xs ys h
met_front (Around a l) xs ys h = loop_front a l xs ys h

-- the labels that are placed, with those before
abbrev pub seen : (placed : List ℕ) → List Item → List ℕ
seen ps [] = ps
seen ps (item.Insn x ∷ is) = seen ps is
seen ps (item.Branch x l ∷ is) = seen ps is
seen ps (item.Label l ∷ is) = seen (l ∷ ps) is

pub seen_both : (ps : List ℕ) (xs ys : List Item) → seen ps (xs ++ ys) ≡ seen (seen ps xs) ys
seen_both ps [] ys = refl
seen_both ps (item.Insn x ∷ xs) ys = seen_both ps xs ys
seen_both ps (item.Branch x l ∷ xs) ys = seen_both ps xs ys
seen_both ps (item.Label l ∷ xs) ys = seen_both (l ∷ ps) xs ys

-- ---- jumps

lands_more : (back : Bool) (ps : List ℕ) (ws fs : List Await) (w : Await) (l : ℕ) (xs ys : List Item) → (Among w ws → ((is : List Item)
    → met w (is ++ ys)) ⊎ Among w fs)
    → lands back ps ws w l xs → lands back ps fs w l (xs ++ ys)
lands_more true ps ws fs w l xs ys settle h = h
lands_more false ps ws fs w l xs ys settle h =
    ⊎_elim (λ m. inl (met_front w xs ys m)) (λ p. ⊎_elim (λ f. inl (f xs)) (λ q. inr q) (settle p)) h

-- what is pending is met by what is put behind, or still pending
pub jumps_both : (ps : List ℕ) (ws fs : List Await) (xs ys : List Item) → ((w : Await) → Among w ws → ((is : List Item) → met w (is ++ ys)) ⊎ Among w fs)
    → Jumps ps ws xs → Jumps (seen ps xs) fs ys → Jumps ps fs (xs ++ ys)
jumps_both ps ws fs [] ys settle h j = j
jumps_both ps ws fs (item.Insn x ∷ xs) ys settle h j = jumps_both ps ws fs xs ys settle h j
jumps_both ps ws fs (item.Branch x l ∷ xs) ys settle h j =
    (lands_more (goes_back x) ps ws fs (awaited x l) l xs ys (settle (awaited x l)) h.0, jumps_both ps ws fs xs ys settle h.1 j)
jumps_both ps ws fs (item.Label l ∷ xs) ys settle h j = jumps_both (l ∷ ps) ws fs xs ys settle h j

-- more may be pending
pub jumps_await : (ps : List ℕ) (w : Await) (fs : List Await) (xs : List Item) → Jumps ps fs xs → Jumps ps (w ∷ fs) xs
jumps_await ps w fs [] h = tt
jumps_await ps w fs (item.Insn x ∷ xs) h = jumps_await ps w fs xs h
jumps_await ps w fs (item.Branch x l ∷ xs) h = (by (goes_back x) h.0, jumps_await ps w fs xs h.1)
  where
    by : (t : Bool) → lands t ps fs (awaited x l) l xs → lands t ps (w ∷ fs) (awaited x l) l xs
    by true p = p
    by false p = ⊎_elim (λ m. inl m) (λ q. inr (inr q)) p
jumps_await ps w fs (item.Label l ∷ xs) h = jumps_await (l ∷ ps) w fs xs h

module _ (ps : List ℕ) (fs : List Await) (xs : List Item) where
  pub jumps_insn : (x : Insn) → Jumps ps fs xs → Jumps ps fs (xs ++ item.Insn x ∷ [])
  jumps_insn x h = jumps_both ps fs fs xs (item.Insn x ∷ []) (λ w p. inr p) h tt

  pub jumps_ahead : (x : Insn) (l : ℕ) → goes_back x ≡ false → Among (awaited x l) fs → Jumps ps fs xs → Jumps ps fs (xs ++ item.Branch x l ∷ [])
  jumps_ahead x l e p h =
      let here : lands (goes_back x) (seen ps xs) fs (awaited x l) l [] = subst (λ t. lands t (seen ps xs) fs (awaited x l) l []) (sym e) (inr p) in
      jumps_both ps fs fs xs (item.Branch x l ∷ []) (λ w q. inr q) h (here, tt)

  pub jumps_back : (x : Insn) (l : ℕ) → goes_back x ≡ true → Among l (seen ps xs) → Jumps ps fs xs → Jumps ps fs (xs ++ item.Branch x l ∷ [])
  jumps_back x l e p h =
      let here : lands (goes_back x) (seen ps xs) fs (awaited x l) l [] = subst (λ t. lands t (seen ps xs) fs (awaited x l) l []) (sym e) p in
      jumps_both ps fs fs xs (item.Branch x l ∷ []) (λ w q. inr q) h (here, tt)

  pub jumps_label : (l : ℕ) → Jumps ps (Ahead l ∷ fs) xs → Jumps ps fs (xs ++ item.Label l ∷ [])
  jumps_label l h = jumps_both ps (Ahead l ∷ fs) fs xs (item.Label l ∷ []) settle h tt
    where
      settle : (w : Await) → Among w (Ahead l ∷ fs) → ((is : List Item) → met w (is ++ item.Label l ∷ [])) ⊎ Among w fs
      settle w p = ⊎_elim (λ e. inl (λ is. subst (λ (v : Await). met v (is ++ item.Label l ∷ [])) (sym e) (labels_last l is))) (λ q. inr q) p

  pub jumps_end : (a l m : ℕ) (z : ℤ) → Among m (seen ps xs) → Jumps ps (Around a l ∷ (Ahead l ∷ fs)) xs
      → Jumps ps fs (xs ++ item.Branch (i.ForNLoop a z) m ∷ item.Label l ∷ [])
  jumps_end a l m z p h = jumps_both ps (Around a l ∷ (Ahead l ∷ fs)) fs xs both settle h (p, tt)
    where
      both : List Item
      both = item.Branch (i.ForNLoop a z) m ∷ item.Label l ∷ []

      settle : (w : Await) → Among w (Around a l ∷ (Ahead l ∷ fs)) → ((is : List Item)
          → met w (is ++ item.Branch (i.ForNLoop a z) m ∷ item.Label l ∷ [])) ⊎ Among w fs
      settle w q =
          ⊎_elim (λ e. inl (λ is. subst (λ (v : Await). met v (is ++ item.Branch (i.ForNLoop a z) m ∷ item.Label l ∷ [])) (sym e) (loop_last a l m z is)))
          (λ r. ⊎_elim (λ e. inl (λ is. subst (λ (v : Await). met v (is ++ item.Branch (i.ForNLoop a z) m ∷ item.Label l ∷ [])) (sym e) (labels_end l is
          (i.ForNLoop a z) m))) (λ s. inr s) r) q
