-- The locals with what some notes say of them, and one note more.
use Rattle.std.proofs.Common.{◌≡◌, ◌≢◌, ◌⊎◌, inl, inr, ◌∙◌, take, get_or, ◌<◌, ◌≤◌, ◌+◌, ◌&&◌, ◌||◌, ℕ, suc, zero, Bool, true, false, List, [], ◌∷◌, ◌++◌, Option, Some, None, length, refl, sym, ap, ap₂, arith}
use Rattle.std.proofs.lemmas.List.Folds.{list_any-append}
use Rattle.std.proofs.lemmas.Bool.{eq-eqb}
use Rattle.std.proofs.lemmas.Bool.Decides.{eqb_tells}
use Rattle.std.proofs.Math.Dec.{eqb}
use Rattle.std.proofs.Math.Bool.{or-false, and-true}
use Rattle.std.specs.List.{list_any}
use Rattle.std.specs.Prelude.{slice_get}
use Rattle.syntax_tree.specs.declared.bindings.Bound.{Bound}
use Rattle.syntax_tree.specs.declared.bindings.Bound.TheVariants as bound
use Rattle.syntax_tree.specs.declared.bindings.LocalInfo.{LocalInfo}
use Rattle.syntax_tree.specs.declared.notes.Note.{Note}
use Rattle.syntax_tree.specs.Bound.{used_from, is_captured, is_assigned, is_up}
use Rattle.syntax_tree.specs.Captures.{is_some, stands_for}
use Rattle.syntax_tree.specs.Scope.{local_of}
use Rattle.std.proofs.lemmas.List.{take_more}
use Rattle.scopes.specs.Used.{is_from_inside, marked_at, marked, lookup}

-- ---- what one note more says of one local

no_and : (b : Bool) → (b && false) ≡ false
no_and true = refl
no_and false = refl

last_any : (p : Note → Bool) (notes : List Note) (n : Note) (b : Bool) → p n ≡ b → list_any p (notes ++ n ∷ []) ≡ (list_any p notes || b)
last_any p notes n b e = list_any-append p notes (n ∷ []) ∙ ap (λ x. list_any p notes || x) (or-false (p n) ∙ e)

-- a note that stands for none of the locals from number b on
pub record IsApart (n : Note) (b : ℕ) : Type 0 where
  pub up : (k : ℕ) → b ≤ k → is_up k n.bound ≡ false
  pub some : (k : ℕ) → b ≤ k → stands_for k n ≡ false

captured_apart : (notes : List Note) (n : Note) (b k : ℕ) → IsApart n b → b ≤ k → is_captured (notes ++ n ∷ []) k ≡ is_captured notes k
captured_apart notes n b k h le = last_any (λ note. is_up k note.bound) notes n false (h.up k le) ∙ or-false (is_captured notes k)

assigned_apart : (notes : List Note) (n : Note) (b k : ℕ) → IsApart n b → b ≤ k → is_assigned (notes ++ n ∷ []) k ≡ is_assigned notes k
assigned_apart notes n b k h le =
    last_any (λ note. note.target && stands_for k note) notes n false (ap (λ x. n.target && x) (h.some k le) ∙ no_and n.target) ∙ or-false (is_assigned notes k)

abbrev flags : LocalInfo → Bool → Bool → LocalInfo
flags l captured assigned = record l { captured = captured; assigned = assigned }

weaker : (n : Note) (b : ℕ) → IsApart n b → IsApart n (b + 1)
weaker n b h = record { up = λ k le. h.up k (omega (arith, le)); some = λ k le. h.some k (omega (arith, le)) }

same_flags : (notes : List Note) (n : Note) (b : ℕ) (l : LocalInfo) → is_captured (notes ++ n ∷ []) b ≡ is_captured notes b → is_assigned (notes ++ n ∷ []) b ≡ is_assigned notes b → ◌≡◌ {A = LocalInfo} (record l { captured = is_captured (notes ++ n ∷ []) b; assigned = is_assigned (notes ++ n ∷ []) b }) (record l { captured = is_captured notes b; assigned = is_assigned notes b })
same_flags notes n b l p q = ap₂ (λ c a. flags l c a) p q

same_from : (notes : List Note) (n : Note) (b : ℕ) (ls : List LocalInfo) → IsApart n b → used_from (notes ++ n ∷ []) b ls ≡ used_from notes b ls
same_from notes n b [] h = refl
same_from notes n b (l ∷ ls) h =
    ap₂ (λ (x : LocalInfo) xs. x ∷ xs) (same_flags notes n b l (captured_apart notes n b b h (omega arith)) (assigned_apart notes n b b h (omega arith))) (same_from notes n (b + 1) ls (weaker n b h))

-- ---- a note that stands for local k

pub record IsFor (n : Note) (k : ℕ) : Type 0 where
  pub up : is_up k n.bound ≡ is_from_inside n.bound
  pub some : stands_for k n ≡ true
  pub other_up : (m : ℕ) → m ≢ k → is_up m n.bound ≡ false
  pub other_some : (m : ℕ) → m ≢ k → stands_for m n ≡ false

apart_after : (n : Note) (k b : ℕ) → IsFor n k → k < b → IsApart n b
apart_after n k b h lt = record { up = λ m le. h.other_up m (λ e. omega (arith, lt, le, e)); some = λ m le. h.other_some m (λ e. omega (arith, lt, le, e)) }

marked_cons : (n : Note) (x : LocalInfo) (xs : List LocalInfo) (j : ℕ) (o : Option LocalInfo) → marked_at n (x ∷ xs) (Some (suc j)) o ≡ x ∷ marked_at n xs (Some j) o
marked_cons n x xs j None = refl
marked_cons n x xs j (Some info) = refl

marked_from : (notes : List Note) (n : Note) (k b j : ℕ) (ls : List LocalInfo) → k ≡ b + j → IsFor n k → marked_at n (used_from notes b ls) (Some j) (slice_get (used_from notes b ls) j) ≡ used_from (notes ++ n ∷ []) b ls
marked_from notes n k b j [] e h = refl
marked_from notes n k b zero (l ∷ ls) e h =
    let at : b ≡ k = omega (arith, e) in
    let up : is_up b n.bound ≡ is_from_inside n.bound = ap (λ m. is_up m n.bound) at ∙ h.up in
    let some : stands_for b n ≡ true = ap (λ m. stands_for m n) at ∙ h.some in
    let captured = last_any (λ note. is_up b note.bound) notes n (is_from_inside n.bound) up in
    let assigned = last_any (λ note. note.target && stands_for b note) notes n n.target (ap (λ x. n.target && x) some ∙ and-true n.target) in
    ap₂ (λ (x : LocalInfo) xs. x ∷ xs) (ap₂ (λ c a. flags l c a) (sym captured) (sym assigned)) (sym (same_from notes n (b + 1) ls (apart_after n k (b + 1) h (omega (arith, e)))))
marked_from notes n k b (suc j) (l ∷ ls) e h =
    let off : b ≢ k = λ at. omega (arith, e, at) in
    let captured = last_any (λ note. is_up b note.bound) notes n false (h.other_up b off) ∙ or-false (is_captured notes b) in
    let assigned = last_any (λ note. note.target && stands_for b note) notes n false (ap (λ x. n.target && x) (h.other_some b off) ∙ no_and n.target) ∙ or-false (is_assigned notes b) in
    marked_cons n (flags l (is_captured notes b) (is_assigned notes b)) (used_from notes (b + 1) ls) j (slice_get (used_from notes (b + 1) ls) j)
    ∙ ap₂ (λ (x : LocalInfo) xs. x ∷ xs) (ap₂ (λ c a. flags l c a) (sym captured) (sym assigned)) (marked_from notes n k (b + 1) j ls (omega (arith, e)) h)

chosen : (a b : ℕ) → a ≢ b → ((eqb a b ≡ true) × (a ≡ b)) ⊎ ((eqb a b ≡ false) × (a ≢ b)) → eqb a b ≡ false
chosen a b h (inl p) = absurd (h p.1)
chosen a b h (inr p) = p.0

not_equal : (a b : ℕ) → a ≢ b → eqb a b ≡ false
not_equal a b h = chosen a b h (eqb_tells a b)

-- one note more, of all the locals
pub marked_more : (notes : List Note) (n : Note) (ls : List LocalInfo) (o : Option Bound) → n.bound ≡ o → marked n (used_from notes 0 ls) ≡ used_from (notes ++ n ∷ []) 0 ls
marked_more notes n ls None e =
    ap (λ o. marked_at n (used_from notes 0 ls) (local_of o) (lookup (used_from notes 0 ls) (local_of o))) e
    ∙ sym (same_from notes n 0 ls (record { up = λ k le. ap (is_up k) e; some = λ k le. ap (λ o. is_some k (local_of o)) e }))
marked_more notes n ls (Some bound.Global) e =
    ap (λ o. marked_at n (used_from notes 0 ls) (local_of o) (lookup (used_from notes 0 ls) (local_of o))) e
    ∙ sym (same_from notes n 0 ls (record { up = λ k le. ap (is_up k) e; some = λ k le. ap (λ o. is_some k (local_of o)) e }))
marked_more notes n ls (Some (bound.Local k)) e =
    ap (λ o. marked_at n (used_from notes 0 ls) (local_of o) (lookup (used_from notes 0 ls) (local_of o))) e
    ∙ marked_from notes n k 0 k ls (omega arith) (record {
      up = ap (is_up k) e ∙ sym (ap is_from_inside e);
      some = ap (λ o. is_some k (local_of o)) e ∙ eq-eqb k k refl;
      other_up = λ m h. ap (is_up m) e;
      other_some = λ m h. ap (λ o. is_some m (local_of o)) e ∙ not_equal k m (λ q. h (sym q));
    })
marked_more notes n ls (Some (bound.Up k)) e =
    ap (λ o. marked_at n (used_from notes 0 ls) (local_of o) (lookup (used_from notes 0 ls) (local_of o))) e
    ∙ marked_from notes n k 0 k ls (omega arith) (record {
      up = ap (is_up k) e ∙ eq-eqb k k refl ∙ sym (ap is_from_inside e);
      some = ap (λ o. is_some k (local_of o)) e ∙ eq-eqb k k refl;
      other_up = λ m h. ap (is_up m) e ∙ not_equal k m (λ q. h (sym q));
      other_some = λ m h. ap (λ o. is_some m (local_of o)) e ∙ not_equal k m (λ q. h (sym q));
    })

-- one turn of the loop over notes
pub marked_turn : (notes : List Note) (i : ℕ) (d : Note) (ls now new : List LocalInfo) → i < length notes → new ≡ marked (get_or notes i d) now → now ≡ used_from (take i notes) 0 ls → new ≡ used_from (take (i + 1) notes) 0 ls
marked_turn notes i d ls now new lt e p =
    let n = get_or notes i d in
    e ∙ ap (marked n) p ∙ marked_more (take i notes) n ls n.bound refl ∙ sym (ap (λ l. used_from l 0 ls) (take_more notes i d lt))
