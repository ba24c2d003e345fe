-- The heads and the entries of the visible names, and how they change.
use Rattle.std.proofs.Common.{◌≡◌, ◌≢◌, ◌⊎◌, inl, inr, ◌∙◌, get_or, set, ◌<◌, ◌≤◌, ◌-◌, ◌==◌, ℕ, suc, zero, Bool, true, false, List, [], ◌∷◌, ◌++◌, Option, Some, None, length, refl, sym, subst, ap, arith, slice_get, append_assoc, append-nil, get_or-set_same, get_or-set_other, length-append}
use Rattle.std.proofs.lemmas.List.{length-map, map_push}
use Rattle.std.proofs.lemmas.Option.{slice_get-get_or, slice_get-map}
use Rattle.std.proofs.lemmas.Bool.Decides.{eqb_tells}
use Rattle.std.proofs.Math.Dec.{eqb}
use Rattle.std.specs.Prelude.{slice_index, slice_set, option_map}
use Rattle.byte_text.specs.declared.fixed.StrId.{StrId}
use Rattle.syntax_tree.specs.declared.notes.Visible.{Visible}
use Rattle.syntax_tree.specs.Scope.{look, unless_later}
use Rattle.scopes.specs.declared.scope.Entry.{Entry}
use Rattle.scopes.specs.Heads.{latest, one_later, visible_of, local_in, SayBefore, IsLinked}

-- ---- the latest of a name

later_within : (m n : ℕ) (same : Bool) → m ≤ n → one_later m same ≤ suc n
later_within zero n true h = omega arith
later_within zero n false h = omega arith
later_within (suc m) n same h = omega (arith, h)

latest_within : (name : ℕ) (vs : List Visible) → latest name vs ≤ length vs
latest_within name [] = omega arith
latest_within name (v ∷ vs) = later_within (latest name vs) (length vs) (v.name.0 == name) (latest_within name vs)

-- the place with one more element after the list, which has that name or not
abbrev one_more : Bool → ℕ → ℕ → ℕ
one_more true length place = suc length
one_more false length place = place

more_later : (b same : Bool) (n m : ℕ) → one_later (one_more b n m) same ≡ one_more b (suc n) (one_later m same)
more_later true same n m = refl
more_later false same n m = refl

latest_push : (name : ℕ) (vs : List Visible) (v : Visible) → latest name (vs ++ v ∷ []) ≡ one_more (v.name.0 == name) (length vs) (latest name vs)
latest_push name [] v = alone (v.name.0 == name) where
  alone : (b : Bool) → one_later 0 b ≡ one_more b 0 0
  alone true = refl
  alone false = refl
latest_push name (w ∷ vs) v =
    ap (λ n. one_later n (w.name.0 == name)) (latest_push name vs v) ∙ more_later (v.name.0 == name) (w.name.0 == name) (length vs) (latest name vs)

same_latest : (name : ℕ) (vs : List Visible) (v : Visible) → v.name.0 ≡ name → latest name (vs ++ v ∷ []) ≡ suc (length vs)
same_latest name vs v e = latest_push name vs v ∙ chosen (eqb_tells v.name.0 name) where
  chosen : ((eqb v.name.0 name ≡ true) × (v.name.0 ≡ name)) ⊎ ((eqb v.name.0 name ≡ false) × (v.name.0 ≢ name)) → one_more (eqb v.name.0 name) (length vs) (latest name vs) ≡ suc (length vs)
  chosen (inl p) = ap (λ b. one_more b (length vs) (latest name vs)) p.0
  chosen (inr p) = absurd (p.1 e)

other_latest : (name : ℕ) (vs : List Visible) (v : Visible) → v.name.0 ≢ name → latest name (vs ++ v ∷ []) ≡ latest name vs
other_latest name vs v e = latest_push name vs v ∙ chosen (eqb_tells v.name.0 name) where
  chosen : ((eqb v.name.0 name ≡ true) × (v.name.0 ≡ name)) ⊎ ((eqb v.name.0 name ≡ false) × (v.name.0 ≢ name)) → one_more (eqb v.name.0 name) (length vs) (latest name vs) ≡ latest name vs
  chosen (inl p) = absurd (e p.1)
  chosen (inr p) = ap (λ b. one_more b (length vs) (latest name vs)) p.0

-- ---- looking up

abbrev of_visible : Option Visible → Option ℕ
of_visible None = None
of_visible (Some v) = Some v.local

abbrev local_at : ℕ → List Visible → Option ℕ
local_at zero vs = None
local_at (suc k) vs = of_visible (slice_get vs k)

of_entry : (o : Option Entry) → of_visible (option_map (λ (e : Entry). e.visible) o) ≡ local_in o
of_entry None = refl
of_entry (Some e) = refl

found_later : (v : Visible) (vs : List Visible) (m : ℕ) (same : Bool) → m ≤ length vs → unless_later same v.local (local_at m vs) ≡ local_at (one_later m same) (v ∷ vs)
found_later v vs zero true h = refl
found_later v vs zero false h = refl
found_later v vs (suc k) same h =
    let there : slice_get vs k ≡ Some (get_or vs k v) = slice_get-get_or vs k v (omega (arith, h)) in
    ap (λ o. unless_later same v.local (of_visible o)) there ∙ stays same (get_or vs k v).local ∙ sym (ap of_visible there) where
      stays : (b : Bool) (k : ℕ) → unless_later b v.local (Some k) ≡ Some k
      stays true k = refl
      stays false k = refl

look_at : (name : StrId) (vs : List Visible) → look name vs ≡ local_at (latest name.0 vs) vs
look_at name [] = refl
look_at name (v ∷ vs) =
    ap (unless_later (v.name.0 == name.0) v.local) (look_at name vs) ∙ found_later v vs (latest name.0 vs) (v.name.0 == name.0) (latest_within name.0 vs)

-- ---- entries

push_before : (seen : List Visible) (es : List Entry) (e : Entry) → SayBefore seen es → e.before ≡ latest e.visible.name.0 (seen ++ visible_of es) → SayBefore seen (es ++ e ∷ [])
push_before seen [] e h says = (says ∙ ap (latest e.visible.name.0) (append-nil seen), tt)
push_before seen (d ∷ es) e h says =
    (h.0, push_before (seen ++ d.visible ∷ []) es e h.1 (says ∙ ap (latest e.visible.name.0) (sym (append_assoc seen (d.visible ∷ []) (visible_of es)))))

pop_before : (seen : List Visible) (es : List Entry) (e : Entry) → SayBefore seen (es ++ e ∷ []) → SayBefore seen es × (e.before ≡ latest e.visible.name.0 (seen ++ visible_of es))
pop_before seen [] e h = (tt, h.0 ∙ ap (latest e.visible.name.0) (sym (append-nil seen)))
pop_before seen (d ∷ es) e h =
    let rest : SayBefore (seen ++ d.visible ∷ []) es × (e.before ≡ latest e.visible.name.0 ((seen ++ d.visible ∷ []) ++ visible_of es)) = pop_before (seen ++ d.visible ∷ []) es e h.1 in
    ((h.0, rest.0), rest.1 ∙ ap (latest e.visible.name.0) (append_assoc seen (d.visible ∷ []) (visible_of es)))

names_push : (es : List Entry) (e : Entry) → visible_of (es ++ e ∷ []) ≡ visible_of es ++ e.visible ∷ []
names_push es e = map_push (λ (d : Entry). d.visible) es e

-- ---- entries and heads

longer_heads : (es : List Entry) (heads new : List ℕ) → ((name : ℕ) → slice_index new name ≡ slice_index heads name) → IsLinked es heads → IsLinked es new
longer_heads es heads new same h = record { before = h.before; head = λ name. same name ∙ h.head name }

push_linked : (es : List Entry) (e : Entry) (heads : List ℕ) (n : ℕ) → e.visible.name.0 < length heads → e.before ≡ slice_index heads e.visible.name.0 → n ≡ length (es ++ e ∷ []) → IsLinked es heads → IsLinked (es ++ e ∷ []) (slice_set heads e.visible.name.0 n)
push_linked es e heads n within says len h = record {
  before = push_before [] es e h.before (says ∙ h.head e.visible.name.0);
  head = λ name. changed name (eqb_tells e.visible.name.0 name);
} where
  changed : (name : ℕ) → ((eqb e.visible.name.0 name ≡ true) × (e.visible.name.0 ≡ name)) ⊎ ((eqb e.visible.name.0 name ≡ false) × (e.visible.name.0 ≢ name)) → slice_index (slice_set heads e.visible.name.0 n) name ≡ latest name (visible_of (es ++ e ∷ []))
  changed name (inl p) =
      ap (λ k. slice_index (slice_set heads e.visible.name.0 n) k) (sym p.1) ∙ get_or-set_same heads e.visible.name.0 n 0 within ∙ len ∙ length-append es (e ∷ [])
      ∙ omega (arith, length-map es (λ (d : Entry). d.visible)) ∙ sym (same_latest name (visible_of es) e.visible p.1) ∙ ap (latest name) (sym (names_push es e))
  changed name (inr p) =
      get_or-set_other heads e.visible.name.0 name n 0 (λ q. p.1 (sym q)) ∙ h.head name ∙ sym (other_latest name (visible_of es) e.visible p.1) ∙ ap (latest name) (sym (names_push es e))

-- one entry more, as `push` makes it
pub pushed : (es new : List Entry) (e : Entry) (heads grown changed : List ℕ) (n : ℕ) → ((name : ℕ) → slice_index grown name ≡ slice_index heads name) → e.visible.name.0 < length grown → e.before ≡ slice_index grown e.visible.name.0 → new ≡ es ++ e ∷ [] → n ≡ length new → changed ≡ slice_set grown e.visible.name.0 n → IsLinked es heads → IsLinked new changed
pushed es new e heads grown changed n same within says is len set h =
    subst (λ l. IsLinked l changed) (sym is) (subst (λ l. IsLinked (es ++ e ∷ []) l) (sym set) (push_linked es e grown n within says (len ∙ ap length is) (longer_heads es heads grown same h)))

within_heads : (heads : List ℕ) (name n : ℕ) → slice_index heads name ≡ suc n → name < length heads
within_heads [] name n e = absurd (omega (arith, e))
within_heads (h ∷ hs) zero n e = omega arith
within_heads (h ∷ hs) (suc name) n e = omega (arith, within_heads hs name n e)

pub last_within : (es : List Entry) (e : Entry) (heads : List ℕ) → IsLinked (es ++ e ∷ []) heads → e.visible.name.0 < length heads
last_within es e heads h =
    within_heads heads e.visible.name.0 (length (visible_of es)) (h.head e.visible.name.0 ∙ ap (latest e.visible.name.0) (names_push es e) ∙ same_latest e.visible.name.0 (visible_of es) e.visible refl)

pub pop_linked : (es : List Entry) (e : Entry) (heads : List ℕ) → IsLinked (es ++ e ∷ []) heads → IsLinked es (slice_set heads e.visible.name.0 e.before)
pop_linked es e heads h = record {
  before = rest.0;
  head = λ name. changed name (eqb_tells e.visible.name.0 name);
} where
  rest : SayBefore [] es × (e.before ≡ latest e.visible.name.0 (visible_of es))
  rest = pop_before [] es e h.before

  changed : (name : ℕ) → ((eqb e.visible.name.0 name ≡ true) × (e.visible.name.0 ≡ name)) ⊎ ((eqb e.visible.name.0 name ≡ false) × (e.visible.name.0 ≢ name)) → slice_index (slice_set heads e.visible.name.0 e.before) name ≡ latest name (visible_of es)
  changed name (inl p) =
      ap (λ k. slice_index (slice_set heads e.visible.name.0 e.before) k) (sym p.1) ∙ get_or-set_same heads e.visible.name.0 e.before 0 (last_within es e heads h) ∙ rest.1 ∙ ap (λ k. latest k (visible_of es)) p.1
  changed name (inr p) =
      get_or-set_other heads e.visible.name.0 name e.before 0 (λ q. p.1 (sym q)) ∙ h.head name ∙ ap (latest name) (names_push es e) ∙ other_latest name (visible_of es) e.visible p.1

-- ---- what the calls say

pub look_none : (name : StrId) (es : List Entry) (heads : List ℕ) (place : ℕ) → IsLinked es heads → place ≡ slice_index heads name.0 → place ≡ 0 → look name (visible_of es) ≡ None
look_none name es heads place h at none = look_at name (visible_of es) ∙ ap (λ n. local_at n (visible_of es)) (sym (h.head name.0) ∙ sym at ∙ none)

pub look_some : (name : StrId) (es : List Entry) (heads : List ℕ) (place : ℕ) → IsLinked es heads → place ≡ slice_index heads name.0 → place ≢ 0 → look name (visible_of es) ≡ local_in (slice_get es (place - 1))
look_some name es heads place h at some =
    look_at name (visible_of es) ∙ ap (λ n. local_at n (visible_of es)) (sym (h.head name.0) ∙ sym at ∙ stepped)
    ∙ ap of_visible (slice_get-map (λ (e : Entry). e.visible) es (place - 1)) ∙ of_entry (slice_get es (place - 1)) where
      stepped : place ≡ suc (place - 1)
      stepped = omega (arith, some)
