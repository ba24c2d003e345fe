-- Lists that grow: what is among them stays there.
use Rattle.std.proofs.Common.{◌≡◌, ℕ, zero, suc, ◌+◌, ◌<◌, ◌≤◌, ℤ, pos, negsuc, Bool, true, false, ◌&&◌, List, [], ◌∷◌, ◌++◌, length, Option, Some, None, refl, sym, ap, ◌∙◌, arith, subst, nat_eq, if◌then◌else◌, ◌⊎◌, inl, inr, ⊎_elim, append_assoc, append-nil, length-append}
use Rattle.std.specs.Prelude.{slice_get}
use Rattle.std.specs.List.{list_all}
use Rattle.std.specs.Ordering.{int_eq}
use Rattle.std.proofs.lemmas.Bool.{eq-eqb, eqb-true}
use Rattle.std.proofs.lemmas.Int.{ints}
use Rattle.std.proofs.lemmas.Bool.Decides.{nat_tests}
use Rattle.byte_text.specs.declared.fixed.StrId.{StrId}
use Rattle.op_words.specs.declared.chunk.Const.{Const}
use Rattle.op_words.specs.declared.chunk.Const.TheVariants as constant
use Rattle.op_words.specs.contracts.chunk.ConstPartialEq.TheImpl.{ghosts}
use Rattle.op_words.specs.declared.insn.Insn.{Insn}
use Rattle.code_link.specs.declared.item.Item.{Item}
use Rattle.code_link.specs.declared.item.Item.TheVariants as item
use Rattle.syntax_tree.specs.declared.bindings.Bindings.{Bindings}
use Rattle.machine_meaning.specs.Needs as needs
use Rattle.machine_meaning.specs.Needs.{Want, is_wanted}
use Rattle.emit_expr.specs.declared.draft.Prototype.{Prototype}
use Rattle.emit_expr.specs.Puts.{place_of, place_of_text, added}
use Rattle.emit_laws.specs.Growing.{Prefix}
use Rattle.shape_laws.specs.Jumps.{Among}
use Rattle.shape_laws.specs.Named.{Plain, const_at, holds, PlainItem, AllPlain, Body, IsConstant, AreConstants}
use Rattle.shape_laws.specs.Shaped.{IsChild, AreChildren, IsShaped, AreShaped}

-- ---- elements

pub get_front : {A : Type 0} (xs more : List A) (i : ℕ) (x : A) → slice_get xs i ≡ Some x → slice_get (xs ++ more) i ≡ Some x
get_front [] more i x e = cc
get_front (y ∷ xs) more zero x e = e
get_front (y ∷ xs) more (suc i) x e = get_front xs more i x e

pub get_last : {A : Type 0} (xs more : List A) (x : A) → slice_get (xs ++ x ∷ more) (length xs) ≡ Some x
get_last [] more x = refl
get_last (y ∷ xs) more x = get_last xs more x

pub get_within : {A : Type 0} (xs : List A) (i : ℕ) (x : A) → slice_get xs i ≡ Some x → i < length xs
get_within [] i x e = cc
get_within (y ∷ xs) zero x e = omega arith
get_within (y ∷ xs) (suc i) x e = let h = get_within xs i x e in omega (arith, h)

pub among_front : {A : Type 0} (x : A) (xs more : List A) → Among x xs → Among x (xs ++ more)
among_front x [] more h = absurd h
among_front x (y ∷ xs) more h = ⊎_elim (λ e. inl e) (λ r. inr (among_front x xs more r)) h

pub among_last : {A : Type 0} (x : A) (xs : List A) → Among x (xs ++ x ∷ [])
among_last x [] = inl refl
among_last x (y ∷ xs) = inr (among_last x xs)

-- ---- constants

int_same : (a b : ℤ) → int_eq a b ≡ true → a ≡ b
int_same a b e = grind (arith, ints, nat_tests)

same_constant : (x k : Const) → ghosts.eq x k ≡ true → x ≡ k
same_constant constant.Nil constant.Nil e = refl
same_constant constant.False constant.False e = refl
same_constant constant.True constant.True e = refl
same_constant (constant.Num a) (constant.Num b) e = ap (λ (n : ℤ). constant.Num n) (int_same a b e)
same_constant (constant.Str a) (constant.Str b) e = ap (λ (n : ℕ). constant.Str n) (eqb-true a b e)
same_constant (constant.Import a) (constant.Import b) e = ap (λ (n : ℕ). constant.Import n) (eqb-true a b e)
same_constant x k e = cc

next_place : {A : Type 0} (x k : A) (xs : List A) (n : ℕ) → (n ≡ length xs) ⊎ (slice_get xs n ≡ Some k)
    → (1 + n ≡ length (x ∷ xs)) ⊎ (slice_get (x ∷ xs) (1 + n) ≡ Some k)
next_place x k xs n h =
    let one : suc n ≡ 1 + n = omega arith in
    ⊎_elim (λ e. inl (omega (arith, e))) (λ e. inr (subst (λ m. slice_get (x ∷ xs) m ≡ Some k) one e)) h

pub found_first : (k : Const) (xs : List Const) → (place_of k xs ≡ length xs) ⊎ (slice_get xs (place_of k xs) ≡ Some k)
found_first k [] = inl refl
found_first k (x ∷ xs) = by (ghosts.eq x k) refl (found_first k xs)
  where
    by : (t : Bool) → ghosts.eq x k ≡ t → (place_of k xs ≡ length xs) ⊎ (slice_get xs (place_of k xs) ≡ Some k)
        → ((if t then 0 else 1 + place_of k xs) ≡ length (x ∷ xs)) ⊎ (slice_get (x ∷ xs) (if t then 0 else 1 + place_of k xs) ≡ Some k)
    by true e h = inr (ap Some (same_constant x k e))
    by false e h = next_place x k xs (place_of k xs) h

pub found_text : (k : StrId) (xs : List StrId) → (place_of_text k xs ≡ length xs) ⊎ (slice_get xs (place_of_text k xs) ≡ Some k)
found_text k [] = inl refl
found_text k (x ∷ xs) = by (nat_eq x.0 k.0) refl (found_text k xs)
  where
    by : (t : Bool) → nat_eq x.0 k.0 ≡ t → (place_of_text k xs ≡ length xs) ⊎ (slice_get xs (place_of_text k xs) ≡ Some k)
        → ((if t then 0 else 1 + place_of_text k xs) ≡ length (x ∷ xs)) ⊎ (slice_get (x ∷ xs) (if t then 0 else 1 + place_of_text k xs) ≡ Some k)
    by true e h = inr (ap (λ (n : ℕ). Some (record { 0 = n })) (eqb-true x.0 k.0 e))
    by false e h = next_place x k xs (place_of_text k xs) h

-- what is added is there
pub is_added : {A : Type 0} (k : A) (n : ℕ) (xs : List A) → (n ≡ length xs) ⊎ (slice_get xs n ≡ Some k) → slice_get (added k n xs) n ≡ Some k
is_added k n xs h = by (nat_eq n (length xs)) refl
  where
    by : (t : Bool) → nat_eq n (length xs) ≡ t → slice_get (if t then xs ++ k ∷ [] else xs) n ≡ Some k
    by true e = let same : n ≡ length xs = eqb-true n (length xs) e in ap (slice_get (xs ++ k ∷ [])) same ∙ get_last xs [] k
    by false e =
        let other : n ≡ length xs → slice_get xs n ≡ Some k = λ same. let t : nat_eq n (length xs) ≡ true = eq-eqb n (length xs) same in cc in
        ⊎_elim other (λ f. f) h

-- at most one is added
pub one_added : {A : Type 0} (k : A) (n : ℕ) (xs : List A) → length (added k n xs) ≤ length xs + 1
one_added k n xs = by (nat_eq n (length xs))
  where
    by : (t : Bool) → length (if t then xs ++ k ∷ [] else xs) ≤ length xs + 1
    by true = let e = length-append xs (k ∷ []) in omega (arith, e)
    by false = omega arith

pub prefix_length : {A : Type 0} (xs ys : List A) → Prefix xs ys → length xs ≤ length ys
prefix_length xs ys p = let e : length ys ≡ length xs + length p.more = ap length p.is ∙ length-append xs p.more in omega (arith, e)

-- ---- what instructions name

wanted_none : (w : Want) → is_wanted w None ≡ true → ⊥
wanted_none needs.AValue e = cc
wanted_none needs.AName e = cc
wanted_none needs.ANumber e = cc
wanted_none (needs.AnImport word) e = cc

const_front : (consts more : List Const) (w : Want) (z : ℤ) → is_wanted w (const_at consts z) ≡ true → is_wanted w (const_at (consts ++ more) z) ≡ true
const_front consts more w (pos n) e = by (slice_get consts n) refl e
  where
    by : (o : Option Const) → slice_get consts n ≡ o → is_wanted w o ≡ true → is_wanted w (slice_get (consts ++ more) n) ≡ true
    by None f g = absurd (wanted_none w g)
    by (Some k) f g = ap (is_wanted w) (get_front consts more n k f) ∙ g
const_front consts more w (negsuc n) e = e

pub first_of : (a b : Bool) → a && b ≡ true → a ≡ true
first_of true b h = refl
first_of false b h = cc

pub second_of : (a b : Bool) → a && b ≡ true → b ≡ true
second_of true b h = h
second_of false b h = cc

pub both_of : (a b : Bool) → a ≡ true → b ≡ true → a && b ≡ true
both_of a b e f = ap (λ t. t && b) e ∙ f

holds_more : (consts more : List Const) (ks : List (ℤ × Want)) → list_all (holds consts) ks ≡ true → list_all (holds (consts ++ more)) ks ≡ true
holds_more consts more [] e = refl
holds_more consts more (k ∷ ks) e =
    both_of (holds (consts ++ more) k) (list_all (holds (consts ++ more)) ks)
    (const_front consts more k.1 k.0 (first_of (holds consts k) (list_all (holds consts) ks) e))
    (holds_more consts more ks (second_of (holds consts k) (list_all (holds consts) ks) e))

plain_more : (consts more : List Const) (i : Insn) → Plain consts i → Plain (consts ++ more) i
plain_more consts more i p =
    record { known = p.known; own = p.own; finds = holds_more consts more (needs.constants_of i) p.finds; other = p.other; single = p.single }

item_more : (consts more : List Const) (x : Item) → PlainItem consts x → PlainItem (consts ++ more) x
item_more consts more (item.Insn i) p = (plain_more consts more i p.0, p.1)
item_more consts more (item.Branch i l) p = plain_more consts more i p
item_more consts more (item.Label l) p = tt

all_more : (consts more : List Const) (is : List Item) → AllPlain consts is → AllPlain (consts ++ more) is
all_more consts more [] h = tt
all_more consts more (x ∷ is) h = (item_more consts more x h.0, all_more consts more is h.1)

pub body_more : (vararg : Bool) (params : ℕ) (consts more : List Const) (is : List Item) → Body vararg params consts is → Body vararg params (consts ++ more) is
body_more false params consts more is h = all_more consts more is h
body_more true params consts more [] h = absurd h
body_more true params consts more (x ∷ is) h = (h.0, all_more consts more is h.1)

all_last : (consts : List Const) (is : List Item) (x : Item) → AllPlain consts is → PlainItem consts x → AllPlain consts (is ++ x ∷ [])
all_last consts [] x h p = (p, tt)
all_last consts (y ∷ is) x h p = (h.0, all_last consts is x h.1 p)

pub body_last : (vararg : Bool) (params : ℕ) (consts : List Const) (is : List Item) (x : Item) → Body vararg params consts is → PlainItem consts x
    → Body vararg params consts (is ++ x ∷ [])
body_last false params consts is x h p = all_last consts is x h p
body_last true params consts [] x h p = absurd h
body_last true params consts (y ∷ is) x h p = (h.0, all_last consts is x h.1 p)

-- ---- strings

constant_more : (n m : ℕ) → n ≤ m → (k : Const) → IsConstant n k → IsConstant m k
constant_more n m le constant.Nil h = tt
constant_more n m le constant.False h = tt
constant_more n m le constant.True h = tt
constant_more n m le (constant.Num z) h = tt
constant_more n m le (constant.Str s) h = omega (arith, le, h)
constant_more n m le (constant.Import w) h = h

pub constants_more : (n m : ℕ) → n ≤ m → (ks : List Const) → AreConstants n ks → AreConstants m ks
constants_more n m le [] h = tt
constants_more n m le (k ∷ ks) h = (constant_more n m le k h.0, constants_more n m le ks h.1)

constants_last : (n : ℕ) (ks : List Const) (k : Const) → AreConstants n ks → IsConstant n k → AreConstants n (ks ++ k ∷ [])
constants_last n [] k h p = (p, tt)
constants_last n (x ∷ ks) k h p = (h.0, constants_last n ks k h.1 p)

pub constants_added : (n : ℕ) (k : Const) (place : ℕ) (ks : List Const) → AreConstants n ks → IsConstant n k → AreConstants n (added k place ks)
constants_added n k place ks h p = by (nat_eq place (length ks))
  where
    by : (t : Bool) → AreConstants n (if t then ks ++ k ∷ [] else ks)
    by true = constants_last n ks k h p
    by false = h

-- ---- functions

module _ (b : Bindings) where
  pub shaped_more : (n m : ℕ) → n ≤ m → (before ps : List Prototype) → AreShaped b n before ps → AreShaped b m before ps
  shaped_more n m le before [] h = tt
  shaped_more n m le before (p ∷ ps) h = (
    record {
      counts = h.0.counts;
      order = h.0.order;
      body = h.0.body;
      constants_few = h.0.constants_few;
      children_few = h.0.children_few;
      jumps = h.0.jumps;
      constants = constants_more n m le p.constants h.0.constants;
      children = h.0.children;
      front = h.0.front;
      ends = h.0.ends;
    },
    shaped_more n m le (before ++ p ∷ []) ps h.1,
  )

  pub shaped_last : (n : ℕ) (before ps : List Prototype) (p : Prototype) → AreShaped b n before ps → IsShaped b n (before ++ ps) p
      → AreShaped b n before (ps ++ p ∷ [])
  shaped_last n before [] p h is = (subst (λ l. IsShaped b n l p) (append-nil before) is, tt)
  shaped_last n before (q ∷ ps) p h is =
      (h.0, shaped_last n (before ++ q ∷ []) ps p h.1 (subst (λ l. IsShaped b n l p) (sym (append_assoc before (q ∷ []) ps)) is))

  child_more : (ps more : List Prototype) (number count : ℕ) → IsChild b ps number count → IsChild b (ps ++ more) number count
  child_more ps more number count h =
      let e = length-append ps more in
      let below = h.below in
      record {
        below = omega (arith, e, below);
        proto = h.proto;
        at = λ le. get_front ps more number h.proto (h.at (omega (arith, e, le)));
        captures = h.captures;
      }

  pub children_more : (ps more : List Prototype) (cs ns : List ℕ) → AreChildren b ps cs ns → AreChildren b (ps ++ more) cs ns
  children_more ps more [] [] h = tt
  children_more ps more (c ∷ cs) (n ∷ ns) h = (child_more ps more c n h.0, children_more ps more cs ns h.1)
  children_more ps more [] (n ∷ ns) h = absurd h
  children_more ps more (c ∷ cs) [] h = absurd h

  pub children_last : (ps : List Prototype) (cs ns : List ℕ) (c n : ℕ) → AreChildren b ps cs ns → IsChild b ps c n
      → AreChildren b ps (cs ++ c ∷ []) (ns ++ n ∷ [])
  children_last ps [] [] c n h is = (is, tt)
  children_last ps (x ∷ cs) (y ∷ ns) c n h is = (h.0, children_last ps cs ns c n h.1 is)
  children_last ps [] (y ∷ ns) c n h is = absurd h
  children_last ps (x ∷ cs) [] c n h is = absurd h

  pub children_length : (ps : List Prototype) (cs ns : List ℕ) → AreChildren b ps cs ns → length cs ≡ length ns
  children_length ps [] [] h = refl
  children_length ps (c ∷ cs) (n ∷ ns) h = let e = children_length ps cs ns h.1 in omega (arith, e)
  children_length ps [] (n ∷ ns) h = absurd h
  children_length ps (c ∷ cs) [] h = absurd h
