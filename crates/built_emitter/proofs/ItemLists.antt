-- Lists of items and of constants, put behind one another.
use Rattle.std.proofs.Common.{◌≡◌, ℕ, zero, suc, ◌+◌, ◌≤◌, List, [], ◌∷◌, ◌++◌, length, Some, refl, sym, ap, ◌∙◌, arith, append_assoc, length-append}
use Rattle.std.specs.Prelude.{slice_get}
use Rattle.std.proofs.lemmas.List.{append-nil}
use Rattle.code_link.specs.declared.item.Item.{Item}
use Rattle.code_link.specs.declared.item.Item.TheVariants as item
use Rattle.code_link.specs.Labels.{word_count}
use Rattle.built_machine.specs.declared.code.Constant.{Constant}
use Rattle.built_emitter.specs.declared.draft.Draft.{Draft}
use Rattle.built_emitter.specs.Fits.{AllFit}
use Rattle.built_emitter.specs.Emitted.{Extends, Appends}

-- ---- constants
pub extends_none : (ks : List Constant) → Extends ks ks 0
extends_none ks = record { more = []; appended = sym (append-nil ks); few = omega arith }

pub extends_same : (old new : List Constant) (m : ℕ) → new ≡ old → Extends old new m
extends_same old new m h = record { more = []; appended = h ∙ sym (append-nil old); few = omega arith }

pub extends_on : (a b c : List Constant) (m n : ℕ) → Extends a b m → Extends b c n → Extends a c (m + n)
extends_on a b c m n p q = record {
  more = p.more ++ q.more;
  appended = q.appended ∙ ap (λ l. l ++ q.more) p.appended ∙ append_assoc a p.more q.more;
  few = omega (arith, length-append p.more q.more, p.few, q.few);
}

pub extends_most : (a b : List Constant) (m n : ℕ) → m ≤ n → Extends a b m → Extends a b n
extends_most a b m n le p = record { more = p.more; appended = p.appended; few = omega (arith, p.few) }

pub length_extended : (a b : List Constant) (m : ℕ) → Extends a b m → length b ≤ length a + m
length_extended a b m p = omega (arith, ap length p.appended, length-append a p.more, p.few)

slice_get_front : {X : Type 0} (xs ys : List X) (i : ℕ) (x : X) → slice_get xs i ≡ Some x → slice_get (xs ++ ys) i ≡ Some x
slice_get_front [] ys i x h = cc
slice_get_front (y ∷ xs) ys zero x h = h
slice_get_front (y ∷ xs) ys (suc i) x h = slice_get_front xs ys i x h

pub slice_get_seam : {X : Type 0} (xs ys : List X) (x : X) → slice_get (xs ++ x ∷ ys) (length xs) ≡ Some x
slice_get_seam [] ys x = refl
slice_get_seam (y ∷ xs) ys x = slice_get_seam xs ys x

pub constant_stays : (a b : List Constant) (m i : ℕ) (k : Constant) → Extends a b m → slice_get a i ≡ Some k → slice_get b i ≡ Some k
constant_stays a b m i k p h = ap (λ l. slice_get l i) p.appended ∙ slice_get_front a p.more i k h

-- ---- items
all_fit : (is js : List Item) → AllFit is → AllFit js → AllFit (is ++ js)
all_fit [] js p q = q
all_fit (item.Insn i ∷ is) js p q = (p.0, all_fit is js p.1 q)
all_fit (item.Branch i l ∷ is) js p q = (p.0, all_fit is js p.1 q)
all_fit (item.Label l ∷ is) js p q = all_fit is js p q

word_count-append : (is js : List Item) → word_count (is ++ js) ≡ word_count is + word_count js
word_count-append [] js = omega arith
word_count-append (item.Insn i ∷ is) js = omega (arith, word_count-append is js)
word_count-append (item.Branch i l ∷ is) js = omega (arith, word_count-append is js)
word_count-append (item.Label l ∷ is) js = word_count-append is js

pub appends_none : (a : Draft) → Appends a a 0 []
appends_none a = record { appended = sym (append-nil a.items.items); fit = tt; words = omega arith; constants = extends_none a.constants.items }

pub appends_on : (a b c : Draft) (m n : ℕ) (is js : List Item) → Appends a b m is → Appends b c n js → Appends a c (m + n) (is ++ js)
appends_on a b c m n is js p q = record {
  appended = q.appended ∙ ap (λ l. l ++ js) p.appended ∙ append_assoc a.items.items is js;
  fit = all_fit is js p.fit q.fit;
  words = omega (arith, word_count-append is js, p.words, q.words);
  constants = extends_on a.constants.items b.constants.items c.constants.items m n p.constants q.constants;
}

pub appends_most : (a b : Draft) (m n : ℕ) (is : List Item) → m ≤ n → Appends a b m is → Appends a b n is
appends_most a b m n is le p = record {
  appended = p.appended;
  fit = p.fit;
  words = omega (arith, p.words);
  constants = extends_most a.constants.items b.constants.items m n le p.constants;
}

-- a draft with another count of labels
pub appends_from : (a b : Draft) (n m : ℕ) (is : List Item) → Appends (record a { labels = n }) b m is → Appends a b m is
appends_from a b n m is p = record { appended = p.appended; fit = p.fit; words = p.words; constants = p.constants }
