-- The words made are the items', each in its place.
use Rattle.std.proofs.Common.{◌≡◌, refl, sym, ap, ◌∙◌, subst, ℕ, ◌+◌, ◌≤◌, pos, ◌+ℤ◌, Bool, true, false, List, [], ◌∷◌, ◌++◌, length, drop, Option, Some, None, arith, rules, nat_eq, append_assoc, append-nil, length-append, if◌then◌else◌, IsSome, ◌<◌, ◌^◌}
use Rattle.std.specs.Prelude.{unwrap_or, FitsSigned, IsTrue}
use Rattle.std.specs.Int.{w16}
use Rattle.std.specs.List.{AllByRecursion, IsDistinct}
use Rattle.std.proofs.lemmas.List.{drop_at, drop-drop}
use Rattle.std.proofs.lemmas.Bool.{eqb-true}
use Rattle.std.proofs.lemmas.Int.{ints}
use Rattle.op_words.specs.declared.insn.Insn.{Insn as Instruction}
use Rattle.op_words.specs.Encoding.{encoded}
use Rattle.code_link.specs.declared.item.Item.{Item}
use Rattle.code_link.specs.declared.item.Item.TheVariants.{Insn, Branch, Label}
use Rattle.code_link.specs.Labels.{is_jump, word_count, place_in, labels, AreJumps, IsLinkable}
use Rattle.code_link.specs.Linking.{jumping, JumpsTo, Stands, IsLinked}
use Rattle.code_link.specs.Making.{distance, linked}
use Rattle.code_link.proofs.Placing.{place_in-none, length-jumping}

-- ---- the same places

pub jumps_same : (f g : ℕ → Option ℕ) → ((q : ℕ) → f q ≡ g q) → (is : List Item) → AreJumps f is → AreJumps g is
jumps_same f g h [] a = tt
jumps_same f g h (Insn i ∷ is) a = jumps_same f g h is a
jumps_same f g h (Branch i l ∷ is) a = (a.0, subst (λ o. IsSome o) (h l) a.1, jumps_same f g h is a.2)
jumps_same f g h (Label l ∷ is) a = jumps_same f g h is a

linked_same : (f g : ℕ → Option ℕ) → ((q : ℕ) → f q ≡ g q) → (is : List Item) (from : ℕ) → linked f from is ≡ linked g from is
linked_same f g h [] from = refl
linked_same f g h (Insn i ∷ is) from = ap (λ ws. encoded i ++ ws) (linked_same f g h is (from + length (encoded i)))
linked_same f g h (Branch i l ∷ is) from =
    ap (λ o. encoded (jumping i (distance from (unwrap_or o 0))) ++ linked f (from + length (encoded i)) is) (h l)
    ∙ ap (λ ws. encoded (jumping i (distance from (unwrap_or (g l) 0))) ++ ws) (linked_same f g h is (from + length (encoded i)))
linked_same f g h (Label l ∷ is) from = linked_same f g h is from

-- ---- where labels are

-- where a test chooses a place, each case may take the test's value
by_test : (t : Bool) (x y : Option ℕ) (p : ℕ) (P : Type 0) → (t ≡ true → x ≡ Some p → P) → (t ≡ false → y ≡ Some p → P) → (if t then x else y) ≡ Some p → P
by_test true x y p P f g e = f refl e
by_test false x y p P f g e = g refl e

-- a label's place is within the words of the items
pub place_in-le : (is : List Item) (from q p : ℕ) → place_in is from q ≡ Some p → p ≤ from + word_count is
place_in-le [] from q p e = cc
place_in-le (Insn i ∷ is) from q p e = let h = place_in-le is (from + length (encoded i)) q p e in omega (arith, h)
place_in-le (Branch i l ∷ is) from q p e = let h = place_in-le is (from + length (encoded i)) q p e in omega (arith, h)
place_in-le (Label l ∷ is) from q p e =
    by_test (nat_eq l q) _ _ p _ (λ t h. let same : from ≡ p = cc in omega (arith, same)) (λ t h. place_in-le is from q p h) e

-- each label has its place, from here on
abbrev pub Placed : (place : ℕ → Option ℕ) → (from : ℕ) → List Item → Type 0
Placed place from [] = Unit {0}
Placed place from (Insn i ∷ is) = Placed place (from + length (encoded i)) is
Placed place from (Branch i l ∷ is) = Placed place (from + length (encoded i)) is
Placed place from (Label l ∷ is) = (place l ≡ Some from) × Placed place from is

placed : (place : ℕ → Option ℕ) (is : List Item) (from : ℕ) → IsDistinct nat_eq (labels is) → ((q p : ℕ) → place_in is from q ≡ Some p → place q ≡ Some p) → Placed place from is
unfolding IsDistinct
placed place [] from once h = tt
placed place (Insn i ∷ is) from once h = placed place is (from + length (encoded i)) once h
placed place (Branch i l ∷ is) from once h = placed place is (from + length (encoded i)) once h
placed place (Label l ∷ is) from once h =
    (h l from (first l is from), placed place is from once.1 (λ q p e. h q p (later l is from q p once.0 e (nat_eq l q) refl)))
  where
    first : (l : ℕ) (is : List Item) (from : ℕ) → (if nat_eq l l then Some from else place_in is from l) ≡ Some from
    first l is from = let same : nat_eq l l ≡ true = search rules in rw same refl

    later : (l : ℕ) (is : List Item) (from q p : ℕ) → AllByRecursion (λ m. nat_eq l m ≡ false) (labels is) → place_in is from q ≡ Some p → (t : Bool) → nat_eq l q ≡ t → (if nat_eq l q then Some from else place_in is from q) ≡ Some p
    later l is from q p none e true t =
        let gone : place_in is from q ≡ None = subst (λ m. place_in is from m ≡ None) (eqb-true l q t) (place_in-none is from l none) in
        cc
    later l is from q p none e false t = rw t e

-- ---- the words in their places

words_there : (code pre words tail : List ℕ) (from : ℕ) → length pre ≡ from → code ≡ pre ++ (words ++ tail) → drop from code ≡ words ++ drop (from + length words) code
words_there code pre words tail from n e =
    let here : drop from code ≡ words ++ tail = ap (drop from) e ∙ drop_at pre (words ++ tail) from n in
    let behind : drop (from + length words) code ≡ tail = sym (drop-drop (length words) from code) ∙ ap (drop (length words)) here ∙ drop_at words tail (length words) refl in
    here ∙ ap (λ ws. words ++ ws) (sym behind)

some_value : (o : Option ℕ) → IsSome o → (x : ℕ) × (o ≡ Some x)
some_value None h = cc
some_value (Some x) h = (x, refl)

distance_fits : (at to : ℕ) → at < 2 ^ 15 → to < 2 ^ 15 → FitsSigned w16 (distance at to)
distance_fits at to f g = search (rules, arith, ints)

distance_reaches : (at to : ℕ) → pos (at + 1) +ℤ distance at to ≡ pos to
distance_reaches at to = omega (arith, ints)

jumps_there : (code pre tail : List ℕ) (from : ℕ) (i : Instruction) (place : ℕ → Option ℕ) (l : ℕ) → length pre ≡ from → code ≡ pre ++ (encoded (jumping i (distance from (unwrap_or (place l) 0))) ++ tail) → IsTrue (is_jump i) → IsSome (place l) → ((p : ℕ) → place l ≡ Some p → p < 2 ^ 15) → from < 2 ^ 15 → JumpsTo code from i (place l)
jumps_there code pre tail from i place l n e jump some near low =
    let target = some_value (place l) some in
    let to : unwrap_or (place l) 0 ≡ target.0 = ap (λ o. unwrap_or o 0) target.1 in
    let by = distance from target.0 in
    record {
      by = by;
      target = target.0;
      jump = jump;
      fits = distance_fits from target.0 low (near target.0 target.1);
      reaches = distance_reaches from target.0;
      placed = target.1;
      words = words_there code pre (encoded (jumping i by)) tail from n (e ∙ ap (λ p. pre ++ (encoded (jumping i (distance from p)) ++ tail)) to);
    }

-- the items stand where their words are made
pub stands : (place : ℕ → Option ℕ) (is : List Item) (code pre : List ℕ) (from : ℕ) → length pre ≡ from → code ≡ pre ++ linked place from is → Placed place from is → AreJumps place is → ((q p : ℕ) → place q ≡ Some p → p < 2 ^ 15) → from + word_count is < 2 ^ 15 → Stands code place from is (length code)
stands place [] code pre from n e p a near room = sym n ∙ ap length (sym (append-nil pre)) ∙ ap length (sym e)
stands place (Insn i ∷ is) code pre from n e p a near room =
    (words_there code pre (encoded i) _ from n e, stands place is code (pre ++ encoded i) (from + length (encoded i)) (omega (arith, n, length-append pre (encoded i))) (e ∙ sym (append_assoc pre (encoded i) _)) p a near (omega (arith, room)))
stands place (Branch i l ∷ is) code pre from n e p a near room =
    let words = encoded (jumping i (distance from (unwrap_or (place l) 0))) in
    let count = length-jumping i (distance from (unwrap_or (place l) 0)) in
    (jumps_there code pre _ from i place l n e a.0 a.1 (near l) (omega (arith, room)), stands place is code (pre ++ words) (from + length (encoded i)) (omega (arith, n, length-append pre words, count)) (e ∙ sym (append_assoc pre words _)) p a.2 near (omega (arith, room)))
stands place (Label l ∷ is) code pre from n e p a near room =
    (p.0, stands place is code pre from n e p.1 a near room)

pub linked_stands : (items : List Item) (place : ℕ → Option ℕ) (code : List ℕ) → IsLinkable items → ((q : ℕ) → place q ≡ place_in items 0 q) → code ≡ linked place 0 items → IsLinked items code
linked_stands items place code fit same e =
    let near : (q p : ℕ) → place_in items 0 q ≡ Some p → p < 2 ^ 15 = λ q p there. let h = place_in-le items 0 q p there in omega (arith, h, fit.short) in
    stands (place_in items 0) items code [] 0 refl (e ∙ linked_same place (place_in items 0) same items 0)
    (placed (place_in items 0) items 0 fit.once (λ q p there. there)) fit.jumps near (omega (arith, fit.short))
