-- Labels and branches among items: how often a label is placed, where branches lead, and how many words the items take.
use Rattle.std.proofs.Common.{◌≡◌, refl, ap, ℕ, ◌+◌, ◌<◌, ◌≤◌, ◌^◌, Bool, true, false, List, [], ◌∷◌, ◌++◌, length, Option, Some, None, IsSome, arith, nat_eq, if◌then◌else◌, IsTrue, is_some}
use Rattle.std.specs.List.{AllByRecursion, IsDistinct}
use Rattle.std.proofs.lemmas.Bool.Decides.{nat_tests}
use Rattle.op_words.specs.declared.insn.Insn.{Insn as Instruction}
use Rattle.op_words.specs.Encoding.{encoded}
use Rattle.code_link.specs.declared.item.Item.{Item}
use Rattle.code_link.specs.declared.item.Item.TheVariants.{Insn, Branch, Label}
use Rattle.code_link.specs.Labels.{is_jump, word_count, place_in, labels, AreJumps, IsLinkable}

-- 1 at the number itself, else 0
unfoldable pub hits : ℕ → ℕ → ℕ
hits x l = if nat_eq x l then 1 else 0

-- how often a label is placed
abbrev pub times : ℕ → List Item → ℕ
times l [] = 0
times l (Insn i ∷ is) = times l is
times l (Branch i m ∷ is) = times l is
times l (Label m ∷ is) = hits m l + times l is

-- the labels that are placed are among some
abbrev pub Covers : (ℕ → Bool) → List Item → Type 0
Covers F [] = Unit {0}
Covers F (Insn i ∷ is) = Covers F is
Covers F (Branch i m ∷ is) = Covers F is
Covers F (Label m ∷ is) = IsTrue (F m) × Covers F is

-- each branch is a jump to one of some labels
abbrev pub Jumps : (ℕ → Bool) → List Item → Type 0
Jumps F [] = Unit {0}
Jumps F (Insn i ∷ is) = Jumps F is
Jumps F (Branch i m ∷ is) = (IsTrue (is_jump i) × IsTrue (F m)) × Jumps F is
Jumps F (Label m ∷ is) = Jumps F is

-- ---- one item more

pub times_insn : (l : ℕ) (is : List Item) (i : Instruction) → times l (is ++ Insn i ∷ []) ≡ times l is
times_insn l [] i = refl
times_insn l (Insn j ∷ is) i = times_insn l is i
times_insn l (Branch j m ∷ is) i = times_insn l is i
times_insn l (Label m ∷ is) i = ap (λ n. hits m l + n) (times_insn l is i)

pub times_branch : (l : ℕ) (is : List Item) (i : Instruction) (k : ℕ) → times l (is ++ Branch i k ∷ []) ≡ times l is
times_branch l [] i k = refl
times_branch l (Insn j ∷ is) i k = times_branch l is i k
times_branch l (Branch j m ∷ is) i k = times_branch l is i k
times_branch l (Label m ∷ is) i k = ap (λ n. hits m l + n) (times_branch l is i k)

pub times_label : (l : ℕ) (is : List Item) (k : ℕ) → times l (is ++ Label k ∷ []) ≡ times l is + hits k l
times_label l [] k = omega arith
times_label l (Insn j ∷ is) k = times_label l is k
times_label l (Branch j m ∷ is) k = times_label l is k
times_label l (Label m ∷ is) k = let h = times_label l is k in omega (arith, h)

pub words_insn : (is : List Item) (i : Instruction) → word_count (is ++ Insn i ∷ []) ≡ word_count is + length (encoded i)
words_insn [] i = omega arith
words_insn (Insn j ∷ is) i = let h = words_insn is i in omega (arith, h)
words_insn (Branch j m ∷ is) i = let h = words_insn is i in omega (arith, h)
words_insn (Label m ∷ is) i = words_insn is i

pub words_branch : (is : List Item) (i : Instruction) (k : ℕ) → word_count (is ++ Branch i k ∷ []) ≡ word_count is + length (encoded i)
words_branch [] i k = omega arith
words_branch (Insn j ∷ is) i k = let h = words_branch is i k in omega (arith, h)
words_branch (Branch j m ∷ is) i k = let h = words_branch is i k in omega (arith, h)
words_branch (Label m ∷ is) i k = words_branch is i k

pub words_label : (is : List Item) (k : ℕ) → word_count (is ++ Label k ∷ []) ≡ word_count is
words_label [] k = refl
words_label (Insn j ∷ is) k = ap (λ n. length (encoded j) + n) (words_label is k)
words_label (Branch j m ∷ is) k = ap (λ n. length (encoded j) + n) (words_label is k)
words_label (Label m ∷ is) k = words_label is k

pub covers_front : (F : ℕ → Bool) (is more : List Item) → Covers F (is ++ more) → Covers F is
covers_front F [] more h = tt
covers_front F (Insn j ∷ is) more h = covers_front F is more h
covers_front F (Branch j m ∷ is) more h = covers_front F is more h
covers_front F (Label m ∷ is) more h = (h.0, covers_front F is more h.1)

pub covers_last : (F : ℕ → Bool) (is : List Item) (k : ℕ) → Covers F (is ++ Label k ∷ []) → IsTrue (F k)
covers_last F [] k h = h.0
covers_last F (Insn j ∷ is) k h = covers_last F is k h
covers_last F (Branch j m ∷ is) k h = covers_last F is k h
covers_last F (Label m ∷ is) k h = covers_last F is k h.1

pub jumps_both : (F : ℕ → Bool) (is more : List Item) → Jumps F is → Jumps F more → Jumps F (is ++ more)
jumps_both F [] more a b = b
jumps_both F (Insn j ∷ is) more a b = jumps_both F is more a b
jumps_both F (Branch j m ∷ is) more a b = (a.0, jumps_both F is more a.1 b)
jumps_both F (Label m ∷ is) more a b = jumps_both F is more a b

-- ---- what can be linked

none_left : (m l : ℕ) (n : ℕ) → hits m l + n ≡ 0 → (nat_eq l m ≡ false) × (n ≡ 0)
unfolding hits
none_left m l n e = which (nat_eq m l) refl e
  where
    which : (t : Bool) → nat_eq m l ≡ t → (if t then 1 else 0) + n ≡ 0 → (nat_eq l m ≡ false) × (n ≡ 0)
    which true s e = absurd (omega (arith, e))
    which false s e = (grind (arith, nat_tests, s), omega (arith, e))

apart : (l : ℕ) (is : List Item) → times l is ≡ 0 → AllByRecursion (λ m. nat_eq l m ≡ false) (labels is)
apart l [] e = tt
apart l (Insn i ∷ is) e = apart l is e
apart l (Branch i m ∷ is) e = apart l is e
apart l (Label m ∷ is) e =
    let h = none_left m l (times l is) e in
    (h.0, apart l is h.1)

hits_self : (m : ℕ) → hits m m ≡ 1
unfolding hits
hits_self m = let same : nat_eq m m ≡ true = grind (arith, nat_tests) in rw same refl

pub once : (is : List Item) → ((l : ℕ) → times l is ≤ 1) → IsDistinct nat_eq (labels is)
unfolding IsDistinct
once [] h = tt
once (Insn i ∷ is) h = once is h
once (Branch i m ∷ is) h = once is h
once (Label m ∷ is) h =
    let here = h m in
    let self = hits_self m in
    (apart m is (omega (arith, here, self)), once is (λ l. let all = h l in omega (arith, all)))

covered : (is : List Item) (from : ℕ) (F : ℕ → Bool) → ((l : ℕ) → IsTrue (is_some (place_in is from l)) → IsTrue (F l)) → Covers F is
covered [] from F h = tt
covered (Insn i ∷ is) from F h = covered is (from + length (encoded i)) F h
covered (Branch i m ∷ is) from F h = covered is (from + length (encoded i)) F h
covered (Label m ∷ is) from F h = (h m (first m), covered is from F (λ l there. h l (later l there (nat_eq m l))))
  where
    first : (m : ℕ) → IsTrue (is_some (if nat_eq m m then Some from else place_in is from m))
    first m = let same : nat_eq m m ≡ true = grind (arith, nat_tests) in rw same refl

    later : (l : ℕ) → IsTrue (is_some (place_in is from l)) → (t : Bool) → IsTrue (is_some (if t then Some from else place_in is from l))
    later l there true = refl
    later l there false = there

some_is : (o : Option ℕ) → IsTrue (is_some o) → IsSome o
some_is None h = cc
some_is (Some x) h = refl

are_jumps : (place : ℕ → Option ℕ) (is : List Item) → Jumps (λ l. is_some (place l)) is → AreJumps place is
are_jumps place [] h = tt
are_jumps place (Insn i ∷ is) h = are_jumps place is h
are_jumps place (Branch i m ∷ is) h = (h.0.0, some_is (place m) h.0.1, are_jumps place is h.1)
are_jumps place (Label m ∷ is) h = are_jumps place is h

-- items whose labels are placed at most once, whose branches lead to labels that are placed, and which are few
pub linkable : (is : List Item) → ((l : ℕ) → times l is ≤ 1) → ((F : ℕ → Bool) → Covers F is → Jumps F is) → word_count is < 2 ^ 15 → IsLinkable is
linkable is few jumps short =
    let F : ℕ → Bool = λ l. is_some (place_in is 0 l) in
    record {
      once = once is few;
      jumps = are_jumps (place_in is 0) is (jumps F (covered is 0 F (λ l there. there)));
      short = short;
    }
