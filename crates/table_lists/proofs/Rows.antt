-- Elements in a row, read and written one after another.
use Rattle.std.proofs.Common.{◌≡◌, ℕ, zero, suc, ◌+◌, ◌≤◌, ℤ, pos, ◌+ℤ◌, false, true, List, [], ◌∷◌, ◌++◌, length, take, Bool, refl, sym, ◌∙◌, ap, arith, add-one, ◌<◌, get_or, Result, Ok, Err, OnErr, subst}
use Rattle.std.specs.Prelude.{◌≤ℤ◌}
use Rattle.std.proofs.lemmas.Int.{ints}
use Rattle.std.proofs.lemmas.List.{take_more, length-take-le, length-replicate}
use Rattle.std.proofs.Math.ListN.{replicate}
use Rattle.std.proofs.Math.Seq.{take-length}
use Rattle.resource.specs.declared.memory.OutOfMemory.{OutOfMemory}
use Rattle.value_model.proofs.Pairs.{written_else}
use Rattle.value_model.specs.Pairs as pairs
use Rattle.value_model.specs.declared.value.Value.{Value}
use Rattle.value_model.specs.declared.value.Value.TheVariants.{Nil, Num}
use Rattle.value_arena.specs.Tables.{Entries, TableView, same, is_nil, number, value_in}
use Rattle.value_arena.proofs.Sameness.{value_is, is_value}
use Rattle.luau_tables.specs.Rules as rule
use Rattle.table_lists.specs.Lists.{item, items, put_all, Began}

-- ---- numbers

pub plus_none : (k : ℤ) → k +ℤ pos 0 ≡ k
plus_none k = omega (arith, ints)

pub plus_suc : (k : ℤ) (n : ℕ) → (k +ℤ pos 1) +ℤ pos n ≡ k +ℤ pos (suc n)
plus_suc k n = omega (arith, ints)

-- ---- one more

pub items_more : (t : TableView) (k : ℤ) (n : ℕ) → items t k (suc n) ≡ items t k n ++ item t (k +ℤ pos n) ∷ []
items_more t k zero = ap (λ z. item t z ∷ []) (sym (plus_none k))
items_more t k (suc n) =
    ap (λ vs. item t k ∷ vs) (items_more t (k +ℤ pos 1) n)
    ∙ ap (λ z. item t k ∷ (items t (k +ℤ pos 1) n ++ item t z ∷ [])) (plus_suc k n)

pub length_items : (t : TableView) (k : ℤ) (n : ℕ) → length (items t k n) ≡ n
length_items t k zero = refl
length_items t k (suc n) = ap suc (length_items t (k +ℤ pos 1) n)

pub take_items : (t : TableView) (k : ℤ) (n m : ℕ) → n ≤ m → take n (items t k m) ≡ items t k n
take_items t k zero m h = refl
take_items t k (suc n) zero h = absurd (omega (arith, h))
take_items t k (suc n) (suc m) h = ap (λ vs. item t k ∷ vs) (take_items t (k +ℤ pos 1) n m (omega (arith, h)))

pub replicate_more : (n : ℕ) (v : Value) → replicate (suc n) v ≡ replicate n v ++ v ∷ []
replicate_more zero v = refl
replicate_more (suc n) v = ap (λ vs. v ∷ vs) (replicate_more n v)

pub take_replicate : (n m : ℕ) (v : Value) → n ≤ m → take n (replicate m v) ≡ replicate n v
take_replicate zero m v h = refl
take_replicate (suc n) zero v h = absurd (omega (arith, h))
take_replicate (suc n) (suc m) v h = ap (λ vs. v ∷ vs) (take_replicate n m v (omega (arith, h)))

all_more : (es : Entries) (k : ℤ) (vs : List Value) (v : Value) → pairs.all_written same is_nil Nil number es k (vs ++ v ∷ []) ≡ pairs.written same is_nil Nil (pairs.all_written same is_nil Nil number es k vs) (number (k +ℤ pos (length vs))) v
all_more es k [] v = ap (λ z. pairs.written same is_nil Nil es (number z) v) (sym (plus_none k))
all_more es k (u ∷ vs) v =
    let es' = pairs.written same is_nil Nil es (number k) u in
    all_more es' (k +ℤ pos 1) vs v
    ∙ ap (λ z. pairs.written same is_nil Nil (pairs.all_written same is_nil Nil number es' (k +ℤ pos 1) vs) (number z) v) (plus_suc k (length vs))

-- one value more is written behind the others
pub put_more : (t : TableView) (k : ℤ) (vs : List Value) (v : Value) → rule.put (put_all t k vs) (Num (k +ℤ pos (length vs))) v ≡ put_all t k (vs ++ v ∷ [])
unfolding rule.put put_all
put_more t k vs v = ap (λ es. record t { entries = es }) (sym (all_more t.entries k vs v))

pub put_none : (t : TableView) (k : ℤ) → t ≡ put_all t k []
unfolding put_all
put_none t k = refl

-- ---- what is written reads no number beyond

clash : false ≡ true → ⊥
clash e = absurd (cc)

content : (a b : ℤ) → Num a ≡ Num b → a ≡ b
content a b e = cc

nil_is : (v : Value) → is_nil v ≡ true → v ≡ Nil
nil_is Nil h = refl
nil_is _ h = absurd (clash h)

pub apart : (a b : ℤ) → (a ≡ b → ⊥) → same (Num a) (Num b) ≡ false
apart a b h = by (same (Num a) (Num b)) refl
  where
    by : (c : Bool) → same (Num a) (Num b) ≡ c → c ≡ false
    by true e = absurd (h (content a b (value_is (Num a) (Num b) e)))
    by false e = refl

under_beyond : (es : Entries) (k : ℤ) (vs : List Value) (z : ℤ) → (k +ℤ pos (length vs)) ≤ℤ z → value_in (pairs.all_written same is_nil Nil number es k vs) (Num z) ≡ value_in es (Num z)
unfolding value_in
under_beyond es k [] z h = refl
under_beyond es k (v ∷ vs) z h =
    under_beyond (pairs.written same is_nil Nil es (number k) v) (k +ℤ pos 1) vs z (omega (arith, ints, h))
    ∙ written_else same is_nil Nil value_is (λ a. is_value a a refl) nil_is es (number k) v (Num z) (apart z k (λ e. omega (arith, ints, h, e)))

pub item_beyond : (t : TableView) (k : ℤ) (vs : List Value) (z : ℤ) → (k +ℤ pos (length vs)) ≤ℤ z → item (put_all t k vs) z ≡ item t z
unfolding put_all
item_beyond t k vs z h = under_beyond t.entries k vs z h

-- ---- steps of loops, where numbers are cast

pub items_step : (t : TableView) (k z : ℤ) (n : ℕ) (vs : List Value) (v : Value) → z ≡ k +ℤ pos n → vs ≡ items t k n → v ≡ item t z → vs ++ v ∷ [] ≡ items t k (n + 1)
items_step t k z n vs v e h is =
    ap (λ vs. vs ++ v ∷ []) h
    ∙ ap (λ v. items t k n ++ v ∷ []) (is ∙ ap (λ z. item t z) e)
    ∙ sym (items_more t k n)
    ∙ ap (λ n. items t k n) (sym (add-one n))

-- a value more is written
pub put_step : (t u : TableView) (k z : ℤ) (vs : List Value) (v : Value) → z ≡ k +ℤ pos (length vs) → t ≡ put_all u k vs → rule.put t (Num z) v ≡ put_all u k (vs ++ v ∷ [])
put_step t u k z vs v e h = ap (λ t. rule.put t (Num z) v) h ∙ ap (λ z. rule.put (put_all u k vs) (Num z) v) e ∙ put_more u k vs v

-- where the values are those of a list up to a place
pub put_listed : (t u : TableView) (k z : ℤ) (xs : List Value) (i : ℕ) (v : Value) → i < length xs → v ≡ get_or xs i v → z ≡ k +ℤ pos i → t ≡ put_all u k (take i xs) → rule.put t (Num z) v ≡ put_all u k (take (i + 1) xs)
put_listed t u k z xs i v l at e h =
    put_step t u k z (take i xs) v (e ∙ ap (λ n. k +ℤ pos n) (sym (length-take-le i xs (omega (arith, l))))) h
    ∙ ap (λ vs. put_all u k vs) (ap (λ v. take i xs ++ v ∷ []) at ∙ sym (take_more xs i v l))

-- what was written of elements
pub put_item : (t u : TableView) (k z z' : ℤ) (i : ℕ) (v : Value) (from : ℤ) → v ≡ item u z' → z' ≡ from +ℤ pos i → z ≡ k +ℤ pos i → t ≡ put_all u k (items u from i) → rule.put t (Num z) v ≡ put_all u k (items u from (i + 1))
put_item t u k z z' i v from is f e h =
    put_step t u k z (items u from i) v (e ∙ ap (λ n. k +ℤ pos n) (sym (length_items u from i))) h
    ∙ ap (λ vs. put_all u k vs) (items_step u from z' i (items u from i) v f refl is)

-- and of one value
pub put_again : (t u : TableView) (k z : ℤ) (i : ℕ) (v : Value) → z ≡ k +ℤ pos i → t ≡ put_all u k (replicate i v) → rule.put t (Num z) v ≡ put_all u k (replicate (i + 1) v)
put_again t u k z i v e h =
    put_step t u k z (replicate i v) v (e ∙ ap (λ n. k +ℤ pos n) (sym (length-replicate i v))) h
    ∙ ap (λ vs. put_all u k vs) (sym (replicate_more i v) ∙ ap (λ n. replicate n v) (sym (add-one i)))

-- ---- where memory was wanting

pub on_err : {A E P : Type 0} (r : Result A E) → P → OnErr r P
on_err (Ok a) p = tt
on_err (Err e) p = p

pub began : (t u now : TableView) (k k' : ℤ) (xs vs : List Value) (i : ℕ) → now ≡ t → t ≡ put_all u k vs → vs ≡ take i xs → k ≡ k' → Began u now k' xs
began t u now k k' xs vs i e h is f = record { count = i; is = e ∙ h ∙ ap (λ vs. put_all u k vs) is ∙ ap (λ k. put_all u k (take i xs)) f }

-- ---- elements that are not written yet

pub item_past : (t u : TableView) (k z from : ℤ) (i : ℕ) → t ≡ put_all u k (items u from i) → (k +ℤ pos i) ≤ℤ z → item t z ≡ item u z
item_past t u k z from i h l =
    ap (λ t. item t z) h
    ∙ item_beyond u k (items u from i) z (subst (λ n. (k +ℤ pos n) ≤ℤ z) (sym (length_items u from i)) l)

pub item_at : (t : TableView) (z z' : ℤ) → z ≡ z' → item t z ≡ item t z'
item_at t z z' e = ap (λ z. item t z) e

pub first_items : (t : TableView) (k k' : ℤ) (i n : ℕ) → k ≡ k' → i ≤ n → items t k i ≡ take i (items t k' n)
first_items t k k' i n e l = ap (λ k. items t k i) e ∙ sym (take_items t k' i n l)

-- after all values the last write wants memory
pub began_all : (r : Result (Unit {0}) OutOfMemory) (now t u : TableView) (k : ℤ) (vs : List Value) → OnErr r (now ≡ t) → t ≡ put_all u k vs → OnErr r (Began u now k vs)
began_all (Ok done) now t u k vs e h = tt
began_all (Err x) now t u k vs e h = record { count = length vs; is = e ∙ h ∙ ap (λ vs. put_all u k vs) (sym (take-length vs)) }

pub began_insert : (r : Result (Unit {0}) OutOfMemory) (now t u : TableView) (k l : ℤ) (n : ℕ) → OnErr r (now ≡ t) → t ≡ put_all u (k +ℤ pos 1) (items u k n) → k ≡ l → OnErr r (Began u now (l +ℤ pos 1) (items u l n))
began_insert r now t u k l n e h is = subst (λ k. OnErr r (Began u now (k +ℤ pos 1) (items u k n))) is (began_all r now t u (k +ℤ pos 1) (items u k n) e h)

pub began_remove : (r : Result (Unit {0}) OutOfMemory) (now t u : TableView) (k l : ℤ) (n : ℕ) → OnErr r (now ≡ t) → t ≡ put_all u k (items u (k +ℤ pos 1) n) → k ≡ l → OnErr r (Began u now l (items u (l +ℤ pos 1) n))
began_remove r now t u k l n e h is = subst (λ k. OnErr r (Began u now k (items u (k +ℤ pos 1) n))) is (began_all r now t u k (items u (k +ℤ pos 1) n) e h)
