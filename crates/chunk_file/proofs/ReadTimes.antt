-- Items that are read one after another, and what a fault in one of them is to the whole.
use Rattle.std.proofs.Common.{◌≡◌, ℕ, suc, ◌+◌, ◌-◌, ◌<◌, ◌≤◌, List, [], ◌∷◌, ◌++◌, refl, sym, ◌∙◌, ap, subst, arith, append_assoc}
use Rattle.std.proofs.lemmas.List.{append-nil}
use Rattle.chunk_file.specs.declared.fault.Fault.{Fault}
use Rattle.chunk_file.specs.declared.fault.Fault.TheVariants as faults
use Rattle.chunk_file.specs.Answers.{Fails}
use Rattle.chunk_file.specs.Reading.{Found, Read, Ends, Wrong, behind, read_number, read_times, read_counted}

-- ---- faults

pub fails_behind : {A B : Type 0} (f : Found A) (go : A → List ℕ → Found B) (fault : Fault) → Fails f fault → Fails (behind f go) fault
fails_behind f go faults.Ends h = record { by = ap (λ f. behind f go) h.by }
fails_behind f go (faults.Wrong left) h =
    record { by = record { from = h.by.from; is = ap (λ f. behind f go) h.by.is; place = h.by.place } }
fails_behind f go faults.OutOfMemory h = record { by = tt }

-- ---- items

-- the items done, before those that are read behind them
abbrev pub joined : {A : Type 0} → List A → Found (List A) → Found (List A)
joined done f = behind f (λ as' rest. Read (done ++ as') rest)

-- so many items are read, and others behind them
pub record ReadSoFar {A : Type 0} (read : List ℕ → Found A) (start : List ℕ) (i : ℕ) (done : List A) (left : List ℕ) : Type 0 where
  pub so_far : (n : ℕ) → read_times read (i + n) start ≡ joined done (read_times read n left)

joined_none : {A : Type 0} (f : Found (List A)) → f ≡ joined [] f
joined_none (Read as' rest) = refl
joined_none Ends = refl
joined_none (Wrong from) = refl

pub items_start : {A : Type 0} (read : List ℕ → Found A) (start : List ℕ) → ReadSoFar read start 0 [] start
items_start read start =
    record { so_far = λ n. ap (λ k. read_times read k start) (omega arith) ∙ joined_none (read_times read n start) }

joined_more : {A : Type 0} (done : List A) (a : A) (f : Found (List A))
    → joined done (behind f (λ as' rest. Read (a ∷ as') rest)) ≡ joined (done ++ a ∷ []) f
joined_more done a (Read as' rest) = ap (λ l. Read l rest) (sym (append_assoc done (a ∷ []) as'))
joined_more done a Ends = refl
joined_more done a (Wrong from) = refl

pub items_more : {A : Type 0} (read : List ℕ → Found A) (start : List ℕ) (i : ℕ) (done after : List A) (left rest : List ℕ) (a : A)
    → ReadSoFar read start i done left → read left ≡ Read a rest → after ≡ done ++ a ∷ [] → ReadSoFar read start (i + 1) after rest
items_more read start i done after left rest a so_far found e =
    subst (λ d. ReadSoFar read start (i + 1) d rest) (sym e)
    (record {
      so_far = λ n. ap (λ k. read_times read k start) (omega arith)
          ∙ so_far.so_far (suc n)
          ∙ ap (λ f. joined done (behind f (λ a rest. behind (read_times read n rest) (λ as' rest. Read (a ∷ as') rest)))) found
          ∙ joined_more done a (read_times read n rest);
    })

times_fail : {A : Type 0} (read : List ℕ → Found A) (start : List ℕ) (count i n : ℕ) (done : List A) (left : List ℕ) (fault : Fault)
    → ReadSoFar read start i done left → count ≡ i + suc n → Fails (read left) fault → Fails (read_times read count start) fault
times_fail read start count i n done left fault so_far e fails =
    subst (λ f. Fails f fault) (sym (ap (λ k. read_times read k start) e ∙ so_far.so_far (suc n)))
    (fails_behind _ _ fault (fails_behind (read left) _ fault fails))

-- a fault in an item is one in the list
pub item_fails : {A : Type 0} (read : List ℕ → Found A) (bytes start : List ℕ) (count i : ℕ) (done : List A) (left : List ℕ) (fault : Fault)
    → read_number bytes ≡ Read count start → ReadSoFar read start i done left → i < count → Fails (read left) fault → Fails (read_counted read bytes) fault
item_fails read bytes start count i done left fault counted so_far more fails =
    subst (λ f. Fails f fault) (sym (ap (λ f. behind f (read_times read)) counted))
    (times_fail read start count i (count - i - 1) done left fault so_far (omega arith) fails)

pub items_end : {A : Type 0} (read : List ℕ → Found A) (bytes start : List ℕ) (count i : ℕ) (done : List A) (left : List ℕ)
    → read_number bytes ≡ Read count start → ReadSoFar read start i done left → i ≤ count → count ≤ i → read_counted read bytes ≡ Read done left
items_end read bytes start count i done left counted so_far within all =
    ap (λ f. behind f (read_times read)) counted
    ∙ ap (λ k. read_times read k start) (omega arith)
    ∙ so_far.so_far 0
    ∙ ap (λ l. Read l left) (append-nil done)
