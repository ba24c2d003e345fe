-- Which coroutines have resumed each other, where one is resumed, left or closed.
use Rattle.std.proofs.Common.{◌≡◌, ◌≢◌, ℕ, zero, suc, ◌<◌, List, [], ◌∷◌, ◌++◌, length, Option, Some, None, refl, sym, ap, ◌∙◌, subst, arith, length-append}
use Rattle.std.specs.Prelude.{slice_set}
use Rattle.std.proofs.lemmas.List.{get_or-set_same, get_or-set_other, length-set}
use Rattle.std.proofs.Math.ListN.{get_or-append}
use Rattle.value_model.specs.declared.kind.CoStatus.{CoStatus}
use Rattle.value_model.specs.declared.kind.CoStatus.TheVariants.{Running, Suspended, Normal, Dead}
use Rattle.value_model.specs.Values.{Nil}
use Rattle.value_model.specs.Store.{Store, CoroutineOf, place_of_running}
use Rattle.value_model.specs.CoroutineRows.{coroutine_of, with_coroutine, dead}
use Rattle.value_model.specs.Waiting.{with_status, becomes, resumed, left}
use Rattle.code_simulation.proofs.Promises.{coroutine_at, Apart, Chain}

-- ---- the coroutines of a store

-- the one that a running place stands for has another status; none stands for the main function's own run
abbrev pub turned : CoStatus → Option ℕ → List CoroutineOf → List CoroutineOf
turned status None cs = cs
turned status (Some i) cs = slice_set cs i (with_status (coroutine_at cs i) status)

pub of_is : (s : Store) (i : ℕ) → coroutine_of s i ≡ coroutine_at s.coroutines i
unfolding coroutine_of
of_is s i = refl

pub with_is : (s : Store) (i : ℕ) (c : CoroutineOf) → (with_coroutine s i c).coroutines ≡ slice_set s.coroutines i c
unfolding with_coroutine
with_is s i c = refl

pub with_running : (s : Store) (i : ℕ) (c : CoroutineOf) → (with_coroutine s i c).running ≡ s.running
unfolding with_coroutine
with_running s i c = refl

becomes_is : (status : CoStatus) (o : Option ℕ) (s : Store) → (becomes status o s).coroutines ≡ turned status o s.coroutines
unfolding with_coroutine coroutine_of
becomes_is status None s = refl
becomes_is status (Some i) s = refl

abbrev pub resumed_one : Option ℕ → CoroutineOf
resumed_one o = record { body = Nil; status = Running; resumer = o; failure = None }

pub resumed_is : (i : ℕ) (s : Store) → (resumed i s).coroutines ≡ slice_set (turned Normal s.running s.coroutines) i (resumed_one s.running)
resumed_is i s =
    with_is (becomes Normal s.running s) i (resumed_one s.running) ∙ ap (λ cs. slice_set cs i (resumed_one s.running)) (becomes_is Normal s.running s)

pub left_is : (i : ℕ) (c : CoroutineOf) (s : Store) → (left i c s).coroutines
    ≡ turned Running (coroutine_at s.coroutines i).resumer (slice_set s.coroutines i c)
left_is i c s =
    becomes_is Running (coroutine_of s i).resumer (with_coroutine s i c)
    ∙ ap (λ x. turned Running x.resumer (with_coroutine s i c).coroutines) (of_is s i)
    ∙ ap (λ cs. turned Running (coroutine_at s.coroutines i).resumer cs) (with_is s i c)

pub left_running : (i : ℕ) (c : CoroutineOf) (s : Store) → (left i c s).running ≡ (coroutine_at s.coroutines i).resumer
left_running i c s = ap (λ x. x.resumer) (of_is s i)

-- ---- one of them

pub written : (cs : List CoroutineOf) (i : ℕ) (c : CoroutineOf) → i < length cs → coroutine_at (slice_set cs i c) i ≡ c
written cs i c lt = get_or-set_same cs i c dead lt

pub unwritten : (cs : List CoroutineOf) (i j : ℕ) (c : CoroutineOf) → j ≢ i → coroutine_at (slice_set cs i c) j ≡ coroutine_at cs j
unwritten cs i j c ne = get_or-set_other cs i j c dead ne

pub dead_written : (cs : List CoroutineOf) (i : ℕ) → coroutine_at (slice_set cs i dead) i ≡ dead
dead_written [] i = refl
dead_written (c ∷ cs) zero = refl
dead_written (c ∷ cs) (suc i) = dead_written cs i

-- one that is not dead is there
pub is_there : (cs : List CoroutineOf) (i : ℕ) → (coroutine_at cs i).status ≢ Dead → i < length cs
is_there [] i ne = absurd (ne refl)
is_there (c ∷ cs) zero ne = omega arith
is_there (c ∷ cs) (suc i) ne = let r = is_there cs i ne in omega arith

pub length_turned : (status : CoStatus) (o : Option ℕ) (cs : List CoroutineOf) → length (turned status o cs) ≡ length cs
length_turned status None cs = refl
length_turned status (Some i) cs = length-set cs i (with_status (coroutine_at cs i) status)

pub turned_other : (status : CoStatus) (o : Option ℕ) (cs : List CoroutineOf) (j : ℕ) → j ≢ place_of_running o
    → coroutine_at (turned status o cs) j ≡ coroutine_at cs j
turned_other status None cs j ne = refl
turned_other status (Some i) cs j ne = unwritten cs i j (with_status (coroutine_at cs i) status) ne

-- ---- chains

-- a coroutine is none of a chain if its status is another
pub apart_by : (cs : List CoroutineOf) (line : List ℕ) (status : CoStatus) (o : Option ℕ) (i : ℕ) → (coroutine_at cs i).status ≢ status
    → (coroutine_at cs i).status ≢ Normal → Chain cs status o line → Apart i line
apart_by cs [] status None i a b c = tt
apart_by cs (j ∷ js) status None i a b c = absurd c
apart_by cs [] status (Some k) i a b c = absurd c
apart_by cs (j ∷ js) status (Some k) i a b c = (
  λ e. a (ap (λ n. (coroutine_at cs n).status) (sym e ∙ sym c.0) ∙ c.2),
  apart_by cs js Normal (coroutine_at cs k).resumer i b b c.4,
)

-- another one is written
pub chain_set : (cs : List CoroutineOf) (line : List ℕ) (status : CoStatus) (o : Option ℕ) (i : ℕ) (x : CoroutineOf) → Apart i line
    → Chain cs status o line → Chain (slice_set cs i x) status o line
chain_set cs [] status None i x a c = tt
chain_set cs (j ∷ js) status None i x a c = absurd c
chain_set cs [] status (Some k) i x a c = absurd c
chain_set cs (j ∷ js) status (Some k) i x a c =
    let same = unwritten cs i k x (λ e. a.0 (sym c.0 ∙ e)) in (
      c.0,
      omega (arith, c.1, length-set cs i x),
      ap (λ y. y.status) same ∙ c.2,
      c.3,
      subst (λ y. Chain (slice_set cs i x) Normal y.resumer js) (sym same) (chain_set cs js Normal (coroutine_at cs k).resumer i x a.1 c.4),
    )

-- the first one has another status
pub chain_turned : (cs : List CoroutineOf) (line : List ℕ) (status : CoStatus) (o : Option ℕ) (other : CoStatus) → Chain cs status o line
    → Chain (turned other o cs) other o line
chain_turned cs [] status None other c = tt
chain_turned cs (j ∷ js) status None other c = absurd c
chain_turned cs [] status (Some k) other c = absurd c
chain_turned cs (j ∷ js) status (Some k) other c =
    let x = with_status (coroutine_at cs k) other in
    let same = written cs k x c.1 in (
      c.0,
      omega (arith, c.1, length-set cs k x),
      ap (λ y. y.status) same,
      c.3,
      subst (λ y. Chain (slice_set cs k x) Normal y.resumer js) (sym same)
          (chain_set cs js Normal (coroutine_at cs k).resumer k x c.3 c.4),
    )

-- more coroutines are there
pub chain_more : (cs : List CoroutineOf) (line : List ℕ) (status : CoStatus) (o : Option ℕ) (more : List CoroutineOf) → Chain cs status o line
    → Chain (cs ++ more) status o line
chain_more cs [] status None more c = tt
chain_more cs (j ∷ js) status None more c = absurd c
chain_more cs [] status (Some k) more c = absurd c
chain_more cs (j ∷ js) status (Some k) more c =
    let same = get_or-append cs more dead k c.1 in (
      c.0,
      omega (arith, c.1, length-append cs more),
      ap (λ y. y.status) same ∙ c.2,
      c.3,
      subst (λ y. Chain (cs ++ more) Normal y.resumer js) (sym same) (chain_more cs js Normal (coroutine_at cs k).resumer more c.4),
    )

-- a coroutine that waits is resumed: it stands before the others
pub chain_resumed : (s : Store) (line : List ℕ) (i : ℕ) → (coroutine_at s.coroutines i).status ≡ Suspended → Chain s.coroutines Running s.running line
    → Chain (resumed i s).coroutines Running (Some i) (i ∷ line)
chain_resumed s line i e c =
    let cs = turned Normal s.running s.coroutines in
    let x = resumed_one s.running in
    let apart = apart_by s.coroutines line Running s.running i (λ r. suspended_running (sym e ∙ r)) (λ r. suspended_normal (sym e ∙ r)) c in
    let there = is_there s.coroutines i (λ r. suspended_dead (sym e ∙ r)) in
    let here : i < length cs = omega (arith, there, length_turned Normal s.running s.coroutines) in
    let same = written cs i x here in
    subst (λ cs. Chain cs Running (Some i) (i ∷ line)) (sym (resumed_is i s)) (
      refl,
      omega (arith, here, length-set cs i x),
      ap (λ y. y.status) same,
      apart,
      subst (λ y. Chain (slice_set cs i x) Normal y.resumer line) (sym same)
          (chain_set cs line Normal s.running i x apart (chain_turned s.coroutines line Running s.running Normal c)),
    )
  where
    suspended_running : Suspended ≡ Running → ⊥
    suspended_running e = cc

    suspended_normal : Suspended ≡ Normal → ⊥
    suspended_normal e = cc

    suspended_dead : Suspended ≡ Dead → ⊥
    suspended_dead e = cc

-- one is left: those behind it remain
pub chain_left : (s : Store) (i j : ℕ) (line : List ℕ) (x : CoroutineOf) → Chain s.coroutines Running (Some i) (j ∷ line)
    → Chain (left i x s).coroutines Running (left i x s).running line
chain_left s i j line x c =
    subst (λ cs. Chain cs Running (left i x s).running line) (sym (left_is i x s))
    (subst (λ o. Chain (turned Running (coroutine_at s.coroutines i).resumer (slice_set s.coroutines i x)) Running o line) (sym (left_running i x s))
    (chain_turned (slice_set s.coroutines i x) line Normal (coroutine_at s.coroutines i).resumer Running
    (chain_set s.coroutines line Normal (coroutine_at s.coroutines i).resumer i x c.3 c.4)))
