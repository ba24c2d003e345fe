-- What waits in all coroutines, with the functions of all of them, when a call is decided.
use Rattle.std.proofs.Common.{◌≡◌, refl, sym, ap, ◌∙◌, ℕ, zero, suc, ◌-◌, ◌<◌, ◌≤◌, Bool, true, false, List, [], ◌∷◌, ◌++◌, length, replicate, get_or, set, Option, Some, None, arith, subst, nat_eq, length-set, length-append}
use Rattle.std.proofs.lemmas.Bool.Decides.{nat_tests}
use Rattle.value_model.specs.declared.kind.CoStatus.{CoStatus}
use Rattle.value_model.specs.declared.kind.CoStatus.TheVariants.{Running, Normal}
use Rattle.value_model.specs.Values.{Nil, TableRef}
use Rattle.value_model.specs.Store.{Store, CoroutineOf, here, place_of_running, with_environment}
use Rattle.value_model.specs.CoroutineRows.{coroutine_of, with_coroutine, dead}
use Rattle.value_model.specs.Waits.{Wait, Runs, Protects, Guards, Handles, Resumes, Asks, Waits, waiting, with_waiting, leave, await, rest_of}
use Rattle.value_model.specs.Waiting.{with_status, becomes, resumed, left, for_all}
use Rattle.op_words.specs.Chunks.{ChunkOf}
use Rattle.machine_meaning.specs.States.{Frame}
use Rattle.machine_meaning.specs.Calls.{is_dead}
use Rattle.checked_runs.specs.Safe.{Each, Sizes, IsResumer, IsCoroutine, IsStore, IsWait, AreStacked, AreLeft}
use Rattle.checked_runs.specs.Keeps.{Keeps, IsOwnWait}
use Rattle.checked_runs.proofs.Elements.{each_or, each_set, each_append}
use Rattle.checked_runs.proofs.Waits.{set_here, set_elsewhere, here_below}

-- for each coroutine the functions that wait in it have been entered, whichever runs
pub record IsSettled (chunk : ChunkOf) (z : Sizes) (s : Store) (ws : Waits) (frames : ℕ → List Frame) : Type 0 where
  pub store : IsStore z.functions s
  pub environments : length s.closures ≡ z.functions
  pub enough : length s.coroutines ≤ length ws
  pub each : Each (Each (IsWait z.functions)) ws
  pub stacked : (j : ℕ) → AreStacked chunk z (waiting ws j) (frames j)
  pub dead : (j : ℕ) → nat_eq j (here s) ≡ false → is_dead (coroutine_of s j).status ≡ true → AreStacked chunk z (waiting ws j) []

pub stacked_left : (chunk : ChunkOf) (z : Sizes) (ws : List Wait) (fs : List Frame) → AreStacked chunk z ws fs → AreLeft chunk z ws fs
stacked_left chunk z [] fs i = tt
stacked_left chunk z (Runs c ∷ ws) [] i = i
stacked_left chunk z (Runs c ∷ ws) (f ∷ fs) i = i.2
stacked_left chunk z (Protects ∷ ws) fs i = i
stacked_left chunk z (Guards h ∷ ws) fs i = i
stacked_left chunk z (Handles ∷ ws) fs i = i
stacked_left chunk z (Resumes b ∷ ws) fs i = i
stacked_left chunk z (Asks c ∷ ws) fs i = i

pub own_stacked : (chunk : ChunkOf) (z : Sizes) (w : Wait) (ws : List Wait) (fs : List Frame) → IsOwnWait z.functions w → AreStacked chunk z ws fs
    → AreStacked chunk z (w ∷ ws) fs
own_stacked chunk z (Runs c) ws fs o i = absurd o
own_stacked chunk z Protects ws fs o i = i
own_stacked chunk z (Guards h) ws fs o i = i
own_stacked chunk z Handles ws fs o i = i
own_stacked chunk z (Resumes b) ws fs o i = i
own_stacked chunk z (Asks c) ws fs o i = i

pub own_wait : (n : ℕ) (w : Wait) → IsOwnWait n w → IsWait n w
own_wait n (Runs c) o = absurd o
own_wait n Protects o = o
own_wait n (Guards h) o = o
own_wait n Handles o = o
own_wait n (Resumes b) o = o
own_wait n (Asks c) o = o

-- ---- coroutines of a store

pub dead_made : (n count : ℕ) → IsCoroutine n count dead
dead_made n count = record { body = tt; resumer = tt; failure = tt }

pub coroutine_made : (n : ℕ) (s : Store) (i : ℕ) → IsStore n s → IsCoroutine n (length s.coroutines) (coroutine_of s i)
unfolding coroutine_of
coroutine_made n s i is = each_or (IsCoroutine n (length s.coroutines)) s.coroutines i dead is.coroutines (dead_made n (length s.coroutines))

-- one that is not dead is there
pub alive_below : (s : Store) (i : ℕ) → is_dead (coroutine_of s i).status ≡ false → i < length s.coroutines
unfolding coroutine_of
alive_below s i e = below s.coroutines i e
  where
    below : (cs : List CoroutineOf) (i : ℕ) → is_dead (get_or cs i dead).status ≡ false → i < length cs
    below [] i e = absurd cc
    below (c ∷ cs) zero e = omega arith
    below (c ∷ cs) (suc i) e = let l = below cs i e in omega arith

pub written_here : (s : Store) (i : ℕ) (c : CoroutineOf) → i < length s.coroutines → coroutine_of (with_coroutine s i c) i ≡ c
unfolding coroutine_of with_coroutine
written_here s i c l = set_here s.coroutines i c dead l

pub written_elsewhere : (s : Store) (i j : ℕ) (c : CoroutineOf) → nat_eq j i ≡ false → coroutine_of (with_coroutine s i c) j ≡ coroutine_of s j
unfolding coroutine_of with_coroutine
written_elsewhere s i j c e = set_elsewhere s.coroutines i j c dead e

pub not_zero : (i : ℕ) → 0 < i → nat_eq 0 i ≡ false
not_zero zero l = absurd (omega arith)
not_zero (suc i) l = grind (arith, nat_tests)

-- another coroutine than the main function's own run is written
pub coroutine_written : (n : ℕ) (s : Store) (i : ℕ) (c : CoroutineOf) → 0 < i → IsStore n s → IsCoroutine n (length s.coroutines) c
    → IsStore n (with_coroutine s i c)
unfolding with_coroutine coroutine_of
coroutine_written n s i c l is m =
    let same = length-set s.coroutines i c in
    record {
      shared = is.shared;
      tables = is.tables;
      coroutines =
          subst (λ k. Each (IsCoroutine n k) (set s.coroutines i c)) (sym same)
          (each_set (IsCoroutine n (length s.coroutines)) s.coroutines i c is.coroutines m);
      some = let e = is.some in omega arith;
      running = subst (λ k. IsResumer k s.running) (sym same) is.running;
      main = ap (λ (c : CoroutineOf). is_dead c.status) (set_elsewhere s.coroutines i 0 c dead (not_zero i l)) ∙ is.main;
    }

-- what a coroutine that is written leaves as it was
pub record Same (s t : Store) : Type 0 where
  pub count : length t.coroutines ≡ length s.coroutines
  pub closures : t.closures ≡ s.closures
  pub running : t.running ≡ s.running

pub written_same : (s : Store) (i : ℕ) (c : CoroutineOf) → Same s (with_coroutine s i c)
unfolding with_coroutine
written_same s i c = record { count = length-set s.coroutines i c; closures = refl; running = refl }

-- ---- more coroutines

pub none_more : (ws : Waits) (k j : ℕ) → waiting (ws ++ replicate k []) j ≡ waiting ws j
none_more [] zero j = refl
none_more [] (suc k) zero = refl
none_more [] (suc k) (suc j) = none_more [] k j
none_more (w ∷ ws) k zero = refl
none_more (w ∷ ws) k (suc j) = none_more ws k j

each_none : (n k : ℕ) → Each (Each (IsWait n)) (replicate k [])
each_none n zero = tt
each_none n (suc k) = (tt, each_none n k)

dead_before : (cs more : List CoroutineOf) (j : ℕ) → is_dead (get_or (cs ++ more) j dead).status ≡ true → is_dead (get_or cs j dead).status ≡ true
dead_before [] more j e = refl
dead_before (c ∷ cs) more zero e = e
dead_before (c ∷ cs) more (suc j) e = dead_before cs more j e

was_dead : (s t : Store) (more : List CoroutineOf) (j : ℕ) → t.coroutines ≡ s.coroutines ++ more → is_dead (coroutine_of t j).status ≡ true
    → is_dead (coroutine_of s j).status ≡ true
unfolding coroutine_of
was_dead s t more j same e = dead_before s.coroutines more j (sym (ap (λ cs. is_dead (get_or cs j dead).status) same) ∙ e)

all_long : (k : ℕ) → length (replicate {A = List Wait} k []) ≡ k
all_long zero = refl
all_long (suc k) = ap (λ n. suc n) (all_long k)

module _ {chunk : ChunkOf} {z : Sizes} {frames : ℕ → List Frame} where
  -- other things wait in the coroutine that runs
  pub settled_set : {s : Store} {ws : Waits} → (new : List Wait) → IsSettled chunk z s ws frames → Each (IsWait z.functions) new
      → AreStacked chunk z new (frames (here s))
      → IsSettled chunk z s (with_waiting ws (here s) new) frames
  settled_set {s} {ws} new i m st = record {
    store = i.store;
    environments = i.environments;
    enough = let e = i.enough in omega (arith, length-set ws (here s) new);
    each = each_set (Each (IsWait z.functions)) ws (here s) new i.each m;
    stacked = λ j. by j (nat_eq j (here s)) refl;
    dead = λ j e d. subst (λ l. AreStacked chunk z l []) (sym (set_elsewhere ws (here s) j new [] e)) (i.dead j e d);
  }
    where
      by : (j : ℕ) (b : Bool) → nat_eq j (here s) ≡ b → AreStacked chunk z (waiting (with_waiting ws (here s) new) j) (frames j)
      by j true e =
          let same : here s ≡ j = grind (arith, nat_tests) in
          let below = here_below s i.store in
          let en = i.enough in
          let is = set_here ws (here s) new [] (omega arith) in
          subst (λ j. AreStacked chunk z (waiting (with_waiting ws (here s) new) j) (frames j)) same
          (subst (λ l. AreStacked chunk z l (frames (here s))) (sym is) st)
      by j false e = subst (λ l. AreStacked chunk z l (frames j)) (sym (set_elsewhere ws (here s) j new [] e)) (i.stacked j)

  pub settled_await : {s : Store} {ws : Waits} → (w : Wait) → IsSettled chunk z s ws frames → IsOwnWait z.functions w
      → IsSettled chunk z s (await w ws s) frames
  settled_await {s} {ws} w i o =
      settled_set (w ∷ waiting ws (here s)) i (own_wait z.functions w o, each_or (Each (IsWait z.functions)) ws (here s) [] i.each tt)
      (own_stacked chunk z w (waiting ws (here s)) (frames (here s)) o (i.stacked (here s)))

  -- a call no longer waits
  pub settled_over : {s : Store} {ws : Waits} → (w : Wait) (rest : List Wait) → IsSettled chunk z s ws frames → waiting ws (here s) ≡ w ∷ rest
      → AreStacked chunk z rest (frames (here s))
      → IsSettled chunk z s (leave ws s) frames
  settled_over {s} {ws} w rest i e st =
      let same : rest_of (waiting ws (here s)) ≡ rest = ap rest_of e in
      let all : Each (IsWait z.functions) (waiting ws (here s)) = each_or (Each (IsWait z.functions)) ws (here s) [] i.each tt in
      let kept : Each (IsWait z.functions) (w ∷ rest) = subst (Each (IsWait z.functions)) e all in
      settled_set (rest_of (waiting ws (here s))) i (subst (Each (IsWait z.functions)) (sym same) kept.1)
      (subst (λ l. AreStacked chunk z l (frames (here s))) (sym same) st)

  -- ---- the library has changed the store

  pub settled_library : {s : Store} {ws : Waits} → (t : Store) (more : List CoroutineOf) → IsSettled chunk z s ws frames → Keeps z.functions s t more
      → IsSettled chunk z t (for_all t ws) frames
  settled_library {s} {ws} t more i k =
      let many = length t.coroutines - length ws in
      let same : here t ≡ here s = ap place_of_running k.running in
      record {
        store = k.store;
        environments = k.environments ∙ i.environments;
        enough = omega (arith, length-append ws (replicate many []), all_long many);
        each = each_append (Each (IsWait z.functions)) ws (replicate many []) i.each (each_none z.functions many);
        stacked = λ j. subst (λ l. AreStacked chunk z l (frames j)) (sym (none_more ws many j)) (i.stacked j);
        dead =
            λ j e d. subst (λ l. AreStacked chunk z l []) (sym (none_more ws many j)) (i.dead j (sym (ap (nat_eq j) same) ∙ e) (was_dead s t more j k.coroutines d));
      }

  pub settled_environment : {s : Store} {ws : Waits} → (f : ℕ) (t : TableRef) → IsSettled chunk z s ws frames
      → IsSettled chunk z (with_environment s f t) ws frames
  unfolding coroutine_of
  settled_environment {s} {ws} f t i = record {
    store =
        record { shared = i.store.shared; tables = i.store.tables; coroutines = i.store.coroutines; some = i.store.some; running = i.store.running; main = i.store.main };
    environments = length-set s.closures f t ∙ i.environments;
    enough = i.enough;
    each = i.each;
    stacked = i.stacked;
    dead = i.dead;
  }

-- ---- coroutines that are resumed and left

-- who is normal, or runs, again
becomes_made : (n : ℕ) (status : CoStatus) (o : Option ℕ) (s : Store) → IsResumer (length s.coroutines) o → IsStore n s
    → IsStore n (becomes status o s)
becomes_made n status None s r is = is
becomes_made n status (Some i) s r is =
    let m = coroutine_made n s i is in
    coroutine_written n s i (with_status (coroutine_of s i) status) r.0 is (record { body = m.body; resumer = m.resumer; failure = m.failure })

becomes_same : (status : CoStatus) (o : Option ℕ) (s : Store) → Same s (becomes status o s)
becomes_same status None s = record { count = refl; closures = refl; running = refl }
becomes_same status (Some i) s = written_same s i (with_status (coroutine_of s i) status)

-- the one that runs, or the main function's own run
becomes_elsewhere : (status : CoStatus) (o : Option ℕ) (s : Store) (j : ℕ) → nat_eq j (place_of_running o) ≡ false
    → coroutine_of (becomes status o s) j ≡ coroutine_of s j
becomes_elsewhere status None s j e = refl
becomes_elsewhere status (Some i) s j e = written_elsewhere s i j (with_status (coroutine_of s i) status) e

becomes_alive : (n : ℕ) (status : CoStatus) (o : Option ℕ) (s : Store) → is_dead status ≡ false → IsResumer (length s.coroutines) o → IsStore n s
    → is_dead (coroutine_of (becomes status o s) (place_of_running o)).status ≡ false
becomes_alive n status None s a r is = is.main
becomes_alive n status (Some i) s a r is =
    ap (λ (c : CoroutineOf). is_dead c.status) (written_here s i (with_status (coroutine_of s i) status) r.1) ∙ a

runs_now : (n : ℕ) (s : Store) (o : Option ℕ) → IsResumer (length s.coroutines) o → IsStore n s → IsStore n (record s { running = o })
unfolding coroutine_of
runs_now n s o r is = record { shared = is.shared; tables = is.tables; coroutines = is.coroutines; some = is.some; running = r; main = is.main }

same_in : (s : Store) (o : Option ℕ) (j : ℕ) → coroutine_of (record s { running = o }) j ≡ coroutine_of s j
unfolding coroutine_of
same_in s o j = refl

-- the store changes, and what is dead in it is known
settled_store : {chunk : ChunkOf} {z : Sizes} {frames : ℕ → List Frame} {s : Store} {ws : Waits} → (t : Store) → IsSettled chunk z s ws frames
    → IsStore z.functions t → t.closures ≡ s.closures
    → length t.coroutines ≡ length s.coroutines
    → ((j : ℕ) → nat_eq j (here t) ≡ false → is_dead (coroutine_of t j).status ≡ true → AreStacked chunk z (waiting ws j) [])
    → IsSettled chunk z t ws frames
settled_store t i is closures count dead = record {
  store = is;
  environments = ap length closures ∙ i.environments;
  enough = let e = i.enough in omega arith;
  each = i.each;
  stacked = i.stacked;
  dead = dead;
}

-- a coroutine that was resumed
abbrev resumed_one : Store → CoroutineOf
resumed_one s = record { body = Nil; status = Running; resumer = s.running; failure = None }

resumed_before : (s : Store) (k j : ℕ) → nat_eq j k ≡ false → coroutine_of (resumed k s) j ≡ coroutine_of (becomes Normal s.running s) j
resumed_before s k j e =
    same_in (with_coroutine (becomes Normal s.running s) k (resumed_one s)) (Some k) j
    ∙ written_elsewhere (becomes Normal s.running s) k j (resumed_one s) e

-- a coroutine is left, and the one that has resumed it runs
left_before : (s : Store) (k j : ℕ) (c : CoroutineOf) → nat_eq j (place_of_running (coroutine_of s k).resumer) ≡ false
    → coroutine_of (left k c s) j ≡ coroutine_of (with_coroutine s k c) j
left_before s k j c e =
    let r = (coroutine_of s k).resumer in
    same_in (becomes Running r (with_coroutine s k c)) r j ∙ becomes_elsewhere Running r (with_coroutine s k c) j e

module _ {chunk : ChunkOf} {z : Sizes} {frames : ℕ → List Frame} {s : Store} {ws : Waits} (i : IsSettled chunk z s ws frames) where
  resumed_dead : (k j : ℕ) (b : Bool) → nat_eq j (here s) ≡ b → nat_eq j k ≡ false → is_dead (coroutine_of (resumed k s) j).status ≡ true
      → AreStacked chunk z (waiting ws j) []
  resumed_dead k j true f e d =
      let same : here s ≡ j = grind (arith, nat_tests) in
      let alive = becomes_alive z.functions Normal s.running s refl i.store.running i.store in
      let dead_now = sym (ap (λ (c : CoroutineOf). is_dead c.status) (resumed_before s k j e)) ∙ d in
      let dead_here = ap (λ j. is_dead (coroutine_of (becomes Normal s.running s) j).status) same ∙ dead_now in
      absurd cc
  resumed_dead k j false f e d =
      i.dead j f (sym (ap (λ (c : CoroutineOf). is_dead c.status) (resumed_before s k j e ∙ becomes_elsewhere Normal s.running s j f)) ∙ d)

  pub settled_resumed : (k : ℕ) → 0 < k → k < length s.coroutines → IsSettled chunk z (resumed k s) ws frames
  settled_resumed k l below =
      let n = z.functions in
      let u = becomes Normal s.running s in
      let v = with_coroutine u k (resumed_one s) in
      let in_u : IsStore n u = becomes_made n Normal s.running s i.store.running i.store in
      let same_u : Same s u = becomes_same Normal s.running s in
      let same_v : Same u v = written_same u k (resumed_one s) in
      let good : IsCoroutine n (length u.coroutines) (resumed_one s) =
      record { body = tt; resumer = subst (λ m. IsResumer m s.running) (sym same_u.count) i.store.running; failure = tt } in
      let in_v : IsStore n v = coroutine_written n u k (resumed_one s) l in_u good in
      let fits : k < length v.coroutines = omega (arith, same_u.count, same_v.count) in
      settled_store (resumed k s) i (runs_now n v (Some k) (l, fits) in_v) (same_v.closures ∙ same_u.closures) (same_v.count ∙ same_u.count)
      (λ j. resumed_dead k j (nat_eq j (here s)) refl)

  left_dead : (k : ℕ) (c : CoroutineOf) → s.running ≡ Some k → (is_dead c.status ≡ true → AreStacked chunk z (waiting ws k) [])
      → k < length s.coroutines → (j : ℕ) (b : Bool) → nat_eq j k ≡ b
      → nat_eq j (here (left k c s)) ≡ false → is_dead (coroutine_of (left k c s) j).status ≡ true → AreStacked chunk z (waiting ws j) []
  left_dead k c r st below j true f e d =
      let same : k ≡ j = grind (arith, nat_tests) in
      let now = sym (ap (λ (c : CoroutineOf). is_dead c.status) (left_before s k j c e)) ∙ d in
      let here_now =
      sym (ap (λ (c : CoroutineOf). is_dead c.status) (written_here s k c below))
      ∙ ap (λ j. is_dead (coroutine_of (with_coroutine s k c) j).status) same ∙ now in
      subst (λ j. AreStacked chunk z (waiting ws j) []) same (st here_now)
  left_dead k c r st below j false f e d =
      i.dead j (ap (nat_eq j) (ap place_of_running r) ∙ f)
      (sym (ap (λ (c : CoroutineOf). is_dead c.status) (left_before s k j c e ∙ written_elsewhere s k j c f)) ∙ d)

  pub settled_left : (k : ℕ) (c : CoroutineOf) → s.running ≡ Some k → IsCoroutine z.functions (length s.coroutines) c
      → (is_dead c.status ≡ true → AreStacked chunk z (waiting ws k) [])
      → IsSettled chunk z (left k c s) ws frames
  settled_left k c r good st =
      let n = z.functions in
      let v = with_coroutine s k c in
      let q = (coroutine_of s k).resumer in
      let u = becomes Running q v in
      let runs : IsResumer (length s.coroutines) (Some k) = subst (IsResumer (length s.coroutines)) r i.store.running in
      let same_v : Same s v = written_same s k c in
      let same_u : Same v u = becomes_same Running q v in
      let in_v : IsStore n v = coroutine_written n s k c runs.0 i.store good in
      let by : IsResumer (length s.coroutines) q = (coroutine_made n s k i.store).resumer in
      let by_v : IsResumer (length v.coroutines) q = subst (λ m. IsResumer m q) (sym same_v.count) by in
      let in_u : IsStore n u = becomes_made n Running q v by_v in_v in
      let by_u : IsResumer (length u.coroutines) q = subst (λ m. IsResumer m q) (sym same_u.count) by_v in
      settled_store (left k c s) i (runs_now n u q by_u in_u) (same_u.closures ∙ same_v.closures) (same_u.count ∙ same_v.count)
      (λ j. left_dead k c r st runs.1 j (nat_eq j k) refl)

  closed_dead : (k : ℕ) (c : CoroutineOf) → AreStacked chunk z (waiting ws k) [] → (j : ℕ) (b : Bool) → nat_eq j k ≡ b
      → nat_eq j (here s) ≡ false → is_dead (coroutine_of (with_coroutine s k c) j).status ≡ true → AreStacked chunk z (waiting ws j) []
  closed_dead k c st j true f e d = let same : k ≡ j = grind (arith, nat_tests) in subst (λ j. AreStacked chunk z (waiting ws j) []) same st
  closed_dead k c st j false f e d = i.dead j e (sym (ap (λ (c : CoroutineOf). is_dead c.status) (written_elsewhere s k j c f)) ∙ d)

  here_same : (k : ℕ) (c : CoroutineOf) (j : ℕ) → nat_eq j (here (with_coroutine s k c)) ≡ false → nat_eq j (here s) ≡ false
  here_same k c j e = sym (ap (λ o. nat_eq j (place_of_running o)) (written_same s k c).running) ∙ e

  -- nothing waits in a coroutine any longer, and it is dead
  pub settled_closed : (k : ℕ) → 0 < k → AreStacked chunk z (waiting ws k) [] → IsSettled chunk z (with_coroutine s k dead) ws frames
  settled_closed k l st =
      let same = written_same s k dead in
      settled_store (with_coroutine s k dead) i (coroutine_written z.functions s k dead l i.store (dead_made z.functions (length s.coroutines)))
      same.closures same.count
      (λ j e. closed_dead k dead st j (nat_eq j k) refl (here_same k dead j e))

-- ---- coroutines in which nothing waits

emptied : (chunk : ChunkOf) (z : Sizes) (ws : Waits) (k j : ℕ) (fs : List Frame) → AreStacked chunk z (waiting ws j) fs
    → AreStacked chunk z (waiting (with_waiting ws k []) j) fs
emptied chunk z [] k j fs i = i
emptied chunk z (w ∷ ws) zero zero fs i = tt
emptied chunk z (w ∷ ws) zero (suc j) fs i = i
emptied chunk z (w ∷ ws) (suc k) zero fs i = i
emptied chunk z (w ∷ ws) (suc k) (suc j) fs i = emptied chunk z ws k j fs i

pub empty_here : (chunk : ChunkOf) (z : Sizes) (ws : Waits) (k : ℕ) (fs : List Frame) → AreStacked chunk z (waiting (with_waiting ws k []) k) fs
empty_here chunk z [] k fs = tt
empty_here chunk z (w ∷ ws) zero fs = tt
empty_here chunk z (w ∷ ws) (suc k) fs = empty_here chunk z ws k fs

pub settled_empty : {chunk : ChunkOf} {z : Sizes} {frames : ℕ → List Frame} {s : Store} {ws : Waits} → (k : ℕ) → IsSettled chunk z s ws frames
    → IsSettled chunk z s (with_waiting ws k []) frames
settled_empty {chunk} {z} {frames} {s} {ws} k i = record {
  store = i.store;
  environments = i.environments;
  enough = let e = i.enough in omega (arith, length-set ws k []);
  each = each_set (Each (IsWait z.functions)) ws k [] i.each tt;
  stacked = λ j. emptied chunk z ws k j (frames j) (i.stacked j);
  dead = λ j e d. emptied chunk z ws k j [] (i.dead j e d);
}
