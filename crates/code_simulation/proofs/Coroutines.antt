-- A coroutine is closed. So all that is done with coroutines goes along, in the setting that says what waits in those that do not run.
use Rattle.std.proofs.Common.{Bool, true, false, ◌≡◌, ◌≢◌, ℕ, ◌<◌, List, [], ◌∷◌, length, Option, Some, None, refl, sym, ap, ◌∙◌, subst, arith, ⊎_elim}
use Rattle.std.specs.Prelude.{slice_get, slice_set, if◌then◌else◌}
use Rattle.std.proofs.lemmas.Bool.{cases_eq}
use Rattle.std.proofs.lemmas.List.{length-set}
use Rattle.value_model.specs.declared.builtin.Builtin.TheVariants.{CoroutineClose}
use Rattle.value_model.specs.declared.event.Reply.{Reply}
use Rattle.value_model.specs.declared.kind.CoStatus.{CoStatus}
use Rattle.value_model.specs.declared.kind.CoStatus.TheVariants.{Running, Suspended, Normal, Dead}
use Rattle.value_model.specs.Values.{Value, Boolean, Native, Thread}
use Rattle.value_model.specs.Errors.{CloseRunning}
use Rattle.value_model.specs.Store.{Store, CoroutineOf, here, place_of_running}
use Rattle.value_model.specs.CoroutineRows.{coroutine_of, with_coroutine, dead}
use Rattle.value_model.specs.Waits.{Wait, Waits, waiting, with_waiting, Caller, ByScript, ByLibrary, Called, Gives, Calls, Waited}
use Rattle.value_model.specs.Library.{lib, go_on}
use Rattle.value_model.specs.Waiting.{wait}
use Rattle.value_model.specs.Waiting as decision
use Rattle.source_meaning.specs.States as source
use Rattle.source_meaning.specs.Calls as source_calls
use Rattle.machine_meaning.specs.States as machine
use Rattle.machine_meaning.specs.Calls as machine_calls
use Rattle.code_simulation.specs.Relation.{Dyn, store_s, Setting, Base, Desc, Ok}
use Rattle.code_simulation.proofs.Along.{Stands, Invokes, CallsGo}
use Rattle.code_simulation.proofs.Library.{library_keeps, continue_keeps}
use Rattle.code_simulation.proofs.World.{keeps_all, ok_later}
use Rattle.code_simulation.proofs.Waiting.{stands_later}
use Rattle.code_simulation.proofs.Deciding.{decides, base_decides, Later, Follows, AlikeOutside, decided_same, asked_alike}
use Rattle.code_simulation.proofs.Outside.{HandsGo, RaisesGo, Coroutines, ok_kept}
use Rattle.code_simulation.proofs.Promises.{coroutine_at, Chain, Promise, at_bottom, Waiter, OtherCoroutines, waiter_keep, setting}
use Rattle.code_simulation.proofs.Chains.{of_is, with_is, with_running, unwritten, dead_written, apart_by, chain_set}
use Rattle.code_simulation.proofs.Switching.{put_here_s, put_there_s, put_here_m, put_there_m, hands_end, waiter_as}
use Rattle.code_simulation.proofs.Closing.{emptied_here, emptied_other, fair_of, faults, resumes, wraps, yields, ends, dies}

-- ---- a coroutine that was closed has no functions any longer

abbrev emptied : Bool → ℕ → Dyn → Dyn
emptied true i d = record {
  tag = d.tag;
  script = record d.script { elsewhere = source_calls.put d.script.elsewhere i [] };
  code = record d.code { elsewhere = machine_calls.put d.code.elsewhere i [] };
}
emptied false i d = d

base_emptied : {p : Setting} {d : Dyn} → (b : Bool) (i : ℕ) → Base p d → Base p (emptied b i d)
base_emptied true i o = record {
  store = o.store;
  waits = o.waits;
  replies = o.replies;
  safe = o.safe;
  cells = o.cells;
  taken = o.taken;
  once = o.once;
  made = o.made;
  alike = o.alike;
}
base_emptied false i o = o

here_emptied : (b : Bool) (i : ℕ) (d : Dyn) → here (store_s (emptied b i d)) ≡ here (store_s d)
here_emptied true i d = refl
here_emptied false i d = refl

dead_same : (c : CoStatus) → machine_calls.is_dead c ≡ source_calls.is_dead c
dead_same Running = refl
dead_same Suspended = refl
dead_same Normal = refl
dead_same Dead = refl

emptied_s : (by : Caller) (i : ℕ) (vs : List Value) (a : Waited) (fs : List source.Activation) (d : Dyn) (b : Bool)
    → source_calls.is_dead (coroutine_of a.store i).status ≡ b
    → source_calls.decided a fs (source_calls.without_closed (Called by (Native CoroutineClose) (Thread i ∷ vs)) a.store d.script)
    ≡ source_calls.decided a fs (emptied b i d).script
emptied_s by i vs a fs d true e =
    ap (λ x. source_calls.decided a fs (if x then (emptied true i d).script else d.script)) e
emptied_s by i vs a fs d false e =
    ap (λ x. source_calls.decided a fs (if x then (emptied true i d).script else d.script)) e

module _ (p : Setting) where
  emptied_m : (by : Caller) (i : ℕ) (vs : List Value) (a : Waited) (ms : List machine.Frame) (d : Dyn) (b : Bool)
      → machine_calls.is_dead (coroutine_of a.store i).status ≡ b
      → machine_calls.decided p.chunk a ms (machine_calls.without_closed (Called by (Native CoroutineClose) (Thread i ∷ vs)) a.store d.code)
      ≡ machine_calls.decided p.chunk a ms (emptied b i d).code
  emptied_m by i vs a ms d true e =
      ap (λ x. machine_calls.decided p.chunk a ms (if x then (emptied true i d).code else d.code)) e
  emptied_m by i vs a ms d false e =
      ap (λ x. machine_calls.decided p.chunk a ms (if x then (emptied true i d).code else d.code)) e

  -- both ask, and what is decided is this
  asks_close : (by : Caller) (i : ℕ) (vs : List Value) (a : Waited) (b : Bool) (co left : ℕ) (fs : List source.Activation) (ms : List machine.Frame)
      (d : Dyn) → wait d.script.waits (store_s d) (Called by (Native CoroutineClose) (Thread i ∷ vs)) (slice_get d.script.replies 0) ≡ a
      → source_calls.is_dead (coroutine_of a.store i).status ≡ b → here (store_s d) ≡ co → here a.store ≡ co → Base p d
      → Later a.charged left (λ l. Follows p l a.answer fs ms (decides (emptied b i d) a))
      → AlikeOutside p left (Invokes by (Native CoroutineClose) (Thread i ∷ vs)) fs ms d
  asks_close by i vs a b co left fs ms d is closed from next base go =
      let c = Called by (Native CoroutineClose) (Thread i ∷ vs) in
      decided_same p a co left fs ms (emptied b i d) (here_emptied b i d ∙ from) next (base_emptied b i base) go _ _
      (ap (λ x. source_calls.decided x fs (source_calls.without_closed c x.store d.script)) is ∙ emptied_s by i vs a fs d b closed)
      (ap (λ x. machine_calls.decided p.chunk x ms (machine_calls.without_closed c x.store d.code)) (asked_alike p c d base ∙ is)
      ∙ emptied_m by i vs a ms d b (dead_same (coroutine_of a.store i).status ∙ closed))

-- ---- what is decided

close_is : (i : ℕ) (vs : List Value) (reply : Option Reply) (ws : Waits) (s : Store)
    → wait ws s (Called ByScript (Native CoroutineClose) (Thread i ∷ vs)) reply ≡ decision.close_by (coroutine_of s i).status i ws s
unfolding wait lib
close_is i vs reply ws s = refl

call_is : (i : ℕ) (vs : List Value) (reply : Option Reply) (ws : Waits) (s : Store)
    → wait ws s (Called ByLibrary (Native CoroutineClose) (Thread i ∷ vs)) reply
    ≡ decision.charged (Calls ByScript (Native CoroutineClose) (Thread i ∷ vs)) ws s
unfolding wait
call_is i vs reply ws s = refl

-- one is dead now, and nothing waits in it
abbrev ended : ℕ → Dyn → Waited
ended i d = decision.now (Gives (Boolean true ∷ [])) (with_waiting d.script.waits i []) (with_coroutine (store_s d) i dead)

-- one has died of an error, which is given
abbrev told : Value → Dyn → Waited
told v d = decision.now (Gives (Boolean false ∷ v ∷ [])) d.script.waits (store_s d)

-- a library function calls what closes one
abbrev called : ℕ → List Value → Dyn → Waited
called i vs d = decision.charged (Calls ByScript (Native CoroutineClose) (Thread i ∷ vs)) d.script.waits (store_s d)

is_ended : (s : Store) (i : ℕ) → source_calls.is_dead (coroutine_of (with_coroutine s i dead) i).status ≡ true
is_ended s i =
    ap (λ (c : CoroutineOf). source_calls.is_dead c.status)
    (of_is (with_coroutine s i dead) i ∙ ap (λ cs. coroutine_at cs i) (with_is s i dead) ∙ dead_written s.coroutines i)

-- ---- the other coroutines

-- a dead one has no functions
others_emptied : {R : Promise} {line : List ℕ} {co : ℕ} {d : Dyn} → (i : ℕ) → (coroutine_at (store_s d).coroutines i).status ≡ Dead
    → OtherCoroutines R line co d → OtherCoroutines R line co (emptied true i d)
others_emptied {R} {line} {co} {d} i e c =
    record { enough = c.enough; chain = c.chain; alive = c.alive; waiters = waiters; empty = c.empty }
  where
    waiters : (j : ℕ) → j ≢ co → Waiter R j (emptied true i d)
    waiters j ne =
        ⊎_elim
        (λ same. waiter_as {R = R} {j = j} (emptied true i d) tt
        (c.empty j ne (ap (λ k. (coroutine_at (store_s d).coroutines k).status) same ∙ e))
        (ap (source_calls.put d.script.elsewhere i []) same ∙ put_here_s d.script.elsewhere i [])
        (ap (machine_calls.put d.code.elsewhere i []) same ∙ put_here_m d.code.elsewhere i []) at_bottom)
        (λ apart. waiter_keep {co = co} {depth = 0} {d = d} {d' = emptied true i d} ne keeps_all refl
        (put_there_s d.script.elsewhere i [] j apart) (put_there_m d.code.elsewhere i [] j apart) (c.waiters j ne))
        (cases_eq j i)

-- one that does not run, and has resumed none that does, is closed
others_ended : {R : Promise} {line : List ℕ} {co : ℕ} {d : Dyn} → (i : ℕ) → i ≢ co → (coroutine_at (store_s d).coroutines i).status ≢ Running
    → (coroutine_at (store_s d).coroutines i).status ≢ Normal → OtherCoroutines R line co d
    → OtherCoroutines R line co (decides (emptied true i d) (ended i d))
others_ended {R} {line} {co} {d} i other not_running not_normal c = record {
  enough =
      let e = ap length (with_is (store_s d) i dead) in
      omega (arith, e, length-set (store_s d).coroutines i dead, length-set d.script.waits i [], c.enough);
  chain =
      subst (λ cs. Chain cs Running (with_coroutine (store_s d) i dead).running line) (sym (with_is (store_s d) i dead))
      (subst (λ r. Chain (slice_set (store_s d).coroutines i dead) Running r line) (sym (with_running (store_s d) i dead))
      (chain_set (store_s d).coroutines line Running (store_s d).running i dead
      (apart_by (store_s d).coroutines line Running (store_s d).running i not_running not_normal c.chain) c.chain));
  alive = λ e. c.alive (status_before co (λ r. other (sym r)) e);
  waiters = waiters;
  empty = λ j ne e.
      ⊎_elim
      (λ same. ap (waiting (with_waiting d.script.waits i [])) same ∙ emptied_here d.script.waits i)
      (λ apart. emptied_other d.script.waits i j apart ∙ c.empty j ne (status_before j apart e))
      (cases_eq j i);
}
  where
    status_before : (j : ℕ) → j ≢ i → (coroutine_at (with_coroutine (store_s d) i dead).coroutines j).status ≡ Dead
        → (coroutine_at (store_s d).coroutines j).status ≡ Dead
    status_before j apart e =
        ap (λ (c : CoroutineOf). c.status) (sym (unwritten (store_s d).coroutines i j dead apart))
        ∙ ap (λ cs. (coroutine_at cs j).status) (sym (with_is (store_s d) i dead)) ∙ e

    waiters : (j : ℕ) → j ≢ co → Waiter R j (decides (emptied true i d) (ended i d))
    waiters j ne =
        ⊎_elim
        (λ same. waiter_as {R = R} {j = j} (decides (emptied true i d) (ended i d)) tt
        (ap (waiting (with_waiting d.script.waits i [])) same ∙ emptied_here d.script.waits i)
        (ap (source_calls.put d.script.elsewhere i []) same ∙ put_here_s d.script.elsewhere i [])
        (ap (machine_calls.put d.code.elsewhere i []) same ∙ put_here_m d.code.elsewhere i []) at_bottom)
        (λ apart. waiter_keep {co = co} {depth = 0} {d = d} {d' = decides (emptied true i d) (ended i d)} ne keeps_all
        (emptied_other d.script.waits i j apart) (put_there_s d.script.elsewhere i [] j apart) (put_there_m d.code.elsewhere i [] j apart)
        (c.waiters j ne))
        (cases_eq j i)

-- where the one that runs has another status, it is the main function's own run
main_if : (cs : List CoroutineOf) (line : List ℕ) (o : Option ℕ) → Chain cs Running o line → (coroutine_at cs (place_of_running o)).status ≢ Running
    → o ≡ None
main_if cs line None c ne = refl
main_if cs [] (Some k) c ne = absurd c
main_if cs (j ∷ js) (Some k) c ne = absurd (ne c.2)

suspended_running : Suspended ≡ Running → ⊥
suspended_running e = cc

suspended_normal : Suspended ≡ Normal → ⊥
suspended_normal e = cc

dead_running : Dead ≡ Running → ⊥
dead_running e = cc

dead_normal : Dead ≡ Normal → ⊥
dead_normal e = cc

module _ (q : Setting) (most deep : ℕ) where
  ok_emptied : {turns co : ℕ} {ws : List Wait} {ds : List Desc} {d : Dyn} → (i : ℕ) → (coroutine_at (store_s d).coroutines i).status ≡ Dead
      → Ok (setting q most deep) turns co ws ds d → Ok (setting q most deep) turns co ws ds (emptied true i d)
  ok_emptied i e o = record {
    base = base_emptied true i o.base;
    running = o.running;
    room = o.room;
    waits = o.waits;
    rest = o.rest;
    others = (o.others.0, o.others.1, (o.others.2.0, o.others.2.1, others_emptied i e o.others.2.2));
  }

  ok_ended : {turns co : ℕ} {ws : List Wait} {ds : List Desc} {d : Dyn} → (i : ℕ) → i ≢ co → (coroutine_at (store_s d).coroutines i).status ≢ Running
      → (coroutine_at (store_s d).coroutines i).status ≢ Normal → Ok (setting q most deep) turns co ws ds d
      → Ok (setting q most deep) turns co ws ds (decides (emptied true i d) (ended i d))
  ok_ended {co = co} {d = d} i other not_running not_normal o = record {
    base = base_decides (ended i d) (base_emptied true i o.base);
    running = ap place_of_running (with_running (store_s d) i dead) ∙ o.running;
    room = omega (arith, o.room, length-set d.script.waits i []);
    waits = emptied_other d.script.waits i co (λ r. other (sym r)) ∙ o.waits;
    rest = o.rest;
    others = (o.others.0, o.others.1, (o.others.2.0, o.others.2.1, others_ended i other not_running not_normal o.others.2.2));
  }

-- ---- closing

module _ (q : Setting) (n deep : ℕ) (fewer_calls : (i : ℕ) → i < n → CallsGo (setting q n deep) i)
    (shorter : (k : ℕ) → k < deep → CallsGo (setting q n k) n) where
  module _ (i : ℕ) (vs : List Value) (ws : List Wait) (co : ℕ) (fs : List source.Activation) (ms : List machine.Frame) (ds : List Desc) (d : Dyn)
      (o : Ok (setting q n deep) n co ws ds d) (stands : Stands (setting q n deep) n co ws fs ms ds) where
    abbrev Closes : Type 0
    Closes = AlikeOutside (setting q n deep) n (Invokes ByScript (Native CoroutineClose) (Thread i ∷ vs)) fs ms d

    is_close : (c : CoStatus) → (coroutine_of (store_s d) i).status ≡ c
        → wait d.script.waits (store_s d) (Called ByScript (Native CoroutineClose) (Thread i ∷ vs)) (slice_get d.script.replies 0)
        ≡ decision.close_by c i d.script.waits (store_s d)
    is_close c e =
        close_is i vs (slice_get d.script.replies 0) d.script.waits (store_s d)
        ∙ ap (λ c. decision.close_by c i d.script.waits (store_s d)) e

    -- one that runs, or has resumed another, is not closed
    refuses : (c : CoStatus) → decision.close_by c i d.script.waits (store_s d) ≡ decision.fails CloseRunning d.script.waits (store_s d)
        → source_calls.is_dead c ≡ false → (coroutine_of (store_s d) i).status ≡ c → RaisesGo (setting q n deep) n ws → Closes
    refuses c row alive e raises =
        let a = decision.fails CloseRunning d.script.waits (store_s d) in
        asks_close (setting q n deep) ByScript i vs a false co n fs ms d (is_close c e ∙ row) (ap source_calls.is_dead e ∙ alive) o.running o.running
        o.base (faults q n deep fewer_calls shorter raises CloseRunning co fs ms ds (decides d a) (ok_kept a refl refl refl o) stands)

    -- one that has died of an error says so
    died : (c : CoStatus) (b : Bool) (v : Value) → decision.close_by c i d.script.waits (store_s d)
        ≡ told v d → source_calls.is_dead c ≡ b
        → (coroutine_of (store_s d) i).status ≡ c → HandsGo (setting q n deep) n ws → Closes
    died c b v row is e hands =
        asks_close (setting q n deep) ByScript i vs (told v d) b co n fs ms d (is_close c e ∙ row) (ap source_calls.is_dead e ∙ is) o.running o.running
        o.base (gives b (ap source_calls.is_dead e ∙ is))
      where
        gives : (b : Bool) → source_calls.is_dead (coroutine_of (store_s d) i).status ≡ b
            → Follows (setting q n deep) n (Gives (Boolean false ∷ v ∷ [])) fs ms (decides (emptied b i d) (told v d))
        gives false e = hands (Boolean false ∷ v ∷ []) co fs ms ds (decides d (told v d)) (ok_kept (told v d) refl refl refl o) stands
        gives true e =
            hands (Boolean false ∷ v ∷ []) co fs ms ds (decides (emptied true i d) (told v d))
            (ok_kept {d = emptied true i d} (told v d) refl refl refl (ok_emptied q n deep i (is_dead_by _ refl e) o)) stands
          where
            is_dead_by : (c : CoStatus) → (coroutine_of (store_s d) i).status ≡ c → source_calls.is_dead (coroutine_of (store_s d) i).status ≡ true
                → (coroutine_at (store_s d).coroutines i).status ≡ Dead
            is_dead_by Dead e x = ap (λ (c : CoroutineOf). c.status) (sym (of_is (store_s d) i)) ∙ e
            is_dead_by Running e x = absurd (false_true (sym (ap source_calls.is_dead e) ∙ x))
              where
                false_true : false ≡ true → ⊥
                false_true e = cc
            is_dead_by Suspended e x = absurd (false_true (sym (ap source_calls.is_dead e) ∙ x))
              where
                false_true : false ≡ true → ⊥
                false_true e = cc
            is_dead_by Normal e x = absurd (false_true (sym (ap source_calls.is_dead e) ∙ x))
              where
                false_true : false ≡ true → ⊥
                false_true e = cc

    -- another one is dead from now on. Where it is the main function's own run, that ends
    dies_now : (c : CoStatus) → decision.close_by c i d.script.waits (store_s d) ≡ ended i d → (c ≡ Running → ⊥) → (c ≡ Normal → ⊥)
        → (coroutine_of (store_s d) i).status ≡ c → HandsGo (setting q n deep) n ws → Closes
    dies_now c row not_running not_normal e hands =
        asks_close (setting q n deep) ByScript i vs (ended i d) true co n fs ms d (is_close c e ∙ row) (is_ended (store_s d) i) o.running
        (ap place_of_running (with_running (store_s d) i dead) ∙ o.running) o.base (⊎_elim itself another (cases_eq i co))
      where
        is : (coroutine_at (store_s d).coroutines i).status ≡ c
        is = ap (λ (c : CoroutineOf). c.status) (sym (of_is (store_s d) i)) ∙ e

        another : i ≢ co → Follows (setting q n deep) n (Gives (Boolean true ∷ [])) fs ms (decides (emptied true i d) (ended i d))
        another other =
            hands (Boolean true ∷ []) co fs ms ds (decides (emptied true i d) (ended i d))
            (ok_ended q n deep i other (λ r. not_running (sym is ∙ r)) (λ r. not_normal (sym is ∙ r)) o) stands

        itself : i ≡ co → Follows (setting q n deep) n (Gives (Boolean true ∷ [])) fs ms (decides (emptied true i d) (ended i d))
        itself same =
            let none = main_if (store_s d).coroutines o.others.2.0 (store_s d).running o.others.2.2.chain
            (λ r. not_running (sym is ∙ ap (λ k. (coroutine_at (store_s d).coroutines k).status) (same ∙ sym o.running) ∙ r)) in
            let zero_is : 0 ≡ i = sym (ap place_of_running none) ∙ o.running ∙ sym same in
            hands_end (setting q n deep) (Boolean true ∷ []) n fs ms (decides (emptied true i d) (ended i d))
            (base_decides (ended i d) (base_emptied true i o.base)) (with_running (store_s d) i dead ∙ none)
            (ap (waiting (with_waiting d.script.waits i [])) zero_is ∙ emptied_here d.script.waits i)

    -- by its status, and by what it died of
    closes_by : (c : CoStatus) (failure : Option Value) → (coroutine_of (store_s d) i).status ≡ c → (coroutine_of (store_s d) i).failure ≡ failure
        → HandsGo (setting q n deep) n ws → RaisesGo (setting q n deep) n ws → Closes
    closes_by Running f e x hands raises = refuses Running refl refl e raises
    closes_by Normal f e x hands raises = refuses Normal refl refl e raises
    closes_by Suspended (Some v) e x hands raises =
        died Suspended false v (ap (λ f. decision.close_dead f i d.script.waits (store_s d)) x) refl e hands
    closes_by Suspended None e x hands raises =
        dies_now Suspended (ap (λ f. decision.close_dead f i d.script.waits (store_s d)) x) suspended_running suspended_normal e hands
    closes_by Dead (Some v) e x hands raises =
        died Dead true v (ap (λ f. decision.close_dead f i d.script.waits (store_s d)) x) refl e hands
    closes_by Dead None e x hands raises =
        dies_now Dead (ap (λ f. decision.close_dead f i d.script.waits (store_s d)) x) dead_running dead_normal e hands

    -- a library function that closes one charges a turn, and then does
    calls_by : (c : CoStatus) → (coroutine_of (store_s d) i).status ≡ c
        → AlikeOutside (setting q n deep) n (Invokes ByLibrary (Native CoroutineClose) (Thread i ∷ vs)) fs ms d
    calls_by c e = by c e
      where
        go : (b : Bool) → source_calls.is_dead (coroutine_of (store_s d) i).status ≡ b
            → Ok (setting q n deep) n co ws ds (decides (emptied b i d) (called i vs d))
            → AlikeOutside (setting q n deep) n (Invokes ByLibrary (Native CoroutineClose) (Thread i ∷ vs)) fs ms d
        go b is ok =
            asks_close (setting q n deep) ByLibrary i vs (called i vs d) b co n fs ms d
            (call_is i vs (slice_get d.script.replies 0) d.script.waits (store_s d)) is o.running o.running o.base
            (λ l f. fewer_calls l (omega (arith, f)) (Invokes ByScript (Native CoroutineClose) (Thread i ∷ vs)) co ws fs ms ds
            (decides (emptied b i d) (called i vs d)) (ok_later (setting q n deep) l n co ws ds (decides (emptied b i d) (called i vs d)) (omega (arith, f)) ok)
            (stands_later l (omega (arith, f)) stands))

        by : (c : CoStatus) → (coroutine_of (store_s d) i).status ≡ c
            → AlikeOutside (setting q n deep) n (Invokes ByLibrary (Native CoroutineClose) (Thread i ∷ vs)) fs ms d
        by Running e = go false (ap source_calls.is_dead e) (ok_kept (called i vs d) refl refl refl o)
        by Suspended e = go false (ap source_calls.is_dead e) (ok_kept (called i vs d) refl refl refl o)
        by Normal e = go false (ap source_calls.is_dead e) (ok_kept (called i vs d) refl refl refl o)
        by Dead e =
            go true (ap source_calls.is_dead e)
            (ok_kept {d = emptied true i d} (called i vs d) refl refl refl
            (ok_emptied q n deep i (ap (λ (c : CoroutineOf). c.status) (sym (of_is (store_s d) i)) ∙ e) o))

  -- Whatever is done with coroutines goes along, where all does with fewer turns left, and with as many where fewer have resumed each other
  pub coroutines : Coroutines (setting q n deep) n
  coroutines = record {
    closes = λ i vs ws hands raises co fs ms ds d o stands.
        closes_by i vs ws co fs ms ds d o stands (coroutine_of (store_s d) i).status (coroutine_of (store_s d) i).failure refl refl hands raises;
    calls_close = λ i vs ws co fs ms ds d o stands. calls_by i vs ws co fs ms ds d o stands (coroutine_of (store_s d) i).status refl;
    wraps = wraps q n deep fewer_calls shorter;
    resumes = resumes q n deep fewer_calls shorter;
    yields = yields q n deep fewer_calls shorter;
    ends = λ i vs co fs ms ds d running o stands. ends q n deep fewer_calls shorter i co fs ms ds d running o stands vs;
    dies = λ i v co fs ms ds d running o stands. dies q n deep fewer_calls shorter i co fs ms ds d running o stands v;
    library = λ b args no_close co ws ds d o. fair_of q n deep (lib b args (store_s d)) (library_keeps (store_s d) b args no_close) o;
    continues = λ c v co ws ds d o. fair_of q n deep (go_on c v (store_s d)) (continue_keeps (store_s d) c v) o;
  }
