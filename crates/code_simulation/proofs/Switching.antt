-- Another coroutine runs behind a decision: both states, and how its functions go on where those of the one that ran wait.
use Rattle.std.proofs.Common.{false, ◌≡◌, ◌≢◌, ℕ, ◌<◌, ◌≤◌, List, [], length, None, refl, sym, ap, ◌∙◌, subst, cond, ⊎_elim}
use Rattle.std.specs.Prelude.{nat_eq, slice_get}
use Rattle.std.proofs.lemmas.Bool.{eq-eqb, ne_eqb, cases_eq}
use Rattle.value_model.specs.declared.kind.CoStatus.TheVariants.{Running, Dead}
use Rattle.value_model.specs.Values.{Value}
use Rattle.value_model.specs.Store.{here, place_of_running}
use Rattle.value_model.specs.Waits.{Wait, Waited, waiting, innermost, first_of, Given, Passed, Finishes, Dies}
use Rattle.value_model.specs.Waiting as decision
use Rattle.source_meaning.specs.States as source
use Rattle.source_meaning.specs.Calls as source_calls
use Rattle.source_meaning.specs.Steps as source_steps
use Rattle.machine_meaning.specs.States as machine
use Rattle.machine_meaning.specs.Calls as machine_calls
use Rattle.machine_meaning.specs.Steps as machine_steps
use Rattle.code_simulation.specs.Relation.{Dyn, store_s, store_m, Setting, Base, Desc, AllRest}
use Rattle.code_simulation.proofs.Along.{Alike, Hands, Raises}
use Rattle.code_simulation.proofs.World.{keeps_all}
use Rattle.code_simulation.proofs.Deciding.{decides, base_decides, Later, Follows, AlikeOutside, follows_same, decided_same, asked_alike}
use Rattle.code_simulation.proofs.Outside.{given_is, passed_is}
use Rattle.code_simulation.proofs.Promises.{coroutine_at, Chain, Promise, Stood, Waiter, OtherCoroutines, Depth, waiter_keep, waiter_map, Before, Placed, promised, promise_later}

-- ---- both states

abbrev pub switches : Dyn → Waited → (from next : ℕ) → List source.Activation → List machine.Frame → Dyn
switches d a from next fs ms = record {
  tag = d.tag;
  script = record (source_calls.world_after a d.script) { elsewhere = source_calls.put (source_calls.put d.script.elsewhere from fs) next [] };
  code = record (machine_calls.world_after a d.code) { elsewhere = machine_calls.put (machine_calls.put d.code.elsewhere from ms) next [] };
}

pub base_switches : {p : Setting} {d : Dyn} → (a : Waited) (from next : ℕ) (fs : List source.Activation) (ms : List machine.Frame) → Base p d
    → Base p (switches d a from next fs ms)
base_switches a from next fs ms base =
    let b = base_decides a base in
    record {
      store = b.store;
      waits = b.waits;
      replies = b.replies;
      safe = b.safe;
      cells = b.cells;
      taken = b.taken;
      once = b.once;
      made = b.made;
      alike = b.alike;
    }

pub put_here_s : (m : ℕ → List source.Activation) (i : ℕ) (fs : List source.Activation) → source_calls.put m i fs i ≡ fs
put_here_s m i fs = ap (λ b. cond b fs (m i)) (eq-eqb i i refl)

pub put_there_s : (m : ℕ → List source.Activation) (i : ℕ) (fs : List source.Activation) (j : ℕ) → j ≢ i → source_calls.put m i fs j ≡ m j
put_there_s m i fs j ne = ap (λ b. cond b fs (m j)) (ne_eqb j i ne)

pub put_here_m : (m : ℕ → List machine.Frame) (i : ℕ) (fs : List machine.Frame) → machine_calls.put m i fs i ≡ fs
put_here_m m i fs = ap (λ b. cond b fs (m i)) (eq-eqb i i refl)

pub put_there_m : (m : ℕ → List machine.Frame) (i : ℕ) (fs : List machine.Frame) (j : ℕ) → j ≢ i → machine_calls.put m i fs j ≡ m j
put_there_m m i fs j ne = ap (λ b. cond b fs (m j)) (ne_eqb j i ne)

-- both decide that another coroutine runs
switched_s : (a : Waited) (fs : List source.Activation) (w : source.World) (from next : ℕ) → here w.objects.store ≡ from → here a.store ≡ next → from ≢ next
    → source_calls.decided a fs w ≡ source_calls.follows a.answer (source_calls.to a.charged a.event)
    (source_calls.switched false from next fs (source_calls.world_after a w)).0 (source_calls.switched false from next fs (source_calls.world_after a w)).1
switched_s a fs w from next e1 e2 ne =
    ap (λ x. source_calls.follows a.answer (source_calls.to a.charged a.event)
    (source_calls.switched (nat_eq x (here a.store)) x (here a.store) fs (source_calls.world_after a w)).0
    (source_calls.switched (nat_eq x (here a.store)) x (here a.store) fs (source_calls.world_after a w)).1) e1
    ∙ ap (λ y. source_calls.follows a.answer (source_calls.to a.charged a.event)
    (source_calls.switched (nat_eq from y) from y fs (source_calls.world_after a w)).0
    (source_calls.switched (nat_eq from y) from y fs (source_calls.world_after a w)).1) e2
    ∙ ap (λ b. source_calls.follows a.answer (source_calls.to a.charged a.event)
    (source_calls.switched b from next fs (source_calls.world_after a w)).0
    (source_calls.switched b from next fs (source_calls.world_after a w)).1) (ne_eqb from next ne)

module _ (p : Setting) where
  switched_m : (a : Waited) (ms : List machine.Frame) (w : machine.World) (from next : ℕ) → here w.objects.store ≡ from → here a.store ≡ next → from ≢ next
      → machine_calls.decided p.chunk a ms w ≡ machine_calls.follows p.chunk a.answer (machine_calls.to a.charged a.event)
      (machine_calls.switched false from next ms (machine_calls.world_after a w)).0
      (machine_calls.switched false from next ms (machine_calls.world_after a w)).1
  switched_m a ms w from next e1 e2 ne =
      ap (λ x. machine_calls.follows p.chunk a.answer (machine_calls.to a.charged a.event)
      (machine_calls.switched (nat_eq x (here a.store)) x (here a.store) ms (machine_calls.world_after a w)).0
      (machine_calls.switched (nat_eq x (here a.store)) x (here a.store) ms (machine_calls.world_after a w)).1) e1
      ∙ ap (λ y. machine_calls.follows p.chunk a.answer (machine_calls.to a.charged a.event)
      (machine_calls.switched (nat_eq from y) from y ms (machine_calls.world_after a w)).0
      (machine_calls.switched (nat_eq from y) from y ms (machine_calls.world_after a w)).1) e2
      ∙ ap (λ b. machine_calls.follows p.chunk a.answer (machine_calls.to a.charged a.event)
      (machine_calls.switched b from next ms (machine_calls.world_after a w)).0
      (machine_calls.switched b from next ms (machine_calls.world_after a w)).1) (ne_eqb from next ne)

  -- what was decided leads on alike there
  pub switched_same : (a : Waited) (co next left : ℕ) (fs : List source.Activation) (ms : List machine.Frame) (d : Dyn) → here (store_s d) ≡ co
      → here a.store ≡ next → co ≢ next → Base p d
      → Later a.charged left (λ l. Follows p l a.answer (d.script.elsewhere next) (d.code.elsewhere next) (switches d a co next fs ms))
      → (s : source.State) (m : machine.State)
      → source_steps.step p.texts s ≡ source_calls.decided a fs d.script → machine_steps.step p.chunk m ≡ machine_calls.decided p.chunk a ms d.code
      → Alike p left s m
  switched_same a co next left fs ms d from to ne base go s m e f =
      follows_same p a.answer a.charged a.event left (d.script.elsewhere next) (d.code.elsewhere next) (switches d a co next fs ms)
      (base_switches a co next fs ms base) go s m
      (e ∙ switched_s a fs d.script co next from to ne)
      (f ∙ switched_m a ms d.code co next (ap here (sym base.store) ∙ from) to ne)

  -- ---- where nothing waits in the main function's own run, it ends

  none_s : (d : Dyn) → (store_s d).running ≡ None → waiting d.script.waits 0 ≡ [] → innermost d.script.waits (store_s d) ≡ None
  none_s d running waits = ap (λ o. first_of (waiting d.script.waits (place_of_running o))) running ∙ ap first_of waits

  none_m : (d : Dyn) → Base p d → (store_s d).running ≡ None → waiting d.script.waits 0 ≡ [] → innermost d.code.waits (store_m d) ≡ None
  none_m d base running waits =
      ap (λ v. innermost v (store_m d)) (sym base.waits) ∙ ap (λ s. innermost d.script.waits s) (sym base.store) ∙ none_s d running waits

  pub hands_end : (vs : List Value) (left : ℕ) (fs : List source.Activation) (ms : List machine.Frame) (d : Dyn) → Base p d
      → (store_s d).running ≡ None → waiting d.script.waits 0 ≡ [] → AlikeOutside p left (Hands vs) fs ms d
  hands_end vs left fs ms d base running waits =
      let reply = slice_get d.script.replies 0 in
      let is = given_is vs reply d.script.waits (store_s d)
      ∙ ap (λ o. decision.given (waiting d.script.waits (place_of_running o)) vs d.script.waits (store_s d)) running
      ∙ ap (λ x. decision.given x vs d.script.waits (store_s d)) waits
      ∙ ap (λ r. decision.finish r vs d.script.waits (store_s d)) running in
      let from : here (store_s d) ≡ 0 = ap place_of_running running in
      decided_same p (decision.now (Finishes vs) d.script.waits (store_s d)) 0 left fs ms d from from base tt _ _
      (ap (λ x. source_calls.hand (source_calls.is_function x) vs fs d.script) (none_s d running waits)
      ∙ ap (λ b. source_calls.decided b fs d.script) is)
      (ap (λ x. machine_calls.hand p.chunk (machine_calls.is_function x) vs ms d.code) (none_m d base running waits)
      ∙ ap (λ b. machine_calls.decided p.chunk b ms d.code) (asked_alike p (Given vs) d base ∙ is))

  pub raises_end : (v : Value) (left : ℕ) (fs : List source.Activation) (ms : List machine.Frame) (d : Dyn) → Base p d
      → (store_s d).running ≡ None → waiting d.script.waits 0 ≡ [] → AlikeOutside p left (Raises v) fs ms d
  raises_end v left fs ms d base running waits =
      let reply = slice_get d.script.replies 0 in
      let is = passed_is v reply d.script.waits (store_s d)
      ∙ ap (λ o. decision.passed (waiting d.script.waits (place_of_running o)) v d.script.waits (store_s d)) running
      ∙ ap (λ x. decision.passed x v d.script.waits (store_s d)) waits
      ∙ ap (λ r. decision.die r v d.script.waits (store_s d)) running in
      let from : here (store_s d) ≡ 0 = ap place_of_running running in
      decided_same p (decision.now (Dies v) d.script.waits (store_s d)) 0 left fs ms d from from base tt _ _
      (ap (λ x. source_calls.raise (source_calls.is_function x) v fs d.script) (none_s d running waits)
      ∙ ap (λ b. source_calls.decided b fs d.script) is)
      (ap (λ x. machine_calls.raise p.chunk (machine_calls.is_function x) v ms d.code) (none_m d base running waits)
      ∙ ap (λ b. machine_calls.decided p.chunk b ms d.code) (asked_alike p (Passed v) d base ∙ is))

-- ---- the coroutines behind a decision

pub waiter_as : {R : Promise} {j : ℕ} {ws : List Wait} {fs : List source.Activation} {ms : List machine.Frame} {ds : List Desc} → (d : Dyn)
    → AllRest j d.tag ds → waiting d.script.waits j ≡ ws → d.script.elsewhere j ≡ fs → d.code.elsewhere j ≡ ms → Stood R j ws fs ms ds → Waiter R j d
waiter_as {R} {j} {ws} {fs} {ms} {ds} d rest waits script code s = record {
  roots = ds;
  rest = rest;
  stands =
      subst (λ ws. Stood R j ws (d.script.elsewhere j) (d.code.elsewhere j) ds) (sym waits)
      (subst (λ fs. Stood R j ws fs (d.code.elsewhere j) ds) (sym script) (subst (λ ms. Stood R j ws fs ms ds) (sym code) s));
}

-- what a decision does with what waits, and with the coroutines of the store
pub record Changes (d : Dyn) (a : Waited) (co next : ℕ) (ws : List Wait) (line : List ℕ) : Type 0 where
  pub runs : here a.store ≡ next
  pub own : waiting a.waits co ≡ ws
  pub others : (j : ℕ) → j ≢ co → waiting a.waits j ≡ waiting d.script.waits j
  pub room : next < length a.waits
  pub enough : length a.store.coroutines ≤ length a.waits
  pub chain : Chain a.store.coroutines Running a.store.running line
  pub alive : (coroutine_at a.store.coroutines next).status ≢ Dead
  pub empty : (j : ℕ) → j ≢ next → (coroutine_at a.store.coroutines j).status ≡ Dead → waiting a.waits j ≡ []

module _ (q : Setting) (turns depth fewer less : ℕ) (earlier : (i k : ℕ) → Before i k fewer less → Before i k turns depth) where
  -- the one that ran goes on waiting, as it promises
  pub switched_depth : {co next : ℕ} {ws : List Wait} {fs : List source.Activation} {ms : List machine.Frame} {ds : List Desc} {line line' : List ℕ} {d : Dyn}
      → (a : Waited) → next ≢ co → Changes d a co next ws line' → length line' ≡ less → OtherCoroutines (promised q turns depth) line co d
      → AllRest co d.tag ds → Stood (promised q fewer less) co ws fs ms ds → Depth (promised q fewer less) less next (switches d a co next fs ms)
  switched_depth {co} {next} {ws} {fs} {ms} {ds} {line} {line'} {d} a ne c long others rest stands = (
    line',
    long,
    record { enough = c.enough; chain = c.chain; alive = c.alive; waiters = waiters; empty = c.empty },
  )
    where
      waiters : (j : ℕ) → j ≢ next → Waiter (promised q fewer less) j (switches d a co next fs ms)
      waiters j other =
          let puts = source_calls.put d.script.elsewhere co fs in
          let putm = machine_calls.put d.code.elsewhere co ms in
          ⊎_elim
          (λ same. subst (λ j. Waiter (promised q fewer less) j (switches d a co next fs ms)) (sym same)
          (waiter_as (switches d a co next fs ms) rest c.own
          (put_there_s puts next [] co (λ e. ne (sym e)) ∙ put_here_s d.script.elsewhere co fs)
          (put_there_m putm next [] co (λ e. ne (sym e)) ∙ put_here_m d.code.elsewhere co ms) stands))
          (λ apart. waiter_keep {co = co} {depth = 0} {d = d} {d' = switches d a co next fs ms} apart keeps_all (c.others j apart)
          (put_there_s puts next [] j other ∙ put_there_s d.script.elsewhere co fs j apart)
          (put_there_m putm next [] j other ∙ put_there_m d.code.elsewhere co ms j apart)
          (waiter_map (λ ws a fs f ms ds r. promise_later q j ws a fs f ms ds turns depth fewer less earlier r) (others.waiters j apart)))
          (cases_eq j co)

  -- the same coroutine runs on
  pub stayed_depth : {co : ℕ} {ws : List Wait} {line line' : List ℕ} {d : Dyn} → (a : Waited) → Changes d a co co ws line' → length line' ≡ less
      → OtherCoroutines (promised q turns depth) line co d → Depth (promised q fewer less) less co (decides d a)
  stayed_depth {co} {ws} {line} {line'} {d} a c long others = (
    line',
    long,
    record {
      enough = c.enough;
      chain = c.chain;
      alive = c.alive;
      waiters = λ j apart. waiter_keep {co = co} {depth = 0} {d = d} {d' = decides d a} apart keeps_all (c.others j apart) refl refl
          (waiter_map (λ ws a fs f ms ds r. promise_later q j ws a fs f ms ds turns depth fewer less earlier r) (others.waiters j apart));
      empty = c.empty;
    },
  )

  -- the stores fit for the one that runs now
  pub switched_placed : {co next : ℕ} {ws ws' : List Wait} {ds : List Desc} {line' : List ℕ} {d : Dyn} → (a : Waited) (fs : List source.Activation)
      (ms : List machine.Frame) → next ≢ co → Changes d a co next ws' line' → Placed q co ws ds d → (w : Waiter (promised q turns depth) next d)
      → Placed q next (waiting d.script.waits next) w.roots (switches d a co next fs ms)
  switched_placed {co} {next} {d = d} a fs ms ne c o w = record {
    base = base_switches a co next fs ms o.base;
    running = c.runs;
    room = c.room;
    waits = c.others next ne;
    rest = w.rest;
  }

  pub stayed_placed : {co : ℕ} {ws ws' : List Wait} {ds : List Desc} {line' : List ℕ} {d : Dyn} → (a : Waited) → Changes d a co co ws' line'
      → Placed q co ws ds d → Placed q co ws' ds (decides d a)
  stayed_placed a c o = record { base = base_decides a o.base; running = c.runs; room = c.room; waits = c.own; rest = o.rest }
