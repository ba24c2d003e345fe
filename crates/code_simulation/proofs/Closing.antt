-- What calls of `coroutine` decide: a coroutine is resumed, refused, left or closed.
use Rattle.std.proofs.Common.{true, false, ◌≡◌, ◌≢◌, ℕ, zero, suc, ◌<◌, List, [], ◌∷◌, ◌++◌, length, replicate, Option, Some, None, refl, sym, ap, ◌∙◌, subst, arith, length-append}
use Rattle.std.specs.Prelude.{slice_get, ◌-◌}
use Rattle.std.proofs.lemmas.List.{get_or-set_other, length-set}
use Rattle.value_model.specs.declared.kind.CoStatus.{CoStatus}
use Rattle.value_model.specs.declared.kind.CoStatus.TheVariants.{Running, Suspended, Normal, Dead}
use Rattle.value_model.specs.Values.{Value, Nil, Boolean, Text, Wrap}
use Rattle.value_model.specs.Errors.{RunError, DeadCoroutine, NotSuspended, YieldOutside, error_text}
use Rattle.value_model.specs.Store.{Store, CoroutineOf, place_of_running}
use Rattle.value_model.specs.CoroutineRows.{coroutine_of, dead}
use Rattle.value_model.specs.Waits.{Wait, Waits, waiting, with_waiting, Caller, ByScript, ByLibrary, Case, Called, Given, Passed, Gives, Calls, Throws, Fails, Waited, Continue}
use Rattle.value_model.specs.Waits as kept
use Rattle.value_model.specs.Answers.{Resume, Yield, LibAnswer}
use Rattle.value_model.specs.Waiting.{wait, left, for_all, by_library}
use Rattle.value_model.specs.Waiting as decision
use Rattle.source_meaning.specs.States as source
use Rattle.source_meaning.specs.Calls as source_calls
use Rattle.source_meaning.specs.Steps as source_steps
use Rattle.machine_meaning.specs.States as machine
use Rattle.machine_meaning.specs.Calls as machine_calls
use Rattle.machine_meaning.specs.Steps as machine_steps
use Rattle.code_simulation.specs.Relation.{Dyn, store_s, store_m, Setting, Desc, Ok}
use Rattle.code_simulation.proofs.Along.{Alike, Stands, Invokes, Hands, Faults, Raises, CallsGo}
use Rattle.code_simulation.proofs.Library.{Kept, AnswerKeeps}
use Rattle.code_simulation.proofs.World.{keeps_all}
use Rattle.code_simulation.proofs.Moving.{source_goes, target_goes}
use Rattle.code_simulation.proofs.Deciding.{decides, AlikeOutside, decided_same, asked_alike}
use Rattle.code_simulation.proofs.Outside.{OutsideGo, HandsGo, RaisesGo, MoveGoes, Fair, called_is, given_is, passed_is, ok_kept}
use Rattle.code_simulation.proofs.Promises.{coroutine_at, Chain, Promise, OtherCoroutines, waiter_keep, setting}
use Rattle.code_simulation.proofs.Chains.{of_is, chain_more}
use Rattle.code_simulation.proofs.Switching.{hands_end, raises_end}
use Rattle.code_simulation.proofs.Resuming.{resume_goes, leave_goes}

-- ---- nothing waits in a coroutine any longer

pub emptied_here : (ws : Waits) (i : ℕ) → waiting (with_waiting ws i []) i ≡ []
emptied_here [] i = refl
emptied_here (w ∷ ws) zero = refl
emptied_here (w ∷ ws) (suc i) = emptied_here ws i

pub emptied_other : (ws : Waits) (i j : ℕ) → j ≢ i → waiting (with_waiting ws i []) j ≡ waiting ws j
emptied_other ws i j ne = get_or-set_other ws i j [] [] ne

-- more coroutines, in which nothing waits
none_more : (ws : Waits) (k j : ℕ) → waiting (ws ++ replicate k []) j ≡ waiting ws j
none_more [] zero j = refl
none_more [] (suc k) zero = refl
none_more [] (suc k) (suc j) = none_more [] k j
none_more (w ∷ ws) k zero = refl
none_more (w ∷ ws) k (suc j) = none_more ws k j

all_long : (k : ℕ) → length (replicate {A = List Wait} k []) ≡ k
all_long zero = refl
all_long (suc k) = ap (λ n. suc n) (all_long k)

dead_before : (cs more : List CoroutineOf) (j : ℕ) → (coroutine_at (cs ++ more) j).status ≡ Dead → (coroutine_at cs j).status ≡ Dead
dead_before [] more j e = refl
dead_before (c ∷ cs) more zero e = e
dead_before (c ∷ cs) more (suc j) e = dead_before cs more j e

alive_more : (cs more : List CoroutineOf) (j : ℕ) → (coroutine_at cs j).status ≢ Dead → (coroutine_at (cs ++ more) j).status ≢ Dead
alive_more cs more j ne e = ne (dead_before cs more j e)

-- ---- the library

others_kept : {R : Promise} {line : List ℕ} {co : ℕ} {d : Dyn} {t : Store} (vs : List Value) → Kept (store_s d) t → OtherCoroutines R line co d
    → OtherCoroutines R line co (decides d (decision.now (Gives vs) (for_all t d.script.waits) t))
others_kept {line = line} {co = co} {d = d} {t = t} vs k c =
    let s = store_s d in
    let ws = d.script.waits in
    let many = length t.coroutines - length ws in
    record {
      enough = omega (arith, length-append ws (replicate many []), all_long many);
      chain =
          subst (λ cs. Chain cs Running t.running line) (sym k.coroutines)
          (subst (λ r. Chain (s.coroutines ++ k.more) Running r line) (sym k.running)
          (chain_more s.coroutines line Running s.running k.more c.chain));
      alive = subst (λ cs. (coroutine_at cs co).status ≢ Dead) (sym k.coroutines) (alive_more s.coroutines k.more co c.alive);
      waiters = λ j ne. waiter_keep {co = co} {depth = 0} {d = d} {d' = decides d (decision.now (Gives vs) (for_all t ws) t)} ne keeps_all
          (none_more ws many j) refl refl (c.waiters j ne);
      empty = λ j ne e. none_more ws many j
          ∙ c.empty j ne (dead_before s.coroutines k.more j (ap (λ cs. (coroutine_at cs j).status) (sym k.coroutines) ∙ e));
    }

module _ (q : Setting) (n deep : ℕ) where
  pub fair_of : {turns co : ℕ} {ws : List Wait} {ds : List Desc} {d : Dyn} (x : LibAnswer) → AnswerKeeps (store_s d) x
      → Ok (setting q n deep) turns co ws ds d → Fair (setting q n deep) turns co x d
  fair_of {d = d} x keeps o = record {
    answers = λ vs t e.
        let k : Kept (store_s d) t = subst (AnswerKeeps (store_s d)) e keeps in
        (ap place_of_running k.running ∙ o.running, (o.others.0, o.others.1, (o.others.2.0, o.others.2.1, others_kept {d = d} vs k o.others.2.2)));
    waits = λ g vs w e. subst (AnswerKeeps (store_s d)) e keeps;
    closes = λ i e. subst (AnswerKeeps (store_s d)) e keeps;
  }

-- ---- the calls

suspended_dead : {A : Type 0} → Suspended ≡ Dead → A
suspended_dead e = cc

none_first : {p : Setting} {turns co : ℕ} {ds : List Desc} {d : Dyn} → Ok p turns co [] ds d → kept.innermost d.script.waits (store_s d) ≡ None
none_first {d = d} o = ap (λ n. kept.first_of (waiting d.script.waits n)) o.running ∙ ap kept.first_of o.waits

none_first_m : {p : Setting} {turns co : ℕ} {ds : List Desc} {d : Dyn} → Ok p turns co [] ds d → kept.innermost d.code.waits (store_m d) ≡ None
none_first_m {d = d} o =
    ap (λ v. kept.innermost v (store_m d)) (sym o.base.waits) ∙ ap (λ s. kept.innermost d.script.waits s) (sym o.base.store) ∙ none_first o

module _ (q : Setting) (n deep : ℕ) (fewer_calls : (i : ℕ) → i < n → CallsGo (setting q n deep) i)
    (shorter : (k : ℕ) → k < deep → CallsGo (setting q n k) n) where
  pub faults : {ws : List Wait} → RaisesGo (setting q n deep) n ws → (e : RunError) → OutsideGo (setting q n deep) n (Faults e) ws
  faults raises e co fs ms ds d o stands =
      source_goes q refl (target_goes q refl (raises (Text (error_text e)) co fs ms ds d o stands))

  -- a run error is raised where it runs
  fails_goes : (e : RunError) (ws : List Wait) → RaisesGo (setting q n deep) n ws → (co : ℕ) (fs : List source.Activation) (ms : List machine.Frame)
      (ds : List Desc) (d : Dyn) → Ok (setting q n deep) n co ws ds d → Stands (setting q n deep) n co ws fs ms ds → (s : source.State) (m : machine.State)
      → source_steps.step q.texts s ≡ source_calls.decided (decision.fails e d.script.waits (store_s d)) fs d.script
      → machine_steps.step q.chunk m ≡ machine_calls.decided q.chunk (decision.fails e d.script.waits (store_s d)) ms d.code → Alike q n s m
  fails_goes e ws raises co fs ms ds d o stands s m es em =
      let a = decision.fails e d.script.waits (store_s d) in
      decided_same (setting q n deep) a co n fs ms d o.running o.running o.base
      (faults raises e co fs ms ds (decides d a) (ok_kept a refl refl refl o) stands) s m es em

  -- values are given where it runs
  gives_goes : (vs : List Value) (ws : List Wait) → HandsGo (setting q n deep) n ws → (co : ℕ) (fs : List source.Activation) (ms : List machine.Frame)
      (ds : List Desc) (d : Dyn) → Ok (setting q n deep) n co ws ds d → Stands (setting q n deep) n co ws fs ms ds → (s : source.State) (m : machine.State)
      → source_steps.step q.texts s ≡ source_calls.decided (decision.now (Gives vs) d.script.waits (store_s d)) fs d.script
      → machine_steps.step q.chunk m ≡ machine_calls.decided q.chunk (decision.now (Gives vs) d.script.waits (store_s d)) ms d.code → Alike q n s m
  gives_goes vs ws hands co fs ms ds d o stands s m es em =
      let a = decision.now (Gives vs) d.script.waits (store_s d) in
      decided_same (setting q n deep) a co n fs ms d o.running o.running o.base
      (hands vs co fs ms ds (decides d a) (ok_kept a refl refl refl o) stands) s m es em

  -- ---- resume

  pub resumes : (i : ℕ) (args : List Value) (ws : List Wait) → HandsGo (setting q n deep) n ws → RaisesGo (setting q n deep) n ws
      → MoveGoes (setting q n deep) n (Resume i args) ws
  resumes i args ws hands raises co fs ms ds d o stands s m es em = by (coroutine_of (store_s d) i).status refl
    where
      by : (status : CoStatus) → (coroutine_of (store_s d) i).status ≡ status → Alike q n s m
      by status e =
          by_row status e
          (es ∙ ap (λ x. source_calls.decided (decision.resume_by x false i args d.script.waits (store_s d)) fs d.script) e)
          (em ∙ ap (λ x. machine_calls.decided q.chunk (decision.resume_by x false i args d.script.waits (store_s d)) ms d.code) e)
        where
          by_row : (status : CoStatus) → (coroutine_of (store_s d) i).status ≡ status
              → source_steps.step q.texts s ≡ source_calls.decided (decision.resume_by status false i args d.script.waits (store_s d)) fs d.script
              → machine_steps.step q.chunk m ≡ machine_calls.decided q.chunk (decision.resume_by status false i args d.script.waits (store_s d)) ms d.code
              → Alike q n s m
          by_row Suspended e es em = resume_goes q n deep fewer_calls false i args o stands (ap (λ c. c.status) (sym (of_is (store_s d) i)) ∙ e) s m es em
          by_row Dead e es em = gives_goes (Boolean false ∷ Text (error_text DeadCoroutine) ∷ []) ws hands co fs ms ds d o stands s m es em
          by_row Running e es em = gives_goes (Boolean false ∷ Text (error_text NotSuspended) ∷ []) ws hands co fs ms ds d o stands s m es em
          by_row Normal e es em = gives_goes (Boolean false ∷ Text (error_text NotSuspended) ∷ []) ws hands co fs ms ds d o stands s m es em

  wraps_by : (i : ℕ) (args : List Value) (ws : List Wait) → RaisesGo (setting q n deep) n ws → (co : ℕ) (fs : List source.Activation)
      (ms : List machine.Frame) (ds : List Desc) (d : Dyn) → Ok (setting q n deep) n co ws ds d → Stands (setting q n deep) n co ws fs ms ds
      → (s : source.State) (m : machine.State) → (status : CoStatus) → (coroutine_of (store_s d) i).status ≡ status
      → source_steps.step q.texts s ≡ source_calls.decided (decision.resume_by status true i args d.script.waits (store_s d)) fs d.script
      → machine_steps.step q.chunk m ≡ machine_calls.decided q.chunk (decision.resume_by status true i args d.script.waits (store_s d)) ms d.code
      → Alike q n s m
  wraps_by i args ws raises co fs ms ds d o stands s m Suspended e es em =
      resume_goes q n deep fewer_calls true i args o stands (ap (λ c. c.status) (sym (of_is (store_s d) i)) ∙ e) s m es em
  wraps_by i args ws raises co fs ms ds d o stands s m Dead e es em = fails_goes DeadCoroutine ws raises co fs ms ds d o stands s m es em
  wraps_by i args ws raises co fs ms ds d o stands s m Running e es em = fails_goes NotSuspended ws raises co fs ms ds d o stands s m es em
  wraps_by i args ws raises co fs ms ds d o stands s m Normal e es em = fails_goes NotSuspended ws raises co fs ms ds d o stands s m es em

  pub wraps : (by : Caller) (i : ℕ) (vs : List Value) (ws : List Wait) → RaisesGo (setting q n deep) n ws
      → OutsideGo (setting q n deep) n (Invokes by (Wrap i) vs) ws
  wraps by i vs ws raises co fs ms ds d o stands =
      let c = Called by (Wrap i) vs in
      let reply = slice_get d.script.replies 0 in
      wraps_by i vs ws raises co fs ms ds d o stands _ _ (coroutine_of (store_s d) i).status refl
      (ap (λ x. source_calls.decided x fs (source_calls.without_closed c x.store d.script)) (called_is by (Wrap i) vs reply d.script.waits (store_s d)))
      (ap (λ x. machine_calls.decided q.chunk x ms (machine_calls.without_closed c x.store d.code))
      (asked_alike (setting q n deep) c d o.base ∙ called_is by (Wrap i) vs reply d.script.waits (store_s d)))

  -- ---- yield, and the end of a coroutine

  pub yields : (vs : List Value) (ws : List Wait) → RaisesGo (setting q n deep) n ws → MoveGoes (setting q n deep) n (Yield vs) ws
  yields vs ws raises co fs ms ds d o stands s m es em = by (store_s d).running refl
    where
      by : (r : Option ℕ) → (store_s d).running ≡ r → Alike q n s m
      by None e =
          fails_goes YieldOutside ws raises co fs ms ds d o stands s m
          (es ∙ ap (λ r. source_calls.decided (decision.yield r vs d.script.waits (store_s d)) fs d.script) e)
          (em ∙ ap (λ r. machine_calls.decided q.chunk (decision.yield r vs d.script.waits (store_s d)) ms d.code) e)
      by (Some i) e =
          leave_goes q n deep shorter (record { body = Nil; status = Suspended; resumer = None; failure = None }) (Gives vs) (Hands vs) d.script.waits i
          (λ fs ms d z. z) (λ fs ms d base r w. hands_end (setting q n deep) vs n fs ms d base r w) e refl o.waits (λ k ne. refl)
          (λ r. suspended_dead r) o stands s m
          (es ∙ ap (λ r. source_calls.decided (decision.yield r vs d.script.waits (store_s d)) fs d.script) e)
          (em ∙ ap (λ r. machine_calls.decided q.chunk (decision.yield r vs d.script.waits (store_s d)) ms d.code) e)

  module _ (i co : ℕ) (fs : List source.Activation) (ms : List machine.Frame) (ds : List Desc) (d : Dyn) (running : (store_s d).running ≡ Some i)
      (o : Ok (setting q n deep) n co [] ds d) (stands : Stands (setting q n deep) n co [] fs ms ds) where
    it_runs : i ≡ co
    it_runs = sym (ap place_of_running running) ∙ o.running

    pub ends : (vs : List Value) → AlikeOutside (setting q n deep) n (Hands vs) fs ms d
    ends vs =
        let is = given_is vs (slice_get d.script.replies 0) d.script.waits (store_s d)
        ∙ ap (λ k. decision.given (waiting d.script.waits k) vs d.script.waits (store_s d)) o.running
        ∙ ap (λ x. decision.given x vs d.script.waits (store_s d)) o.waits
        ∙ ap (λ r. decision.finish r vs d.script.waits (store_s d)) running in
        leave_goes q n deep shorter dead (Gives vs) (Hands vs) (with_waiting d.script.waits i []) i (λ fs ms d z. z)
        (λ fs ms d base r w. hands_end (setting q n deep) vs n fs ms d base r w) running (length-set d.script.waits i [])
        (ap (waiting (with_waiting d.script.waits i [])) (sym it_runs) ∙ emptied_here d.script.waits i)
        (λ k ne. emptied_other d.script.waits i k (λ r. ne (r ∙ it_runs))) (λ r. refl) o stands _ _
        (ap (λ x. source_calls.hand (source_calls.is_function x) vs fs d.script) (none_first o) ∙ ap (λ b. source_calls.decided b fs d.script) is)
        (ap (λ x. machine_calls.hand q.chunk (machine_calls.is_function x) vs ms d.code) (none_first_m o)
        ∙ ap (λ b. machine_calls.decided q.chunk b ms d.code) (asked_alike (setting q n deep) (Given vs) d o.base ∙ is))

    pub dies : (v : Value) → AlikeOutside (setting q n deep) n (Raises v) fs ms d
    dies v =
        let is = passed_is v (slice_get d.script.replies 0) d.script.waits (store_s d)
        ∙ ap (λ k. decision.passed (waiting d.script.waits k) v d.script.waits (store_s d)) o.running
        ∙ ap (λ x. decision.passed x v d.script.waits (store_s d)) o.waits
        ∙ ap (λ r. decision.die r v d.script.waits (store_s d)) running in
        leave_goes q n deep shorter (record dead { failure = Some v }) (Throws (kept.Raises v kept.Elsewise)) (Raises v)
        (with_waiting d.script.waits i []) i (λ fs ms d z. z)
        (λ fs ms d base r w. raises_end (setting q n deep) v n fs ms d base r w) running (length-set d.script.waits i [])
        (ap (waiting (with_waiting d.script.waits i [])) (sym it_runs) ∙ emptied_here d.script.waits i)
        (λ k ne. emptied_other d.script.waits i k (λ r. ne (r ∙ it_runs))) (λ r. refl) o stands _ _
        (ap (λ x. source_calls.raise (source_calls.is_function x) v fs d.script) (none_first o) ∙ ap (λ b. source_calls.decided b fs d.script) is)
        (ap (λ x. machine_calls.raise q.chunk (machine_calls.is_function x) v ms d.code) (none_first_m o)
        ∙ ap (λ b. machine_calls.decided q.chunk b ms d.code) (asked_alike (setting q n deep) (Passed v) d o.base ∙ is))
