-- What waits decides alike on both sides, since it is asked alike: whatever the library or a call that waits answers.
use Rattle.std.proofs.Common.{Bool, true, false, not, ◌&&◌, ◌||◌, ◌≡◌, ℕ, zero, suc, ◌<◌, ◌≤◌, List, [], ◌∷◌, ◌++◌, length, map, Option, Some, None, refl, sym, ap, ◌∙◌, arith, ⊎_elim}
use Rattle.std.specs.Prelude.{slice_get, nat_eq, option_to_list}
use Rattle.std.specs.List.{list_any, filter}
use Rattle.std.proofs.lemmas.Bool.{eq-eqb, ne_eqb, cases_eq, eqb-true}
use Rattle.std.proofs.lemmas.List.Folds.{list_any-append}
use Rattle.std.proofs.lemmas.Map.Views.{any-filter_same}
use Rattle.std.proofs.lemmas.Option.{slice_get_past}
use Rattle.value_model.specs.Values.{Value, TableRef, Shared, Own}
use Rattle.value_model.specs.Store.{Store, here, same_table, script_environment}
use Rattle.value_model.specs.Names.{name_of}
use Rattle.value_model.specs.declared.event.EventKind.{EventKind}
use Rattle.value_model.specs.declared.event.EventKind.TheVariants.{Host, Print}
use Rattle.value_model.specs.declared.event.Reply.{Reply}
use Rattle.value_model.specs.Waits.{Wait, waiting, Case, Waited, Answer, Gives, Enters, Calls, Throws, Stops, Finishes, Dies, Thrown, Fails, Ended, Raised, Stopped, Stuck}
use Rattle.value_model.specs.Waits as waits
use Rattle.value_model.specs.Waiting.{wait}
use Rattle.bounded_runs.specs.Runs.{Ends}
use Rattle.source_meaning.specs.States as source
use Rattle.source_meaning.specs.Calls as source_calls
use Rattle.source_meaning.specs.Steps as source_steps
use Rattle.machine_meaning.specs.States as machine
use Rattle.machine_meaning.specs.Calls as machine_calls
use Rattle.machine_meaning.specs.Steps as machine_steps
use Rattle.code_simulation.specs.Relation.{Dyn, bodies_s, bodies_m, store_s, store_m, Setting, FuncAlike, Base, Desc, AllRest, Ok}
use Rattle.code_simulation.proofs.Along.{Alike, Outside, Invokes, Hands, Faults, Raises, focus_s, focus_m}
use Rattle.code_simulation.proofs.Changes.{append_nil}
use Rattle.code_simulation.proofs.Moving.{source_goes, target_goes, both_charge, both_show, both_stop}
use Rattle.code_simulation.proofs.Entering.{entered_s, entered_m}

-- both states behind a decision
abbrev pub decides : Dyn → Waited → Dyn
decides d a = record { tag = d.tag; script = source_calls.world_after a d.script; code = machine_calls.world_after a d.code }

-- ---- environments that are safe

-- only a table itself is the same
same_is : (t u : TableRef) → same_table t u ≡ true → t ≡ u
same_is (Shared i) (Shared j) e = ap Shared (eqb-true i j e)
same_is (Own i) (Own j) e = ap Own (eqb-true i j e)
same_is (Shared i) (Own j) e = cc
same_is (Own i) (Shared j) e = cc

eq_turned : (i j : ℕ) → nat_eq i j ≡ nat_eq j i
eq_turned i j =
    ⊎_elim
    (λ e. eq-eqb i j e ∙ sym (eq-eqb j i (sym e)))
    (λ ne. ne_eqb i j ne ∙ sym (ne_eqb j i (λ e. ne (sym e))))
    (cases_eq i j)

same_turned : (t u : TableRef) → same_table t u ≡ same_table u t
same_turned (Shared i) (Shared j) = eq_turned i j
same_turned (Own i) (Own j) = eq_turned i j
same_turned (Shared i) (Own j) = refl
same_turned (Own i) (Shared j) = refl

unmarked_is : (t u : TableRef) (ts : List TableRef) → list_any (same_table t) (filter (λ v. not (same_table u v)) ts) ≡
    (not (same_table t u) && list_any (same_table t) ts)
unmarked_is t u ts =
    any-filter_same (same_table t) (λ v. not (same_table u v)) (not (same_table t u))
    (λ v e. ap (λ x. not (same_table u x)) (sym (same_is t v e)) ∙ ap not (same_turned u t)) ts

tables_agree : (s g a : Bool) → (s && not (g || (a || false))) ≡ (not a && (s && not g))
tables_agree true true true = refl
tables_agree true true false = refl
tables_agree true false true = refl
tables_agree true false false = refl
tables_agree false true true = refl
tables_agree false true false = refl
tables_agree false false true = refl
tables_agree false false false = refl

-- an environment that is given or taken is safe no more, on both sides
pub safe_after : (e : Option TableRef) (given marked : List TableRef) (t : TableRef)
    → (same_table t script_environment && not (list_any (same_table t) given)) ≡ list_any (same_table t) marked
    → (same_table t script_environment && not (list_any (same_table t) (given ++ option_to_list e))) ≡ list_any (same_table t)
    (machine_calls.unmarked e marked)
safe_after None given marked t h = ap (λ ts. same_table t script_environment && not (list_any (same_table t) ts)) (append_nil given) ∙ h
safe_after (Some u) given marked t h =
    ap (λ b. same_table t script_environment && not b) (list_any-append (same_table t) given (u ∷ []))
    ∙ tables_agree (same_table t script_environment) (list_any (same_table t) given) (same_table t u)
    ∙ ap (λ b. not (same_table t u) && b) h
    ∙ sym (unmarked_is t u marked)

-- both use up the same reply
replies_is : (e : Option EventKind) (rs : List Reply) → source_calls.replies_after e rs ≡ machine_calls.replies_after e rs
replies_is None rs = refl
replies_is (Some (Host f vs reply)) rs = refl
replies_is (Some (Print line)) rs = refl

pub base_decides : {p : Setting} {d : Dyn} → (a : Waited) → Base p d → Base p (decides d a)
base_decides {p} {d} a o = record {
  store = refl;
  waits = refl;
  replies = replies_is a.event d.script.replies ∙ ap (machine_calls.replies_after a.event) o.replies;
  safe = λ t. safe_after a.environment d.script.given d.code.marked t (o.safe t);
  cells = o.cells;
  taken = o.taken;
  once = o.once;
  made = o.made;
  alike = o.alike;
}

-- where the same coroutine goes on, the states go together behind the decision
pub ok_decides : {p : Setting} {turns co : ℕ} {ws : List Wait} {ds : List Desc} {d : Dyn} → (a : Waited) (ws' : List Wait) (ds' : List Desc)
    → here a.store ≡ co → co < length a.waits → waiting a.waits co ≡ ws' → AllRest co d.tag ds' → p.Others turns co (decides d a)
    → Ok p turns co ws ds d → Ok p turns co ws' ds' (decides d a)
ok_decides a ws' ds' running room waits rest others o =
    record { base = base_decides a o.base; running = running; room = room; waits = waits; rest = rest; others = others }

-- ---- what follows

-- where a turn is charged, it remains to be shown for one turn fewer
abbrev pub Later : Bool → ℕ → (ℕ → Type 0) → Type 0
Later false left F = F left
Later true left F = (fewer : ℕ) → left ≡ suc fewer → F fewer

-- a raised value, or a run error
abbrev pub thrown : Thrown → Outside
thrown (Fails e) = Faults e
thrown (waits.Raises v origin) = Raises v

get_none : {A : Type 0} (xs : List A) (i : ℕ) → slice_get xs i ≡ None → length xs ≤ i
get_none [] i e = omega arith
get_none (x ∷ xs) zero e = absurd (some_none e)
  where
    some_none : {A : Type 0} {x : A} → Some x ≡ None → ⊥
    some_none e = cc
get_none (x ∷ xs) (suc i) e = let r = get_none xs i e in omega (arith, r)

module _ (p : Setting) where
  abbrev pub AlikeOutside : ℕ → Outside → List source.Activation → List machine.Frame → Dyn → Type 0
  AlikeOutside left x fs ms d =
      Alike p left (source_calls.state_with (focus_s x) fs d.script) (machine_calls.state_with (focus_m x) ms d.code)

  -- what is to be shown of the rest, for each answer
  abbrev pub Follows : ℕ → Answer → List source.Activation → List machine.Frame → Dyn → Type 0
  Follows left (Gives vs) fs ms d = AlikeOutside left (Hands vs) fs ms d
  Follows left (Enters c vs) fs ms d =
      (b : source.Body) (m : machine.Body) → (a : FuncAlike p d.tag b m)
      → Alike p left (entered_s b.func b.env c vs fs d) (entered_m m.proto a.proto m.cells c vs ms d)
  Follows left (Calls by f vs) fs ms d = AlikeOutside left (Invokes by f vs) fs ms d
  Follows left (Throws t) fs ms d = AlikeOutside left (thrown t) fs ms d
  Follows left (Stops x) fs ms d = Unit {0}
  Follows left (Finishes vs) fs ms d = Unit {0}
  Follows left (Dies v) fs ms d = Unit {0}

  -- a turn is charged, or an event is shown, or neither
  to_same : (charged : Bool) (event : Option EventKind) (left : ℕ) (s' : source.State) (m' : machine.State)
      → Later charged left (λ l. Alike p l s' m') → (s : source.State) (m : machine.State)
      → source_steps.step p.texts s ≡ source_calls.to charged event s' → machine_steps.step p.chunk m ≡ machine_calls.to charged event m'
      → Alike p left s m
  to_same true event left s' m' go s m e f = both_charge p left e f go
  to_same false (Some x) left s' m' go s m e f = both_show p e f go
  to_same false None left s' m' go s m e f = source_goes p e (target_goes p f go)

  thrown_same : (t : Thrown) (charged : Bool) (event : Option EventKind) (left : ℕ) (fs : List source.Activation) (ms : List machine.Frame) (d : Dyn)
      → Later charged left (λ l. AlikeOutside l (thrown t) fs ms d) → (s : source.State) (m : machine.State)
      → source_steps.step p.texts s ≡ source_calls.to charged event (source_calls.state_with (source_calls.thrown t) fs d.script)
      → machine_steps.step p.chunk m ≡ machine_calls.to charged event (machine_calls.state_with (machine_calls.thrown t) ms d.code) → Alike p left s m
  thrown_same (Fails x) charged event left fs ms d go s m e f = to_same charged event left _ _ go s m e f
  thrown_same (waits.Raises v origin) charged event left fs ms d go s m e f = to_same charged event left _ _ go s m e f

  -- under a charge, from what holds without one
  later_by : {F G : ℕ → Type 0} (charged : Bool) (left : ℕ) → ((l : ℕ) → F l → G l) → Later charged left F → Later charged left G
  later_by false left g x = g left x
  later_by true left g x = λ fewer e. g fewer (x fewer e)

  -- a closure that is entered has a body on both sides, or on neither
  enters_same : (c : ℕ) (vs : List Value) (charged : Bool) (event : Option EventKind) (left : ℕ) (fs : List source.Activation)
      (ms : List machine.Frame) (d : Dyn) → Base p d → Later charged left (λ l. Follows l (Enters c vs) fs ms d) → (o : Option source.Body)
      → slice_get (bodies_s d) c ≡ o → (s : source.State) (m : machine.State)
      → source_steps.step p.texts s ≡ source_calls.follows (Enters c vs) (source_calls.to charged event) fs d.script
      → machine_steps.step p.chunk m ≡ machine_calls.follows p.chunk (Enters c vs) (machine_calls.to charged event) ms d.code → Alike p left s m
  enters_same c vs charged event left fs ms d base go None found s m e f =
      both_stop p
      (e ∙ ap (λ o. source_calls.entered (source_calls.enter o c vs fs d.script) (source_calls.to charged event)) found)
      (f ∙ ap (λ o. machine_calls.entered (machine_calls.enter p.chunk o c vs ms d.code) (machine_calls.to charged event))
      (slice_get_past (bodies_m d) c (let le = get_none (bodies_s d) c found in omega (arith, le, base.made))))
  enters_same c vs charged event left fs ms d base go (Some b) found s m e f =
      let r = base.alike c b found in
      to_same charged event left (entered_s b.func b.env c vs fs d) (entered_m r.0.proto r.2.proto r.0.cells c vs ms d)
      (later_by charged left (λ l x. x b r.0 r.2) go) s m
      (e ∙ ap (λ o. source_calls.entered (source_calls.enter o c vs fs d.script) (source_calls.to charged event)) found)
      (f ∙ ap (λ o. machine_calls.entered (machine_calls.enter p.chunk o c vs ms d.code) (machine_calls.to charged event)) r.1
      ∙ ap (λ o. machine_calls.entered (machine_calls.begun o r.0 c vs ms d.code) (machine_calls.to charged event)) r.2.coded.found)

  pub follows_same : (a : Answer) (charged : Bool) (event : Option EventKind) (left : ℕ) (fs : List source.Activation) (ms : List machine.Frame) (d : Dyn)
      → Base p d → Later charged left (λ l. Follows l a fs ms d) → (s : source.State) (m : machine.State)
      → source_steps.step p.texts s ≡ source_calls.follows a (source_calls.to charged event) fs d.script
      → machine_steps.step p.chunk m ≡ machine_calls.follows p.chunk a (machine_calls.to charged event) ms d.code → Alike p left s m
  follows_same (Gives vs) charged event left fs ms d base go s m e f = to_same charged event left _ _ go s m e f
  follows_same (Enters c vs) charged event left fs ms d base go s m e f =
      enters_same c vs charged event left fs ms d base go (slice_get (bodies_s d) c) refl s m e f
  follows_same (Calls by g vs) charged event left fs ms d base go s m e f = to_same charged event left _ _ go s m e f
  follows_same (Throws t) charged event left fs ms d base go s m e f = thrown_same t charged event left fs ms d go s m e f
  follows_same (Stops x) charged event left fs ms d base go s m e f = both_stop p e f
  follows_same (Finishes vs) charged event left fs ms d base go s m e f =
      both_stop p (e ∙ ap (λ (st : Store). Ends [] (Ended (map (name_of st.globals) vs))) base.store) f
  follows_same (Dies v) charged event left fs ms d base go s m e f =
      both_stop p (e ∙ ap (λ (st : Store). Ends [] (Raised (name_of st.globals v))) base.store) f

  -- What was decided leads on alike, where the same coroutine goes on
  pub decided_same : (a : Waited) (co left : ℕ) (fs : List source.Activation) (ms : List machine.Frame) (d : Dyn) → here (store_s d) ≡ co
      → here a.store ≡ co → Base p d → Later a.charged left (λ l. Follows l a.answer fs ms (decides d a)) → (s : source.State) (m : machine.State)
      → source_steps.step p.texts s ≡ source_calls.decided a fs d.script → machine_steps.step p.chunk m ≡ machine_calls.decided p.chunk a ms d.code
      → Alike p left s m
  decided_same a co left fs ms d from next base go s m e f =
      let same_s : nat_eq (here (store_s d)) (here a.store) ≡ true = eq-eqb (here (store_s d)) (here a.store) (from ∙ sym next) in
      let same_m : nat_eq (here (store_m d)) (here a.store) ≡ true = eq-eqb (here (store_m d)) (here a.store) (ap here (sym base.store) ∙ from ∙ sym next) in
      follows_same a.answer a.charged a.event left fs ms (decides d a) (base_decides a base) go s m
      (e ∙ ap (λ b. source_calls.follows a.answer (source_calls.to a.charged a.event)
      (source_calls.switched b (here (store_s d)) (here a.store) fs (source_calls.world_after a d.script)).0
      (source_calls.switched b (here (store_s d)) (here a.store) fs (source_calls.world_after a d.script)).1) same_s)
      (f ∙ ap (λ b. machine_calls.follows p.chunk a.answer (machine_calls.to a.charged a.event)
      (machine_calls.switched b (here (store_m d)) (here a.store) ms (machine_calls.world_after a d.code)).0
      (machine_calls.switched b (here (store_m d)) (here a.store) ms (machine_calls.world_after a d.code)).1) same_m)

  -- Both ask the same of what waits, since the stores, what waits and the replies are the same
  pub asked_alike : (c : Case) (d : Dyn) → Base p d → wait d.code.waits (store_m d) c (slice_get d.code.replies 0) ≡ wait d.script.waits (store_s d) c
      (slice_get d.script.replies 0)
  asked_alike c d base =
      ap (λ ws. wait ws (store_m d) c (slice_get d.code.replies 0)) (sym base.waits)
      ∙ ap (λ s. wait d.script.waits s c (slice_get d.code.replies 0)) (sym base.store)
      ∙ ap (λ rs. wait d.script.waits (store_s d) c (slice_get rs 0)) (sym base.replies)
