-- Calls, values that are handed on and errors go along together, whatever waits for them: library functions, protected calls and the
-- functions of the script. What coroutines do is a premise.
use Rattle.std.proofs.Common.{Bool, true, false, ◌≡◌, ◌≢◌, ℕ, ◌<◌, List, [], ◌∷◌, ◌++◌, length, Option, Some, None, refl, sym, ap, ◌∙◌, subst, arith, ◌⊎◌, ⊎_elim, inl, inr, length-append}
use Rattle.std.specs.Prelude.{Ok as Fine, Err, slice_get, slice_index_or, replicate, ◌-◌, codes, if◌then◌else◌}
use Rattle.std.proofs.lemmas.List.{get_or-set_same, get_or-set_other, length-set}
use Rattle.std.proofs.Math.ListN.{get_or-append}
use Rattle.value_model.specs.declared.builtin.Builtin.{Builtin}
use Rattle.value_model.specs.declared.builtin.Builtin.TheVariants.{CoroutineClose}
use Rattle.value_model.specs.declared.plain.Plain.{Plain}
use Rattle.value_model.specs.declared.event.Reply.{Reply}
use Rattle.value_model.specs.declared.event.Reply.TheVariants as answered
use Rattle.value_model.specs.Values.{Bytes, Value, Nil, Boolean, Number, Text, Table, Closure, Native, Host, Wrap, Thread, TableRef, kind_of}
use Rattle.value_model.specs.Errors.{RunError, CallOf, FixedEnvironment, error_text}
use Rattle.value_model.specs.Store.{Store, here, place_of_running, with_environment}
use Rattle.value_model.specs.Waits.{Wait, Runs, Protects, Guards, Handles, Resumes, Asks, Waits, waiting, with_waiting, leave, await, rest_of, Caller, ByScript, ByLibrary, Case, Called, Given, Passed, Answer, Gives, Enters, Calls, Throws, Stops, Fails, Waited, Continue}
use Rattle.value_model.specs.Waits as kept
use Rattle.value_model.specs.Choices.{Done, CallThis, Errs}
use Rattle.value_model.specs.Metamethods.{is_function, callee_of, callable, metamethod}
use Rattle.value_model.specs.Answers.{CoMove, Resume, Yield, Close, LibAnswer, Answers, PrintsLine, ErrsWith, RaisesValue, HaltsWith, CallsBack, Moves, OnEnvironment, Reads, Replaces}
use Rattle.value_model.specs.Library.{lib, go_on}
use Rattle.value_model.specs.Waiting as decision
use Rattle.value_model.specs.Waiting.{wait, for_all, by_library, move_by}
use Rattle.source_meaning.specs.States as source
use Rattle.source_meaning.specs.Calls as source_calls
use Rattle.source_meaning.specs.Steps as source_steps
use Rattle.machine_meaning.specs.States as machine
use Rattle.machine_meaning.specs.Calls as machine_calls
use Rattle.machine_meaning.specs.Steps as machine_steps
use Rattle.code_simulation.specs.Relation.{Dyn, store_s, store_m, Setting, Desc, Ok}
use Rattle.code_simulation.proofs.Along.{Alike, Stands, function, other, Outside, Invokes, Hands, Faults, Raises, CallsGo}
use Rattle.code_simulation.proofs.World.{keeps_all, ok_later}
use Rattle.code_simulation.proofs.Library.{IsClose}
use Rattle.code_simulation.proofs.Moving.{source_goes, target_goes}
use Rattle.code_simulation.proofs.Waiting.{stands_later, leaves, ok_leaves, innermost_s, innermost_m}
use Rattle.code_simulation.proofs.Entering.{FuncsGo}
use Rattle.code_simulation.proofs.Deciding.{decides, ok_decides, Later, Follows, AlikeOutside, decided_same, asked_alike}

-- ---- what waits, where one more does

pub waiting_more : (w : Wait) (ws : Waits) (s : Store) (co : ℕ) → here s ≡ co → co < length ws → waiting (await w ws s) co ≡ w ∷ waiting ws co
waiting_more w ws s co e lt =
    ap (λ n. waiting (with_waiting ws n (w ∷ waiting ws n)) co) e ∙ get_or-set_same ws co (w ∷ waiting ws co) [] lt

pub waiting_more_others : (w : Wait) (ws : Waits) (s : Store) (co j : ℕ) → here s ≡ co → j ≢ co → waiting (await w ws s) j ≡ waiting ws j
waiting_more_others w ws s co j e ne =
    ap (λ n. waiting (with_waiting ws n (w ∷ waiting ws n)) j) e ∙ get_or-set_other ws co j (w ∷ waiting ws co) [] ne

-- a decision after which nothing else waits, with a store in which the same coroutines are
pub ok_kept : {p : Setting} {turns co : ℕ} {ws : List Wait} {ds : List Desc} {d : Dyn} → (a : Waited) → a.store.running ≡ (store_s d).running
    → a.store.coroutines ≡ (store_s d).coroutines → a.waits ≡ d.script.waits → Ok p turns co ws ds d → Ok p turns co ws ds (decides d a)
ok_kept {p} {turns} {co} {ws} {ds} {d} a running coroutines waits o =
    ok_decides a ws ds (ap place_of_running running ∙ o.running) (subst (λ w. co < length w) (sym waits) o.room) (ap (λ w. waiting w co) waits ∙ o.waits) o.rest
    (p.others_keep turns co 0 d (decides d a) keeps_all (record {
      running = running;
      coroutines = coroutines;
      waits = λ j ne. ap
          (λ w. waiting w j) waits;
      room = let e = ap length waits in omega (arith, e);
      script = refl;
      code = refl;
    }) o.others) o

-- and one after which one more waits
pub ok_more : {p : Setting} {turns co : ℕ} {ws : List Wait} {ds : List Desc} {d : Dyn} → (a : Waited) (w : Wait) → a.store ≡ store_s d
    → a.waits ≡ await w d.script.waits (store_s d) → Ok p turns co ws ds d → Ok p turns co (w ∷ ws) ds (decides d a)
ok_more {p} {turns} {co} {ws} {ds} {d} a w store waits o =
    ok_decides a (w ∷ ws) ds (ap here store ∙ o.running) (subst (λ v. co < length v) (sym waits)
    (omega (arith, o.room, length-set d.script.waits (here (store_s d)) (w ∷ waiting d.script.waits (here (store_s d))))))
    (ap (λ v. waiting v co) waits ∙ waiting_more w d.script.waits (store_s d) co o.running o.room ∙ ap (λ v. w ∷ v) o.waits) o.rest
    (p.others_keep turns co 0 d (decides d a) keeps_all (record {
      running = ap (λ s. s.running) store;
      coroutines = ap
          (λ s. s.coroutines) store;
      waits = λ j ne. ap (λ v. waiting v j) waits
          ∙ waiting_more_others w d.script.waits (store_s d) co j o.running ne;
      room =
          let e = ap length waits in
          omega (arith, e, length-set d.script.waits (here (store_s d)) (w ∷ waiting d.script.waits (here (store_s d))));
      script = refl;
      code = refl;
    }) o.others) o

-- and one after which the innermost, which is no function, waits no more
ok_less : {p : Setting} {turns co : ℕ} {w : Wait} {ws : List Wait} {ds : List Desc} {d : Dyn} → (a : Waited) → a.store ≡ store_s d
    → a.waits ≡ leave d.script.waits (store_s d) → Ok p turns co (w ∷ ws) ds d → Ok p turns co ws ds (decides d a)
ok_less {d = d} a store waits o =
    ok_kept {d = leaves d} a (ap (λ s. s.running) store) (ap (λ s. s.coroutines) store) waits (ok_leaves o.rest o)

stands_below : {p : Setting} {left co : ℕ} {w : Wait} {ws : List Wait} {fs : List source.Activation} {ms : List machine.Frame} {ds : List Desc}
    → source_calls.is_function (Some w) ≡ false → Stands p left co (w ∷ ws) fs ms ds → Stands p left co ws fs ms ds
stands_below e (other x s) = s
stands_below e (function go s) = absurd (true_false e)
  where
    true_false : true ≡ false → ⊥
    true_false e = cc

-- ---- what is decided, by the cases

pub called_is : (by : Caller) (f : Value) (args : List Value) (reply : Option Reply) (ws : Waits) (s : Store)
    → wait ws s (Called by f args) reply ≡ decision.called by f args reply ws s
unfolding wait
called_is by f args reply ws s = refl

pub given_is : (vs : List Value) (reply : Option Reply) (ws : Waits) (s : Store) → wait ws s (Given vs) reply ≡ decision.given (waiting ws (here s)) vs ws s
unfolding wait
given_is vs reply ws s = refl

pub passed_is : (v : Value) (reply : Option Reply) (ws : Waits) (s : Store) → wait ws s (Passed v) reply ≡ decision.passed (waiting ws (here s)) v ws s
unfolding wait
passed_is v reply ws s = refl

-- what is called where a value that is no function is
callee_cases : (s : Store) (f : Value) → is_function f ≡ false → ((g : Value) × (is_function g ≡ true) × (callee_of s f ≡ CallThis g (f ∷ []))) ⊎
    ((e : RunError) × (callee_of s f ≡ Errs e))
unfolding callee_of
callee_cases s f no_function = by_handler (metamethod s f (codes "__call")) (is_function (metamethod s f (codes "__call"))) refl
  where
    by_handler : (h : Value) (b : Bool) → is_function h ≡ b → ((g : Value) × (is_function g ≡ true) ×
        ((if is_function f then Done f else callable f h) ≡ CallThis g (f ∷ []))) ⊎
        ((e : RunError) × ((if is_function f then Done f else callable f h) ≡ Errs e))
    by_handler h true e = inl (
      h,
      e,
      ap (λ b. if b then Done f else callable f h) no_function
          ∙ ap (λ b. if b then CallThis h (f ∷ []) else Errs (CallOf (kind_of f))) e,
    )
    by_handler h false e = inr (
      CallOf (kind_of f),
      ap (λ b. if b then Done f else callable f h) no_function
          ∙ ap (λ b. if b then CallThis h (f ∷ []) else Errs (CallOf (kind_of f))) e,
    )

-- no coroutine is closed
record Open (c : Case) : Type 0 where
  script : (s : Store) (w : source.World) → source_calls.without_closed c s w ≡ w
  code : (s : Store) (w : machine.World) → machine_calls.without_closed c s w ≡ w

closing : (by : Caller) (b : Builtin) (vs : List Value) → (Open (Called by (Native b) vs) × (IsClose b vs → ⊥)) ⊎
    ((b ≡ CoroutineClose) × (i : ℕ) × (us : List Value) × (vs ≡ Thread i ∷ us))
closing by CoroutineClose (Thread i ∷ us) = inr (refl, i, us, refl)
closing by b vs = inl (record { script = λ s w. refl; code = λ s w. refl }, λ x. x)

-- ---- what is a premise here: what coroutines do, and that the library's answers leave those that wait as they are

abbrev pub OutsideGo : Setting → ℕ → Outside → List Wait → Type 0
OutsideGo p left x ws =
    (co : ℕ) (fs : List source.Activation) (ms : List machine.Frame) (ds : List Desc) (d : Dyn) → Ok p left co ws ds d → Stands p left co ws fs ms ds
    → AlikeOutside p left x fs ms d

abbrev pub HandsGo : Setting → ℕ → List Wait → Type 0
HandsGo p left ws = (vs : List Value) → OutsideGo p left (Hands vs) ws

abbrev pub RaisesGo : Setting → ℕ → List Wait → Type 0
RaisesGo p left ws = (v : Value) → OutsideGo p left (Raises v) ws

-- both decide this of a coroutine
abbrev pub MoveGoes : Setting → ℕ → CoMove → List Wait → Type 0
MoveGoes p left x ws =
    (co : ℕ) (fs : List source.Activation) (ms : List machine.Frame) (ds : List Desc) (d : Dyn) → Ok p left co ws ds d → Stands p left co ws fs ms ds
    → (s : source.State) (m : machine.State)
    → source_steps.step p.texts s ≡ source_calls.decided (move_by x d.script.waits (store_s d)) fs d.script
    → machine_steps.step p.chunk m ≡ machine_calls.decided p.chunk (move_by x d.script.waits (store_s d)) ms d.code → Alike p left s m

-- an answer of the library keeps those that wait, and what waits for a call of its own is no function of the script
pub record Fair (p : Setting) (left co : ℕ) (x : LibAnswer) (d : Dyn) : Type 0 where
  pub answers : (vs : List Value) (s : Store) → x ≡ Answers vs s → (here s ≡ co) × p.Others left co
      (decides d (decision.now (Gives vs) (for_all s d.script.waits) s))
  pub waits : (g : Value) (vs : List Value) (w : Wait) → x ≡ CallsBack g vs w → source_calls.is_function (Some w) ≡ false
  pub closes : (i : ℕ) → x ≡ Moves (Close i) → ⊥

pub record Coroutines (p : Setting) (left : ℕ) : Type 0 where
  -- a script or the library closes one
  pub closes : (i : ℕ) (vs : List Value) (ws : List Wait) → HandsGo p left ws → RaisesGo p left ws
      → OutsideGo p left (Invokes ByScript (Native CoroutineClose) (Thread i ∷ vs)) ws
  pub calls_close : (i : ℕ) (vs : List Value) (ws : List Wait) → OutsideGo p left (Invokes ByLibrary (Native CoroutineClose) (Thread i ∷ vs)) ws
  pub wraps : (by : Caller) (i : ℕ) (vs : List Value) (ws : List Wait) → RaisesGo p left ws → OutsideGo p left (Invokes by (Wrap i) vs) ws
  pub resumes : (i : ℕ) (args : List Value) (ws : List Wait) → HandsGo p left ws → RaisesGo p left ws → MoveGoes p left (Resume i args) ws
  pub yields : (vs : List Value) (ws : List Wait) → RaisesGo p left ws → MoveGoes p left (Yield vs) ws
  -- the end of a coroutine that was resumed
  pub ends : (i : ℕ) (vs : List Value) (co : ℕ) (fs : List source.Activation) (ms : List machine.Frame) (ds : List Desc) (d : Dyn)
      → (store_s d).running ≡ Some i → Ok p left co [] ds d → Stands p left co [] fs ms ds → AlikeOutside p left (Hands vs) fs ms d
  pub dies : (i : ℕ) (v : Value) (co : ℕ) (fs : List source.Activation) (ms : List machine.Frame) (ds : List Desc) (d : Dyn)
      → (store_s d).running ≡ Some i → Ok p left co [] ds d → Stands p left co [] fs ms ds → AlikeOutside p left (Raises v) fs ms d
  pub library : (b : Builtin) (args : List Value) → (IsClose b args → ⊥) → (co : ℕ) (ws : List Wait) (ds : List Desc) (d : Dyn) → Ok p left co ws ds d
      → Fair p left co (lib b args (store_s d)) d
  pub continues : (c : Continue) (v : Value) (co : ℕ) (ws : List Wait) (ds : List Desc) (d : Dyn) → Ok p left co ws ds d
      → Fair p left co (go_on c v (store_s d)) d

module _ (p : Setting) (left : ℕ) (co_laws : Coroutines p left) (fewer_calls : (i : ℕ) → i < left → CallsGo p i)
    (funcs : (i : ℕ) → i < left → FuncsGo p i) where
  abbrev LibraryGoes : List Wait → Type 0
  LibraryGoes ws = (f : Value) (vs : List Value) → OutsideGo p left (Invokes ByLibrary f vs) ws

  faults_go : (ws : List Wait) → RaisesGo p left ws → (e : RunError) → OutsideGo p left (Faults e) ws
  faults_go ws raises e co fs ms ds d o stands =
      source_goes p refl (target_goes p refl (raises (Text (error_text e)) co fs ms ds d o stands))

  -- both ask, and what is decided is this
  asks_same : (c : Case) (a : Waited) (co : ℕ) (ws : List Wait) (fs : List source.Activation) (ms : List machine.Frame) (ds : List Desc) (d : Dyn)
      → wait d.script.waits (store_s d) c (slice_get d.script.replies 0) ≡ a → Open c → Ok p left co ws ds d → here a.store ≡ co
      → Later a.charged left (λ l. Follows p l a.answer fs ms (decides d a)) → (s : source.State) (m : machine.State)
      → source_steps.step p.texts s ≡ source_calls.asks c fs d.script → machine_steps.step p.chunk m ≡ machine_calls.asks p.chunk c ms d.code
      → Alike p left s m
  asks_same c a co ws fs ms ds d is keeps_open o next go s m e f =
      decided_same p a co left fs ms d o.running next o.base go s m
      (e ∙ ap (λ x. source_calls.decided x fs (source_calls.without_closed c x.store d.script)) is
      ∙ ap (λ w. source_calls.decided a fs w) (keeps_open.script a.store d.script))
      (f ∙ ap (λ x. machine_calls.decided p.chunk x ms (machine_calls.without_closed c x.store d.code)) (asked_alike p c d o.base ∙ is)
      ∙ ap (λ w. machine_calls.decided p.chunk a ms w) (keeps_open.code a.store d.code))

  plain_open : (by : Caller) (f : Value) (vs : List Value) → ((s : Store) (w : source.World) → source_calls.without_closed (Called by f vs) s w ≡ w)
      → ((s : Store) (w : machine.World) → machine_calls.without_closed (Called by f vs) s w ≡ w) → Open (Called by f vs)
  plain_open by f vs x y = record { script = x; code = y }

  -- a Luau function is entered
  closure_goes : (by : Caller) (c : ℕ) (vs : List Value) (ws : List Wait) → OutsideGo p left (Invokes by (Closure c) vs) ws
  closure_goes by c vs ws co fs ms ds d o stands =
      let a = decision.charged (Enters c vs) (await (Runs c) d.script.waits (store_s d)) (store_s d) in
      asks_same (Called by (Closure c) vs) a co ws fs ms ds d (called_is by (Closure c) vs _ d.script.waits (store_s d))
      (record { script = λ s w. refl; code = λ s w. refl }) o o.running
      (λ i e b m al. funcs i (omega (arith, e)) b.func m.proto b.env al.ups al.proto al.coded m.cells c vs co ws fs ms ds (decides d a)
      (ok_later p i left co (Runs c ∷ ws) ds (decides d a) (omega (arith, e)) (ok_more a (Runs c) refl refl o)) al.alike
      (stands_later i (omega (arith, e)) stands))
      _ _ refl refl

  -- a library or host function that the library calls charges a turn, and then starts
  charged_goes : (f : Value) (vs : List Value) (ws : List Wait) (co : ℕ) (fs : List source.Activation) (ms : List machine.Frame) (ds : List Desc)
      (d : Dyn) → Open (Called ByLibrary f vs) → decision.called ByLibrary f vs (slice_get d.script.replies 0) d.script.waits
      (store_s d) ≡ decision.charged (Calls ByScript f vs) d.script.waits (store_s d) → Ok p left co ws ds d → Stands p left co ws fs ms ds
      → AlikeOutside p left (Invokes ByLibrary f vs) fs ms d
  charged_goes f vs ws co fs ms ds d keeps_open is o stands =
      let a = decision.charged (Calls ByScript f vs) d.script.waits (store_s d) in
      asks_same (Called ByLibrary f vs) a co ws fs ms ds d (called_is ByLibrary f vs _ d.script.waits (store_s d) ∙ is) keeps_open o o.running
      (λ i e. fewer_calls i (omega (arith, e)) (Invokes ByScript f vs) co ws fs ms ds (decides d a)
      (ok_later p i left co ws ds (decides d a) (omega (arith, e)) (ok_kept a refl refl refl o)) (stands_later i (omega (arith, e)) stands))
      _ _ refl refl

  -- the library calls a function
  function_goes : (ws : List Wait) → RaisesGo p left ws → (g : Value) (vs : List Value) → is_function g ≡ true → OutsideGo p left (Invokes ByLibrary g vs) ws
  unfolding is_function
  function_goes ws raises (Closure c) vs e co fs ms ds d o stands = closure_goes ByLibrary c vs ws co fs ms ds d o stands
  function_goes ws raises (Native b) vs e co fs ms ds d o stands =
      ⊎_elim
      (λ x. charged_goes (Native b) vs ws co fs ms ds d x.0 refl o stands)
      (λ x. subst (λ b. AlikeOutside p left (Invokes ByLibrary (Native b) vs) fs ms d) (sym x.0)
      (subst (λ us. AlikeOutside p left (Invokes ByLibrary (Native CoroutineClose) us) fs ms d) (sym x.3)
      (co_laws.calls_close x.1 x.2 ws co fs ms ds d o stands)))
      (closing ByLibrary b vs)
  function_goes ws raises (Host i) vs e co fs ms ds d o stands =
      charged_goes (Host i) vs ws co fs ms ds d (record { script = λ s w. refl; code = λ s w. refl }) refl o stands
  function_goes ws raises (Wrap i) vs e co fs ms ds d o stands = co_laws.wraps ByLibrary i vs ws raises co fs ms ds d o stands
  function_goes ws raises Nil vs e co fs ms ds d o stands = absurd (false_true e)
    where
      false_true : false ≡ true → ⊥
      false_true e = cc
  function_goes ws raises (Boolean b) vs e co fs ms ds d o stands = absurd (false_true e)
    where
      false_true : false ≡ true → ⊥
      false_true e = cc
  function_goes ws raises (Number z) vs e co fs ms ds d o stands = absurd (false_true e)
    where
      false_true : false ≡ true → ⊥
      false_true e = cc
  function_goes ws raises (Text bs) vs e co fs ms ds d o stands = absurd (false_true e)
    where
      false_true : false ≡ true → ⊥
      false_true e = cc
  function_goes ws raises (Table t) vs e co fs ms ds d o stands = absurd (false_true e)
    where
      false_true : false ≡ true → ⊥
      false_true e = cc
  function_goes ws raises (Thread i) vs e co fs ms ds d o stands = absurd (false_true e)
    where
      false_true : false ≡ true → ⊥
      false_true e = cc

  -- what is no function may say what is called in its place, or is refused
  other_goes : (by : Caller) (ws : List Wait) → RaisesGo p left ws → (f : Value) (vs : List Value) → is_function f ≡ false → Open (Called by f vs)
      → ((s : Store) (w : Waits) (r : Option Reply) → decision.called by f vs r w s ≡ decision.by_callee (callee_of s f) vs w s)
      → OutsideGo p left (Invokes by f vs) ws
  other_goes by ws raises f vs no_function keeps_open is co fs ms ds d o stands =
      ⊎_elim
      (λ c.
      let a = decision.now (Calls ByLibrary c.0 ((f ∷ []) ++ vs)) d.script.waits (store_s d) in
      asks_same (Called by f vs) a co ws fs ms ds d (called_is by f vs _ d.script.waits (store_s d) ∙ is (store_s d) d.script.waits _
      ∙ ap (λ x. decision.by_callee x vs d.script.waits (store_s d)) c.2) keeps_open o o.running
      (function_goes ws raises c.0 ((f ∷ []) ++ vs) c.1 co fs ms ds (decides d a) (ok_kept a refl refl refl o) stands)
      _ _ refl refl)
      (λ c.
      let a = decision.fails c.0 d.script.waits (store_s d) in
      asks_same (Called by f vs) a co ws fs ms ds d (called_is by f vs _ d.script.waits (store_s d) ∙ is (store_s d) d.script.waits _
      ∙ ap (λ x. decision.by_callee x vs d.script.waits (store_s d)) c.1) keeps_open o o.running
      (faults_go ws raises c.0 co fs ms ds (decides d a) (ok_kept a refl refl refl o) stands)
      _ _ refl refl)
      (callee_cases (store_s d) f no_function)

  -- the library calls a value
  library_calls : (ws : List Wait) → RaisesGo p left ws → LibraryGoes ws
  unfolding is_function
  library_calls ws raises Nil vs = other_goes ByLibrary ws raises Nil vs refl (record { script = λ s w. refl; code = λ s w. refl }) (λ s w r. refl)
  library_calls ws raises (Boolean b) vs = other_goes ByLibrary ws raises (Boolean b) vs refl (record { script = λ s w. refl; code = λ s w. refl })
      (λ s w r. refl)
  library_calls ws raises (Number z) vs = other_goes ByLibrary ws raises (Number z) vs refl (record { script = λ s w. refl; code = λ s w. refl })
      (λ s w r. refl)
  library_calls ws raises (Text bs) vs = other_goes ByLibrary ws raises (Text bs) vs refl (record { script = λ s w. refl; code = λ s w. refl }) (λ s w r. refl)
  library_calls ws raises (Table t) vs = other_goes ByLibrary ws raises (Table t) vs refl (record { script = λ s w. refl; code = λ s w. refl }) (λ s w r. refl)
  library_calls ws raises (Thread i) vs = other_goes ByLibrary ws raises (Thread i) vs refl (record { script = λ s w. refl; code = λ s w. refl })
      (λ s w r. refl)
  library_calls ws raises f vs = function_goes ws raises f vs refl

  -- ---- what waits innermost is no function: it is asked

  -- errors
  passed_here : (w : Wait) (ws : List Wait) (v : Value) (a : Waited) (co : ℕ) (fs : List source.Activation) (ms : List machine.Frame) (ds : List Desc)
      (d : Dyn) → source_calls.is_function (Some w) ≡ false → machine_calls.is_function (Some w) ≡ false → Ok p left co (w ∷ ws) ds d
      → decision.passed (w ∷ ws) v d.script.waits (store_s d) ≡ a → here a.store ≡ co
      → Later a.charged left (λ l. Follows p l a.answer fs ms (decides d a)) → AlikeOutside p left (Raises v) fs ms d
  passed_here w ws v a co fs ms ds d no_s no_m o is next go =
      asks_same (Passed v) a co (w ∷ ws) fs ms ds d
      (passed_is v _ d.script.waits (store_s d) ∙ ap (λ n. decision.passed (waiting d.script.waits n) v d.script.waits (store_s d)) o.running
      ∙ ap (λ x. decision.passed x v d.script.waits (store_s d)) o.waits ∙ is)
      (record { script = λ s w. refl; code = λ s w. refl }) o next go _ _
      (ap (λ x. source_calls.raise (source_calls.is_function x) v fs d.script) (innermost_s o) ∙ ap (λ b. source_calls.raise b v fs d.script) no_s)
      (ap (λ x. machine_calls.raise p.chunk (machine_calls.is_function x) v ms d.code) (innermost_m o)
      ∙ ap (λ b. machine_calls.raise p.chunk b v ms d.code) no_m)

  -- values
  given_here : (w : Wait) (ws : List Wait) (vs : List Value) (a : Waited) (co : ℕ) (fs : List source.Activation) (ms : List machine.Frame)
      (ds : List Desc) (d : Dyn) → source_calls.is_function (Some w) ≡ false → machine_calls.is_function (Some w) ≡ false → Ok p left co (w ∷ ws) ds d
      → decision.given (w ∷ ws) vs d.script.waits (store_s d) ≡ a → here a.store ≡ co
      → Later a.charged left (λ l. Follows p l a.answer fs ms (decides d a)) → AlikeOutside p left (Hands vs) fs ms d
  given_here w ws vs a co fs ms ds d no_s no_m o is next go =
      asks_same (Given vs) a co (w ∷ ws) fs ms ds d
      (given_is vs _ d.script.waits (store_s d) ∙ ap (λ n. decision.given (waiting d.script.waits n) vs d.script.waits (store_s d)) o.running
      ∙ ap (λ x. decision.given x vs d.script.waits (store_s d)) o.waits ∙ is)
      (record { script = λ s w. refl; code = λ s w. refl }) o next go _ _
      (ap (λ x. source_calls.hand (source_calls.is_function x) vs fs d.script) (innermost_s o) ∙ ap (λ b. source_calls.hand b vs fs d.script) no_s)
      (ap (λ x. machine_calls.hand p.chunk (machine_calls.is_function x) vs ms d.code) (innermost_m o)
      ∙ ap (λ b. machine_calls.hand p.chunk b vs ms d.code) no_m)

  -- a call is over, and these values go on
  abbrev over_with : Dyn → Answer → Waited
  over_with d x = decision.now x (leave d.script.waits (store_s d)) (store_s d)

  -- the handler's error is caught with the value
  raises_handler : (ws : List Wait) → HandsGo p left ws → RaisesGo p left (Handles ∷ ws)
  raises_handler ws hands v co fs ms ds d o stands =
      let a = over_with d (Gives (Boolean false ∷ v ∷ [])) in
      passed_here Handles ws v a co fs ms ds d refl refl o refl o.running
      (hands (Boolean false ∷ v ∷ []) co fs ms ds (decides d a) (ok_less a refl refl o) (stands_below refl stands))

  -- whatever waits innermost, an error goes on where it does below
  raises_more : (ws : List Wait) → HandsGo p left ws → RaisesGo p left ws → (w : Wait) → RaisesGo p left (w ∷ ws)
  raises_more ws hands raises (Runs c) v co _ _ _ d o (function {a = act} {fs = fs} {f = fr} {ms = ms} {ds = ds} go stands) =
      source_goes p (ap (λ x. source_calls.raise (source_calls.is_function x) v (act ∷ fs) d.script) (innermost_s o))
      (target_goes p (ap (λ x. machine_calls.raise p.chunk (machine_calls.is_function x) v (fr ∷ ms) d.code) (innermost_m o))
      (raises v co fs ms ds (leaves d) (ok_leaves o.rest.1 o) stands))
  raises_more ws hands raises (Runs c) v co fs ms ds d o (other e stands) = absurd (true_false e)
    where
      true_false : true ≡ false → ⊥
      true_false e = cc
  raises_more ws hands raises Protects v co fs ms ds d o stands =
      let a = over_with d (Gives (Boolean false ∷ v ∷ [])) in
      passed_here Protects ws v a co fs ms ds d refl refl o refl o.running
      (hands (Boolean false ∷ v ∷ []) co fs ms ds (decides d a) (ok_less a refl refl o) (stands_below refl stands))
  raises_more ws hands raises (Guards h) v co fs ms ds d o stands =
      let a = decision.now (Calls ByLibrary h (v ∷ [])) (await Handles (leave d.script.waits (store_s d)) (store_s d)) (store_s d) in
      passed_here (Guards h) ws v a co fs ms ds d refl refl o refl o.running
      (library_calls (Handles ∷ ws) (raises_handler ws hands) h (v ∷ []) co fs ms ds (decides d a)
      (ok_more {d = leaves d} a Handles refl refl (ok_leaves o.rest o)) (other refl (stands_below refl stands)))
  raises_more ws hands raises Handles v co fs ms ds d o stands = raises_handler ws hands v co fs ms ds d o stands
  raises_more ws hands raises (Resumes true) v co fs ms ds d o stands =
      let a = over_with d (Throws (kept.Raises v kept.Elsewise)) in
      passed_here (Resumes true) ws v a co fs ms ds d refl refl o refl o.running
      (raises v co fs ms ds (decides d a) (ok_less a refl refl o) (stands_below refl stands))
  raises_more ws hands raises (Resumes false) v co fs ms ds d o stands =
      let a = over_with d (Gives (Boolean false ∷ v ∷ [])) in
      passed_here (Resumes false) ws v a co fs ms ds d refl refl o refl o.running
      (hands (Boolean false ∷ v ∷ []) co fs ms ds (decides d a) (ok_less a refl refl o) (stands_below refl stands))
  raises_more ws hands raises (Asks c) v co fs ms ds d o stands =
      let a = over_with d (Throws (kept.Raises v kept.Elsewise)) in
      passed_here (Asks c) ws v a co fs ms ds d refl refl o refl o.running
      (raises v co fs ms ds (decides d a) (ok_less a refl refl o) (stands_below refl stands))

  -- ---- what the library answers

  -- an environment is given, or replaced
  replaced_goes : (r : Option ℕ) (t : TableRef) (ws : List Wait) → HandsGo p left ws → RaisesGo p left ws
      → (co : ℕ) (fs : List source.Activation) (ms : List machine.Frame) (ds : List Desc) (d : Dyn) → Ok p left co ws ds d
      → Stands p left co ws fs ms ds → (s : source.State) (m : machine.State)
      → source_steps.step p.texts s ≡ source_calls.decided (decision.replace_environment r t d.script.waits (store_s d)) fs d.script
      → machine_steps.step p.chunk m ≡ machine_calls.decided p.chunk (decision.replace_environment r t d.script.waits (store_s d)) ms d.code
      → Alike p left s m
  replaced_goes None t ws hands raises co fs ms ds d o stands s m e f =
      let a = decision.fails FixedEnvironment d.script.waits (store_s d) in
      decided_same p a co left fs ms d o.running o.running o.base (faults_go ws raises _ co fs ms ds (decides d a) (ok_kept a refl refl refl o) stands) s m e f
  replaced_goes (Some c) t ws hands raises co fs ms ds d o stands s m e f =
      let a = decision.noted t (Gives (Closure c ∷ [])) d.script.waits (with_environment (store_s d) c t) in
      decided_same p a co left fs ms d o.running o.running o.base (hands (Closure c ∷ []) co fs ms ds (decides d a) (ok_kept a refl refl refl o) stands) s m e f

  -- whatever it is
  answer_goes : (x : LibAnswer) (ws : List Wait) → HandsGo p left ws → RaisesGo p left ws
      → (co : ℕ) (fs : List source.Activation) (ms : List machine.Frame) (ds : List Desc) (d : Dyn) → Fair p left co x d → Ok p left co ws ds d
      → Stands p left co ws fs ms ds → (s : source.State) (m : machine.State)
      → source_steps.step p.texts s ≡ source_calls.decided (by_library x d.script.waits (store_s d)) fs d.script
      → machine_steps.step p.chunk m ≡ machine_calls.decided p.chunk (by_library x d.script.waits (store_s d)) ms d.code → Alike p left s m
  answer_goes (Answers vs st) ws hands raises co fs ms ds d fair o stands s m e f =
      let a = decision.now (Gives vs) (for_all st d.script.waits) st in
      let more : List (List Wait) = replicate (length st.coroutines - length d.script.waits) [] in
      let kept_fair = fair.answers vs st refl in
      decided_same p a co left fs ms d o.running kept_fair.0 o.base
      (hands vs co fs ms ds (decides d a)
      (ok_decides a ws ds kept_fair.0 (omega (arith, o.room, length-append d.script.waits more))
      (get_or-append d.script.waits more [] co o.room ∙ o.waits) o.rest kept_fair.1 o) stands) s m e f
  answer_goes (PrintsLine line) ws hands raises co fs ms ds d fair o stands s m e f =
      let a = by_library (PrintsLine line) d.script.waits (store_s d) in
      decided_same p a co left fs ms d o.running o.running o.base (hands [] co fs ms ds (decides d a) (ok_kept a refl refl refl o) stands) s m e f
  answer_goes (ErrsWith x) ws hands raises co fs ms ds d fair o stands s m e f =
      let a = by_library (ErrsWith x) d.script.waits (store_s d) in
      decided_same p a co left fs ms d o.running o.running o.base (faults_go ws raises x co fs ms ds (decides d a) (ok_kept a refl refl refl o) stands) s m e f
  answer_goes (RaisesValue v origin) ws hands raises co fs ms ds d fair o stands s m e f =
      let a = by_library (RaisesValue v origin) d.script.waits (store_s d) in
      decided_same p a co left fs ms d o.running o.running o.base (raises v co fs ms ds (decides d a) (ok_kept a refl refl refl o) stands) s m e f
  answer_goes (HaltsWith stop) ws hands raises co fs ms ds d fair o stands s m e f =
      decided_same p (by_library (HaltsWith stop) d.script.waits (store_s d)) co left fs ms d o.running o.running o.base tt s m e f
  answer_goes (CallsBack g vs w) ws hands raises co fs ms ds d fair o stands s m e f =
      let a = by_library (CallsBack g vs w) d.script.waits (store_s d) in
      decided_same p a co left fs ms d o.running o.running o.base
      (library_calls (w ∷ ws) (raises_more ws hands raises w) g vs co fs ms ds (decides d a) (ok_more a w refl refl o)
      (other (fair.waits g vs w refl) stands)) s m e f
  answer_goes (Moves (Resume i args)) ws hands raises co fs ms ds d fair o stands s m e f =
      co_laws.resumes i args ws hands raises co fs ms ds d o stands s m e f
  answer_goes (Moves (Yield vs)) ws hands raises co fs ms ds d fair o stands s m e f = co_laws.yields vs ws raises co fs ms ds d o stands s m e f
  answer_goes (Moves (Close i)) ws hands raises co fs ms ds d fair o stands s m e f = absurd (fair.closes i refl)
  answer_goes (OnEnvironment (Reads x)) ws hands raises co fs ms ds d fair o stands s m e f =
      let a = by_library (OnEnvironment (Reads x)) d.script.waits (store_s d) in
      decided_same p a co left fs ms d o.running o.running o.base (hands _ co fs ms ds (decides d a) (ok_kept a refl refl refl o) stands) s m e f
  answer_goes (OnEnvironment (Replaces x t)) ws hands raises co fs ms ds d fair o stands s m e f =
      replaced_goes (decision.function_meant x (waiting d.script.waits (here (store_s d)))) t ws hands raises co fs ms ds d o stands s m e f

  -- values go on where they do below
  hands_more : (ws : List Wait) → HandsGo p left ws → RaisesGo p left ws → (w : Wait) → HandsGo p left (w ∷ ws)
  hands_more ws hands raises (Runs c) vs co _ _ _ d o (function {a = act} {fs = fs} {f = fr} {ms = ms} {ds = ds} go stands) =
      source_goes p (ap (λ x. source_calls.hand (source_calls.is_function x) vs (act ∷ fs) d.script) (innermost_s o))
      (target_goes p (ap (λ x. machine_calls.hand p.chunk (machine_calls.is_function x) vs (fr ∷ ms) d.code) (innermost_m o))
      (go left (omega arith) vs d o))
  hands_more ws hands raises (Runs c) vs co fs ms ds d o (other e stands) = absurd (true_false e)
    where
      true_false : true ≡ false → ⊥
      true_false e = cc
  hands_more ws hands raises Protects vs co fs ms ds d o stands =
      let a = over_with d (Gives (Boolean true ∷ vs)) in
      given_here Protects ws vs a co fs ms ds d refl refl o refl o.running
      (hands (Boolean true ∷ vs) co fs ms ds (decides d a) (ok_less a refl refl o) (stands_below refl stands))
  hands_more ws hands raises (Guards h) vs co fs ms ds d o stands =
      let a = over_with d (Gives (Boolean true ∷ vs)) in
      given_here (Guards h) ws vs a co fs ms ds d refl refl o refl o.running
      (hands (Boolean true ∷ vs) co fs ms ds (decides d a) (ok_less a refl refl o) (stands_below refl stands))
  hands_more ws hands raises Handles vs co fs ms ds d o stands =
      let us = Boolean false ∷ decision.first_value vs ∷ [] in
      let a = over_with d (Gives us) in
      given_here Handles ws vs a co fs ms ds d refl refl o refl o.running
      (hands us co fs ms ds (decides d a) (ok_less a refl refl o) (stands_below refl stands))
  hands_more ws hands raises (Resumes true) vs co fs ms ds d o stands =
      let a = over_with d (Gives vs) in
      given_here (Resumes true) ws vs a co fs ms ds d refl refl o refl o.running
      (hands vs co fs ms ds (decides d a) (ok_less a refl refl o) (stands_below refl stands))
  hands_more ws hands raises (Resumes false) vs co fs ms ds d o stands =
      let a = over_with d (Gives (Boolean true ∷ vs)) in
      given_here (Resumes false) ws vs a co fs ms ds d refl refl o refl o.running
      (hands (Boolean true ∷ vs) co fs ms ds (decides d a) (ok_less a refl refl o) (stands_below refl stands))
  hands_more ws hands raises (Asks c) vs co fs ms ds d o stands =
      let x = go_on c (decision.first_value vs) (store_s d) in
      let o' = ok_leaves o.rest o in
      answer_goes x ws hands raises co fs ms ds (leaves d) (co_laws.continues c (decision.first_value vs) co ws ds (leaves d) o') o'
      (stands_below refl stands) _ _
      (ap (λ x. source_calls.hand (source_calls.is_function x) vs fs d.script) (innermost_s o)
      ∙ ap (λ b. source_calls.decided b fs d.script) (given_is vs (slice_get d.script.replies 0) d.script.waits (store_s d)
      ∙ ap (λ n. decision.given (waiting d.script.waits n) vs d.script.waits (store_s d)) o.running
      ∙ ap (λ y. decision.given y vs d.script.waits (store_s d)) o.waits))
      (ap (λ x. machine_calls.hand p.chunk (machine_calls.is_function x) vs ms d.code) (innermost_m o)
      ∙ ap (λ b. machine_calls.decided p.chunk b ms d.code) (asked_alike p (Given vs) d o.base
      ∙ given_is vs (slice_get d.script.replies 0) d.script.waits (store_s d)
      ∙ ap (λ n. decision.given (waiting d.script.waits n) vs d.script.waits (store_s d)) o.running
      ∙ ap (λ y. decision.given y vs d.script.waits (store_s d)) o.waits))

  -- ---- nothing waits: the main function's run ends

  nothing_s : {co : ℕ} {ds : List Desc} {d : Dyn} → Ok p left co [] ds d → kept.innermost d.script.waits (store_s d) ≡ None
  nothing_s {d = d} o = ap (λ n. kept.first_of (waiting d.script.waits n)) o.running ∙ ap kept.first_of o.waits

  nothing_m : {co : ℕ} {ds : List Desc} {d : Dyn} → Ok p left co [] ds d → kept.innermost d.code.waits (store_m d) ≡ None
  nothing_m {d = d} o = ap (λ v. kept.innermost v (store_m d)) (sym o.base.waits) ∙ ap (λ s. kept.innermost d.script.waits s) (sym o.base.store) ∙ nothing_s o

  hands_last : HandsGo p left []
  hands_last vs co fs ms ds d o stands = by_running (store_s d).running refl
    where
      by_running : (r : Option ℕ) → (store_s d).running ≡ r → AlikeOutside p left (Hands vs) fs ms d
      by_running (Some i) e = co_laws.ends i vs co fs ms ds d e o stands
      by_running None e =
          let a = decision.now (kept.Finishes vs) d.script.waits (store_s d) in
          asks_same (Given vs) a co [] fs ms ds d
          (given_is vs _ d.script.waits (store_s d) ∙ ap (λ n. decision.given (waiting d.script.waits n) vs d.script.waits (store_s d)) o.running
          ∙ ap (λ x. decision.given x vs d.script.waits (store_s d)) o.waits
          ∙ ap (λ r. decision.finish r vs d.script.waits (store_s d)) e)
          (record { script = λ s w. refl; code = λ s w. refl }) o o.running tt _ _
          (ap (λ x. source_calls.hand (source_calls.is_function x) vs fs d.script) (nothing_s o))
          (ap (λ x. machine_calls.hand p.chunk (machine_calls.is_function x) vs ms d.code) (nothing_m o))

  raises_last : RaisesGo p left []
  raises_last v co fs ms ds d o stands = by_running (store_s d).running refl
    where
      by_running : (r : Option ℕ) → (store_s d).running ≡ r → AlikeOutside p left (Raises v) fs ms d
      by_running (Some i) e = co_laws.dies i v co fs ms ds d e o stands
      by_running None e =
          let a = decision.now (kept.Dies v) d.script.waits (store_s d) in
          asks_same (Passed v) a co [] fs ms ds d
          (passed_is v _ d.script.waits (store_s d) ∙ ap (λ n. decision.passed (waiting d.script.waits n) v d.script.waits (store_s d)) o.running
          ∙ ap (λ x. decision.passed x v d.script.waits (store_s d)) o.waits
          ∙ ap (λ r. decision.die r v d.script.waits (store_s d)) e)
          (record { script = λ s w. refl; code = λ s w. refl }) o o.running tt _ _
          (ap (λ x. source_calls.raise (source_calls.is_function x) v fs d.script) (nothing_s o))
          (ap (λ x. machine_calls.raise p.chunk (machine_calls.is_function x) v ms d.code) (nothing_m o))

  -- values and errors go on, whatever waits
  all_go : (ws : List Wait) → HandsGo p left ws × RaisesGo p left ws
  all_go [] = (hands_last, raises_last)
  all_go (w ∷ ws) = let g = all_go ws in (hands_more ws g.0 g.1 w, raises_more ws g.0 g.1 w)

  -- ---- a script calls

  -- a host function: what the outside answers is shown
  replied_goes : (path : Bytes) (args : List Plain) (r : Option Reply) (ws : List Wait) (co : ℕ) (fs : List source.Activation)
      (ms : List machine.Frame) (ds : List Desc) (d : Dyn) → Ok p left co ws ds d → Stands p left co ws fs ms ds
      → (s : source.State) (m : machine.State) → source_steps.step p.texts s ≡ source_calls.decided
      (decision.by_reply path args r d.script.waits (store_s d)) fs d.script
      → machine_steps.step p.chunk m ≡ machine_calls.decided p.chunk (decision.by_reply path args r d.script.waits (store_s d)) ms d.code
      → Alike p left s m
  replied_goes path args None ws co fs ms ds d o stands s m e f =
      let a = decision.by_reply path args None d.script.waits (store_s d) in
      decided_same p a co left fs ms d o.running o.running o.base (faults_go ws (all_go ws).1 _ co fs ms ds (decides d a)
      (ok_kept a refl refl refl o) stands) s m e f
  replied_goes path args (Some (answered.Values vs)) ws co fs ms ds d o stands s m e f =
      let a = decision.by_reply path args (Some (answered.Values vs)) d.script.waits (store_s d) in
      decided_same p a co left fs ms d o.running o.running o.base ((all_go ws).0 _ co fs ms ds (decides d a) (ok_kept a refl refl refl o) stands) s m e f
  replied_goes path args (Some (answered.Raise v)) ws co fs ms ds d o stands s m e f =
      let a = decision.by_reply path args (Some (answered.Raise v)) d.script.waits (store_s d) in
      decided_same p a co left fs ms d o.running o.running o.base ((all_go ws).1 _ co fs ms ds (decides d a) (ok_kept a refl refl refl o) stands) s m e f

  host_goes : (path : Bytes) (x : decision.PlainOrNot) (r : Option Reply) (ws : List Wait) (co : ℕ) (fs : List source.Activation)
      (ms : List machine.Frame) (ds : List Desc) (d : Dyn) → Ok p left co ws ds d → Stands p left co ws fs ms ds
      → (s : source.State) (m : machine.State) → source_steps.step p.texts s ≡ source_calls.decided
      (decision.host_call path x r d.script.waits (store_s d)) fs d.script
      → machine_steps.step p.chunk m ≡ machine_calls.decided p.chunk (decision.host_call path x r d.script.waits (store_s d)) ms d.code
      → Alike p left s m
  host_goes path (Fine args) r ws co fs ms ds d o stands s m e f = replied_goes path args r ws co fs ms ds d o stands s m e f
  host_goes path (Err x) r ws co fs ms ds d o stands s m e f =
      let a = decision.host_call path (Err x) r d.script.waits (store_s d) in
      decided_same p a co left fs ms d o.running o.running o.base (faults_go ws (all_go ws).1 _ co fs ms ds (decides d a)
      (ok_kept a refl refl refl o) stands) s m e f

  -- what both decide where a script calls a function
  script_row_s : (f : Value) (vs : List Value) (fs : List source.Activation) (d : Dyn) → Open (Called ByScript f vs)
      → source_steps.step p.texts (source_calls.state_with (source.Invoke ByScript f vs) fs d.script) ≡ source_calls.decided
      (decision.called ByScript f vs (slice_get d.script.replies 0) d.script.waits (store_s d)) fs d.script
  script_row_s f vs fs d keeps_open =
      ap (λ x. source_calls.decided x fs (source_calls.without_closed (Called ByScript f vs) x.store d.script))
      (called_is ByScript f vs (slice_get d.script.replies 0) d.script.waits (store_s d))
      ∙ ap (λ w. source_calls.decided (decision.called ByScript f vs (slice_get d.script.replies 0) d.script.waits (store_s d)) fs w)
      (keeps_open.script _ d.script)

  script_row_m : {co : ℕ} {ws : List Wait} {ds : List Desc} (f : Value) (vs : List Value) (ms : List machine.Frame) (d : Dyn)
      → Open (Called ByScript f vs) → Ok p left co ws ds d → machine_steps.step p.chunk
      (machine_calls.state_with (machine.Invoke ByScript f vs) ms d.code) ≡ machine_calls.decided p.chunk
      (decision.called ByScript f vs (slice_get d.script.replies 0) d.script.waits (store_s d)) ms d.code
  script_row_m f vs ms d keeps_open o =
      ap (λ x. machine_calls.decided p.chunk x ms (machine_calls.without_closed (Called ByScript f vs) x.store d.code))
      (asked_alike p (Called ByScript f vs) d o.base ∙ called_is ByScript f vs (slice_get d.script.replies 0) d.script.waits (store_s d))
      ∙ ap (λ w. machine_calls.decided p.chunk (decision.called ByScript f vs (slice_get d.script.replies 0) d.script.waits (store_s d)) ms w)
      (keeps_open.code _ d.code)

  script_calls : (f : Value) (vs : List Value) (ws : List Wait) → OutsideGo p left (Invokes ByScript f vs) ws
  unfolding is_function
  script_calls (Closure c) vs ws co fs ms ds d o stands = closure_goes ByScript c vs ws co fs ms ds d o stands
  script_calls (Wrap i) vs ws co fs ms ds d o stands = co_laws.wraps ByScript i vs ws (all_go ws).1 co fs ms ds d o stands
  script_calls (Native b) vs ws co fs ms ds d o stands =
      ⊎_elim
      (λ x. answer_goes (lib b vs (store_s d)) ws (all_go ws).0 (all_go ws).1 co fs ms ds d (co_laws.library b vs x.1 co ws ds d o) o stands _ _
      (script_row_s (Native b) vs fs d x.0) (script_row_m (Native b) vs ms d x.0 o))
      (λ x. subst (λ b. AlikeOutside p left (Invokes ByScript (Native b) vs) fs ms d) (sym x.0)
      (subst (λ us. AlikeOutside p left (Invokes ByScript (Native CoroutineClose) us) fs ms d) (sym x.3)
      (co_laws.closes x.1 x.2 ws (all_go ws).0 (all_go ws).1 co fs ms ds d o stands)))
      (closing ByScript b vs)
  script_calls (Host i) vs ws co fs ms ds d o stands =
      let keeps_open : Open (Called ByScript (Host i) vs) = record { script = λ s w. refl; code = λ s w. refl } in
      host_goes (slice_index_or (store_s d).globals.hosts i []) (decision.plain_arguments 0 vs)
      (slice_get d.script.replies 0) ws co fs ms ds d o stands _ _ (script_row_s (Host i) vs fs d keeps_open)
      (script_row_m (Host i) vs ms d keeps_open o)
  script_calls Nil vs ws co fs ms ds d o stands = other_goes ByScript ws (all_go ws).1 Nil vs refl
      (record { script = λ s w. refl; code = λ s w. refl }) (λ s w r. refl) co fs ms ds d o stands
  script_calls (Boolean b) vs ws co fs ms ds d o stands = other_goes ByScript ws (all_go ws).1 (Boolean b) vs refl
      (record { script = λ s w. refl; code = λ s w. refl }) (λ s w r. refl) co fs ms ds d o stands
  script_calls (Number z) vs ws co fs ms ds d o stands = other_goes ByScript ws (all_go ws).1 (Number z) vs refl
      (record { script = λ s w. refl; code = λ s w. refl }) (λ s w r. refl) co fs ms ds d o stands
  script_calls (Text bs) vs ws co fs ms ds d o stands = other_goes ByScript ws (all_go ws).1 (Text bs) vs refl
      (record { script = λ s w. refl; code = λ s w. refl }) (λ s w r. refl) co fs ms ds d o stands
  script_calls (Table t) vs ws co fs ms ds d o stands = other_goes ByScript ws (all_go ws).1 (Table t) vs refl
      (record { script = λ s w. refl; code = λ s w. refl }) (λ s w r. refl) co fs ms ds d o stands
  script_calls (Thread i) vs ws co fs ms ds d o stands = other_goes ByScript ws (all_go ws).1 (Thread i) vs refl
      (record { script = λ s w. refl; code = λ s w. refl }) (λ s w r. refl) co fs ms ds d o stands

  -- calls, values and errors go along with so many turns left, where functions that are entered do with fewer
  pub calls_go : CallsGo p left
  calls_go (Invokes ByScript f vs) co ws fs ms ds d o stands = script_calls f vs ws co fs ms ds d o stands
  calls_go (Invokes ByLibrary f vs) co ws fs ms ds d o stands = library_calls ws (all_go ws).1 f vs co fs ms ds d o stands
  calls_go (Hands vs) co ws fs ms ds d o stands = (all_go ws).0 vs co fs ms ds d o stands
  calls_go (Faults e) co ws fs ms ds d o stands = faults_go ws (all_go ws).1 e co fs ms ds d o stands
  calls_go (Raises v) co ws fs ms ds d o stands = (all_go ws).1 v co fs ms ds d o stands
