-- What the machine does with an answer of the library.
use Rattle.std.proofs.Common.{◌≡◌, ℕ, ◌-◌, nat_eq, eq-eqb, true, List, [], ◌∷◌, ◌++◌, map, replicate, reverse, length, Result, Ok, Err, IfOk, refl, sym, ◌∙◌, ap, arith, append-nil}
use Rattle.std.proofs.lemmas.List.{length-map, length-replicate}
use Rattle.std.specs.Prelude.{option_map}
use Rattle.value_model.specs.Answers as model
use Rattle.value_model.specs.Library.{lib}
use Rattle.value_model.specs.Parts.{meant, meant_error}
use Rattle.value_model.specs.Store.{Store, here, place_of_running}
use Rattle.value_model.specs.Values as m
use Rattle.value_model.specs.Values.{Bytes}
use Rattle.value_model.specs.Waits as wait
use Rattle.value_model.specs.Waits.{Waits, Waited, Case, Called, ByScript, ByLibrary, Stopped, Asks, await}
use Rattle.value_model.specs.Waiting.{wait as waited, by_library, for_all}
use Rattle.value_model.specs.declared.builtin.Builtin.{Builtin}
use Rattle.value_model.specs.declared.builtin.Builtin.TheVariants as builtin
use Rattle.value_model.specs.declared.event.EventKind.TheVariants as event
use Rattle.value_model.specs.declared.event.Reply.{Reply}
use Rattle.value_model.specs.declared.value.Value.{Value}
use Rattle.bounded_runs.specs.Runs.{Goes, Shows, Ends}
use Rattle.value_arena.specs.Arenas.{objects_of}
use Rattle.luau_tables.specs.Answers.{Answered, meant_answer, meant_continue, Stays, raised_by}
use Rattle.luau_tables.specs.Part.{place_of_thread, coroutine_of}
use Rattle.luau_tables.specs.Worlds.{Keeps, store_in}
use Rattle.luau_tables.specs.Part as parts
use Rattle.luau_tables.specs.declared.answer.LibAnswer.{LibAnswer}
use Rattle.luau_tables.specs.declared.answer.LibAnswer.TheVariants.{Values, Print, RunError, Raise, Stop, CallBack}
use Rattle.luau_tables.specs.declared.globals.LibWorld.{LibWorld}
use Rattle.call_frames.specs.Stacks.{StackView}
use Rattle.op_words.specs.Chunks.{ChunkOf}
use Rattle.machine_meaning.specs.States as machine
use Rattle.machine_meaning.specs.States.{Focus, Frame, State, World, Invoke, Hand, Fault}
use Rattle.machine_meaning.specs.Calls.{decided, follows, to, switched, world_after, without_closed}
use Rattle.machine_meaning.specs.Moves.{Step, store_of, with_store}
use Rattle.machine_meaning.specs.Steps.{step}
use Rattle.machine_code.specs.declared.code.Code.{Code}
use Rattle.machine_world.specs.Functions.{wait_of}
use Rattle.machine_world.specs.Parts.{part, waits_in, awaited}
use Rattle.machine_world.specs.Sound.{IsMachine}
use Rattle.machine_library.specs.Homes.{is_library}
use Rattle.machine_library.specs.Leads.{KnowsImports, Leads, LeadsTo, LedTo, IsNext}
use Rattle.machine_library.specs.declared.next.Next.{Next}
use Rattle.machine_library.proofs.Kept.{part_kept, knows}

-- ---- what is decided, over plain variables

-- the coroutine that runs goes on
pub decided_here : (chunk : ChunkOf) (a : Waited) (fs : List Frame) (w : World) → here a.store ≡ here (store_of w) →
    decided chunk a fs w ≡ follows chunk a.answer (to a.charged a.event) fs (world_after a w)
decided_here chunk a fs w e =
    ap (λ b. let there = switched b (here (store_of w)) (here a.store) fs (world_after a w) in follows chunk a.answer (to a.charged a.event) there.0 there.1)
    (ap (nat_eq (here (store_of w))) e ∙ eq-eqb (here (store_of w)) (here (store_of w)) refl)

-- what an answer leads to, from the functions and the world behind it
abbrev pub led_to : (texts : List Bytes) → LibAnswer → (given : List Value) → List Frame → World → Step
led_to texts Values vs fs w = Goes [] (record { focus = Hand (map (meant texts) vs); functions = fs; world = w })
led_to texts (Print line) vs fs w = Shows [] (event.Print line) (record { focus = Hand []; functions = fs; world = w })
led_to texts (RunError e) vs fs w = Goes [] (record { focus = Fault (meant_error texts e); functions = fs; world = w })
led_to texts (Raise v) vs fs w = Goes [] (record { focus = machine.Raise (meant texts v); functions = fs; world = w })
led_to texts (Stop stop) vs fs w = Ends [] (Stopped stop)
led_to texts (CallBack f args then) vs fs w =
    Goes [] (awaited (Asks (meant_continue texts then)) (record { focus = Invoke ByLibrary (meant texts f) (map (meant texts) args.items); functions = fs; world = w }))

module _ (chunk : ChunkOf) (texts : List Bytes) (origin : wait.Origin) (given : List Value) (st : Store) (ws : Waits) (fs : List Frame) (w : World)
    (all : for_all st ws ≡ ws) (same : here st ≡ here (store_of w)) where
  pub decided_by : (a : LibAnswer) → Stays a given (store_of w) st →
      decided chunk (by_library (meant_answer texts origin a given st) ws (store_of w)) fs w ≡ led_to texts a given fs (record (with_store st w) { waits = ws })
  unfolding meant_answer
  decided_by Values stays =
      decided_here chunk (by_library (meant_answer texts origin Values given st) ws (store_of w)) fs w same
      ∙ ap (λ l. Goes [] (record { focus = Hand (map (meant texts) given); functions = fs; world = record (with_store st w) { waits = l } })) all
  decided_by (Print line) stays =
      decided_here chunk (by_library (meant_answer texts origin (Print line) given st) ws (store_of w)) fs w refl
      ∙ ap (λ s. led_to texts (Print line) given fs (record (with_store s w) { waits = ws })) (sym stays.1)
  decided_by (RunError e) stays =
      decided_here chunk (by_library (meant_answer texts origin (RunError e) given st) ws (store_of w)) fs w refl
      ∙ ap (λ s. led_to texts (RunError e) given fs (record (with_store s w) { waits = ws })) (sym stays.1)
  decided_by (Raise v) stays =
      decided_here chunk (by_library (meant_answer texts origin (Raise v) given st) ws (store_of w)) fs w refl
      ∙ ap (λ s. led_to texts (Raise v) given fs (record (with_store s w) { waits = ws })) (sym stays.1)
  decided_by (Stop stop) stays =
      decided_here chunk (by_library (meant_answer texts origin (Stop stop) given st) ws (store_of w)) fs w refl
  decided_by (CallBack f args then) stays =
      decided_here chunk (by_library (meant_answer texts origin (CallBack f args then) given st) ws (store_of w)) fs w refl
      ∙ ap (λ s. led_to texts (CallBack f args then) given fs (record (with_store s w) { waits = ws })) (sym stays.1)

-- ---- the machine of a script

-- each coroutine has its list
no_more : {A : Type 0} (n k : ℕ) (x d : A) → k ≡ n → (x ∷ replicate (n - 1) d) ++ replicate (k - length (x ∷ replicate (n - 1) d)) d ≡ x ∷ replicate (n - 1) d
no_more n k x d e =
    let none : k - length (x ∷ replicate (n - 1) d) ≡ 0 = omega (arith, e, length-replicate (n - 1) d) in
    ap (λ j. (x ∷ replicate (n - 1) d) ++ replicate j d) none ∙ append-nil (x ∷ replicate (n - 1) d)

pub lists_there : (w w' : LibWorld) (s : StackView) → Keeps w w' → for_all (store_in w') (waits_in w s.frames) ≡ waits_in w s.frames
unfolding parts.store_of
lists_there w w' s keeps =
    no_more (length (objects_of w.arena w.owner).threads) (length (store_in w').coroutines) (map (wait_of w.names) (reverse s.frames)) []
    (length-map (objects_of w'.arena w'.owner).threads (coroutine_of w'.names) ∙ ap (λ o. length (objects_of w'.arena o).threads) keeps.owner ∙ ap length keeps.arena.threads)

-- the coroutine that runs is the same
pub runs_on : (w w' : LibWorld) → Keeps w w' → here (store_in w') ≡ here (store_in w)
unfolding parts.store_of
runs_on w w' keeps = ap (λ r. place_of_running (option_map place_of_thread r)) keeps.arena.running

pub leads_of : (m : Step) (a : LibAnswer) (given : List Value) (w : LibWorld) (code : Code) (s : StackView) (replies : List Reply) (fs : List Frame) (u : World) (before after : Store) →
    ((x : Focus) → part w code s x replies ≡ record { focus = x; functions = fs; world = u }) → Stays a given before after → m ≡ led_to w.names a given fs u → Leads m a given w code s replies
leads_of m Values given w code s replies fs u before after is stays e = e ∙ sym (ap (λ t. Goes [] t) (is (Hand (map (meant w.names) given))))
leads_of m (Print line) given w code s replies fs u before after is stays e = (stays.0, e ∙ sym (ap (λ t. Shows [] (event.Print line) t) (is (Hand []))))
leads_of m (RunError r) given w code s replies fs u before after is stays e = (stays.0, e ∙ sym (ap (λ t. Goes [] t) (is (Fault (meant_error w.names r)))))
leads_of m (Raise v) given w code s replies fs u before after is stays e = (stays.0, e ∙ sym (ap (λ t. Goes [] t) (is (machine.Raise (meant w.names v)))))
leads_of m (Stop stop) given w code s replies fs u before after is stays e = (stays.0, e)
leads_of m (CallBack f args then) given w code s replies fs u before after is stays e =
    (stays.0, e ∙ sym (ap (λ t. Goes [] (awaited (Asks (meant_continue w.names then)) t)) (is (Invoke ByLibrary (meant w.names f) (map (meant w.names) args.items)))))

-- a function that the library answers closes no coroutine
not_closed : (f : Builtin) (vs : List m.Value) (st : Store) (w : World) → is_library f ≡ true → without_closed (Called ByScript (m.Native f) vs) st w ≡ w
not_closed builtin.CoroutineClose vs st w is = absurd (cc)
not_closed _ vs st w is = refl

pub led_call : (chunk : ChunkOf) (w w' : LibWorld) (code : Code) (s : StackView) (replies : List Reply) (f : Builtin) (vs : List m.Value) (rs rs' : List Value) (a : LibAnswer) → is_library f ≡ true → Keeps w w' →
    IsMachine w s → KnowsImports w.names code → (h : Answered w w' rs rs' a (raised_by f vs) (lib f vs (store_in w))) → Leads (step chunk (part w code s (Invoke ByScript (m.Native f) vs) replies)) a h.given w' code s replies
unfolding part waited
led_call chunk w w' code s replies f vs rs rs' a is keeps sound known h =
    let t = part w code s machine.Run replies in
    let fs : List Frame = t.functions in
    let u : World = t.world in
    let row = lib f vs (store_in w) in
    leads_of (step chunk (part w code s (Invoke ByScript (m.Native f) vs) replies)) a h.given w' code s replies fs (with_store (store_in w') u) (store_in w) (store_in w')
    (λ x. part_kept w w' code s x replies keeps sound (knows w code s sound known)) h.stays
    (ap (λ v. decided chunk (by_library row u.waits (store_of u)) fs v) (not_closed f vs (by_library row u.waits (store_of u)).store u is)
    ∙ ap (λ r. decided chunk (by_library r u.waits (store_of u)) fs u) (sym h.meant)
    ∙ decided_by chunk w'.names (raised_by f vs) h.given (store_in w') u.waits fs u (lists_there w w' s keeps) (runs_on w w' keeps) a h.stays)

-- ---- what is done next, by what the answer leads to

pub both_ok : {A E : Type 0} (P Q R : A → Type 0) (q : Result A E) → ((x : A) → P x → Q x → R x) → IfOk q P → IfOk q Q → IfOk q R
both_ok P Q R (Ok x) f h k = f x h k
both_ok P Q R (Err e) f h k = tt

pub led_by : (w w1 w' : LibWorld) (code : Code) (s s1 s' : StackView) (rs rs' : List Value) (origin : wait.Origin) (row : model.LibAnswer) (a : LibAnswer) (next : Next) (x : Focus) →
    (h : Answered w1 w' rs rs' a origin row) → ((chunk : ChunkOf) (replies : List Reply) → Leads (step chunk (part w code s x replies)) a h.given w' code s1 replies) →
    ((move : Step) (given : List Value) (replies : List Reply) → Leads move a given w' code s1 replies → LeadsTo move next given w' code s' replies) → IsNext w' next →
    LedTo w w' code s s' rs rs' next x
led_by w w1 w' code s s1 s' rs rs' origin row a next x h leads follows usable =
    record {
      given = h.given;
      appended = h.appended;
      leads = λ chunk replies. follows (step chunk (part w code s x replies)) h.given replies (leads chunk replies);
      usable = usable;
      values = h.values;
    }
