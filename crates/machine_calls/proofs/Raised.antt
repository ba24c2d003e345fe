-- Raised values, and run errors.
use Rattle.std.proofs.Common.{◌≡◌, refl, sym, ap, ◌∙◌, false, List, [], ◌∷◌, map, Some, None}
use Rattle.value_model.specs.Parts.{meant}
use Rattle.value_model.specs.Values as m
use Rattle.value_model.specs.Waits as wait
use Rattle.value_model.specs.Waits.{Wait, waiting, leave, await, Gives, Throws, Raises, Elsewise, first_of}
use Rattle.value_model.specs.Waiting as deciding
use Rattle.value_model.specs.Store as store
use Rattle.value_model.specs.declared.event.Reply.{Reply}
use Rattle.value_model.specs.declared.value.Value.{Value}
use Rattle.value_model.specs.declared.value.Value.TheVariants as value
use Rattle.bounded_runs.specs.Runs.{Goes}
use Rattle.luau_tables.specs.Worlds.{store_in}
use Rattle.luau_tables.specs.declared.globals.LibWorld.{LibWorld}
use Rattle.call_frames.specs.declared.frame.ReturnKind.{ReturnKind}
use Rattle.call_frames.specs.declared.frame.ReturnKind.TheVariants as kind
use Rattle.call_frames.specs.Stacks.{StackView}
use Rattle.call_frames.specs.Cells.{innermost}
use Rattle.op_words.specs.Chunks.{ChunkOf}
use Rattle.machine_meaning.specs.States as machine
use Rattle.machine_meaning.specs.States.{Frame, World}
use Rattle.machine_meaning.specs.Moves.{store_of}
use Rattle.machine_meaning.specs.Calls.{decided, raise, is_function}
use Rattle.machine_meaning.specs.Steps.{step}
use Rattle.machine_code.specs.declared.code.Code.{Code}
use Rattle.machine_world.specs.Functions.{wait_by}
use Rattle.machine_world.specs.Parts.{part, left, over, awaited, Becomes}
use Rattle.machine_world.specs.Sound.{Runs, IsMachine}
use Rattle.machine_calls.specs.Waiting.{LibraryAsks, Catches, CatchesIn, IsCaught}
use Rattle.machine_calls.specs.Moving.{Leads}
use Rattle.machine_calls.specs.declared.focus.Caller.TheVariants as caller
use Rattle.machine_calls.specs.declared.focus.Focus.TheVariants as focus
use Rattle.machine_calls.specs.declared.focus.Led.TheVariants as led
use Rattle.machine_calls.proofs.Asking.{decided_here}
use Rattle.machine_calls.proofs.Waited.{those, shared, none_runs, waiting_in, others, waits_none, waits_function, waits_library}
use Rattle.machine_calls.proofs.Handed.{goes_over, truth}

-- what an error passes
passed_by : (chunk : ChunkOf) (u : m.Value) (fs : List Frame) (v : World) (ks : List Wait) → waiting v.waits (store.here (store_of v)) ≡ ks → is_function (first_of ks) ≡ false → raise chunk (is_function (wait.innermost v.waits (store_of v))) u fs v ≡ decided chunk (deciding.passed ks u v.waits (store_of v)) fs v
unfolding deciding.wait
passed_by chunk u fs v ks e other =
    ap (λ l. raise chunk (is_function (first_of l)) u fs v) e
    ∙ ap (λ b. raise chunk b u fs v) other
    ∙ ap (λ l. decided chunk (deciding.passed l u v.waits (store_of v)) fs v) e

module _ (chunk : ChunkOf) (w : LibWorld) (code : Code) (s : StackView) (is : IsMachine w s) where
  -- a Luau function is left
  pub leaves : (w' : LibWorld) (s' : StackView) (u : Value) (vs : List Value) → Runs s → Becomes left w code s w' s' → w'.names ≡ w.names → Leads chunk w code s (machine.Raise (meant w.names u)) (led.Goes (focus.Raise u)) w' s' vs
  unfolding part
  leaves w' s' u vs runs becomes names replies =
      ap (λ l. raise chunk (is_function (first_of l)) (meant w.names u) (those w s) (shared w code s replies)) (waits_function w s runs is.main)
      ∙ sym (ap (λ t. Goes [] t) (becomes (machine.Raise (meant w.names u)) replies))
      ∙ sym (ap (λ n. Goes [] (part w' code s' (machine.Raise (meant n u)) replies)) names)

  -- nothing catches it
  pub dies : (u : Value) (vs : List Value) → innermost s ≡ None → Leads chunk w code s (machine.Raise (meant w.names u)) (led.Dies u) w s vs
  unfolding part
  dies u vs none replies =
      let v : World = shared w code s replies in
      let x = meant w.names u in
      passed_by chunk x (those w s) v [] (waits_none w s is.main none) refl
      ∙ ap (λ r. decided chunk (deciding.die r x v.waits (store_of v)) (those w s) v) (none_runs w is.main)
      ∙ decided_here chunk false (wait.Dies x) v.waits (those w s) v

  -- a library function no longer waits
  over_passes : (replies : List Reply) (k : Wait) (u : m.Value) (us : List m.Value) → waiting_in w s ≡ k ∷ others w s → is_function (Some k) ≡ false →
      deciding.passed (k ∷ others w s) u (shared w code s replies).waits (store_in w) ≡ deciding.over (Gives us) (shared w code s replies).waits (store_in w) →
      step chunk (part w code s (machine.Raise u) replies) ≡ Goes [] (over (part w code s (machine.Hand us) replies))
  unfolding part
  over_passes replies k u us e other same =
      let v : World = shared w code s replies in
      passed_by chunk u (those w s) v (k ∷ others w s) e other
      ∙ ap (λ a. decided chunk a (those w s) v) same
      ∙ decided_here chunk false (Gives us) (leave v.waits (store_of v)) (those w s) v

  -- a protected call ends with it
  pub fails : (w' : LibWorld) (s' : StackView) (u : Value) (vs' : List Value) → Catches s → Becomes over w code s w' s' → w'.names ≡ w.names → vs' ≡ value.Bool false ∷ u ∷ [] → Leads chunk w code s (machine.Raise (meant w.names u)) (led.Goes focus.Hand) w' s' vs'
  fails w' s' u vs' c becomes names e =
      let x = meant w.names u in
      goes_over chunk w code s is w' s' (machine.Raise x) vs' (m.Boolean false ∷ x ∷ []) becomes names (ap (map (meant w.names)) e ∙ truth chunk w code s is false (u ∷ []))
      (λ replies. by c.kind c.catches (waits_library w s c.kind c.waits is.main) replies)
    where
      by : (k : ReturnKind) → CatchesIn k → waiting_in w s ≡ wait_by w.names k ∷ others w s → (replies : List Reply) → step chunk (part w code s (machine.Raise (meant w.names u)) replies) ≡ Goes [] (over (part w code s (machine.Hand (m.Boolean false ∷ meant w.names u ∷ [])) replies))
      by (kind.Protected None) h e replies = over_passes replies wait.Protects (meant w.names u) (m.Boolean false ∷ meant w.names u ∷ []) e refl refl
      by (kind.Protected (Some g)) h e replies = absurd h
      by kind.Handler h e replies = over_passes replies wait.Handles (meant w.names u) (m.Boolean false ∷ meant w.names u ∷ []) e refl refl
      by kind.Idle h e replies = absurd h
      by (kind.Call to results next) h e replies = absurd h
      by (kind.Answer to next) h e replies = absurd h
      by (kind.Store next) h e replies = absurd h
      by (kind.Jump j wanted next) h e replies = absurd h
      by (kind.Join to more next) h e replies = absurd h
      by (kind.Import to names next) h e replies = absurd h
      by (kind.Iterate base j) h e replies = absurd h
      by (kind.Turn base variables j next) h e replies = absurd h
      by (kind.Library rest) h e replies = absurd h
      by (kind.Coroutine wrapped) h e replies = absurd h

  -- a library function that asked for a text is left
  pub passes_asker : (w' : LibWorld) (s' : StackView) (u : Value) (vs : List Value) → LibraryAsks s → Becomes over w code s w' s' → w'.names ≡ w.names → Leads chunk w code s (machine.Raise (meant w.names u)) (led.Goes (focus.Raise u)) w' s' vs
  unfolding part
  passes_asker w' s' u vs asks becomes names replies =
      let v : World = shared w code s replies in
      let x = meant w.names u in
      let k = kind.Library asks.rest in
      passed_by chunk x (those w s) v (wait_by w.names k ∷ others w s) (waits_library w s k asks.waits is.main) refl
      ∙ decided_here chunk false (Throws (Raises x Elsewise)) (leave v.waits (store_of v)) (those w s) v
      ∙ sym (ap (λ t. Goes [] t) (becomes (machine.Raise x) replies))
      ∙ sym (ap (λ n. Goes [] (part w' code s' (machine.Raise (meant n u)) replies)) names)

  -- the handler of a protected call is called with it
  pub guards : (w' : LibWorld) (s1 s' : StackView) (u h : Value) (vs' : List Value) → IsCaught s h → Becomes over w code s w' s1 → Becomes (awaited wait.Handles) w' code s1 w' s' → w'.names ≡ w.names → vs' ≡ u ∷ [] → Leads chunk w code s (machine.Raise (meant w.names u)) (led.Goes (focus.Invoke caller.Library h)) w' s' vs'
  unfolding part
  guards w' s1 s' u h vs' caught one two names e replies =
      let v : World = shared w code s replies in
      let x = meant w.names u in
      let y = machine.Invoke wait.ByLibrary (meant w.names h) (x ∷ []) in
      let k = kind.Protected (Some h) in
      passed_by chunk x (those w s) v (wait_by w.names k ∷ others w s) (waits_library w s k caught is.main) refl
      ∙ decided_here chunk false (wait.Calls wait.ByLibrary (meant w.names h) (x ∷ [])) (await wait.Handles (leave v.waits (store_of v)) (store_of v)) (those w s) v
      ∙ sym (ap (λ t. Goes [] t) (two y replies ∙ ap (awaited wait.Handles) (one y replies)))
      ∙ sym (ap (λ n. Goes [] (part w' code s' (machine.Invoke wait.ByLibrary (meant n h) (meant n u ∷ [])) replies)) names)
      ∙ sym (ap (λ us. Goes [] (part w' code s' (machine.Invoke wait.ByLibrary (meant w'.names h) (map (meant w'.names) us)) replies)) e)
