-- Values for what waits innermost.
use Rattle.std.proofs.Common.{◌≡◌, refl, sym, ap, ◌∙◌, subst, Bool, true, false, List, [], ◌∷◌, map, Option, Some, None}
use Rattle.value_model.specs.Parts.{meant}
use Rattle.value_model.specs.Values as m
use Rattle.value_model.specs.Waits as wait
use Rattle.value_model.specs.Waits.{Wait, waiting, leave, Ended, Gives, first_of}
use Rattle.value_model.specs.Waiting as deciding
use Rattle.value_model.specs.Store as store
use Rattle.value_model.specs.declared.event.Reply.{Reply}
use Rattle.value_model.specs.declared.value.Value.{Value}
use Rattle.value_model.specs.declared.value.Value.TheVariants as value
use Rattle.bounded_runs.specs.Runs.{Goes}
use Rattle.std.specs.List.{AllByRecursion}
use Rattle.luau_tables.specs.Worlds.{MayUseIn, store_in}
use Rattle.luau_tables.specs.declared.globals.LibWorld.{LibWorld}
use Rattle.luau_tables.proofs.Sameness.{nil_is}
use Rattle.call_frames.specs.declared.frame.ReturnKind.TheVariants as kind
use Rattle.call_frames.specs.Stacks.{StackView}
use Rattle.call_frames.specs.Cells.{innermost}
use Rattle.op_words.specs.Chunks.{ChunkOf}
use Rattle.machine_meaning.specs.States as machine
use Rattle.machine_meaning.specs.States.{Frame, World}
use Rattle.machine_meaning.specs.Moves.{store_of}
use Rattle.machine_meaning.specs.Calls.{decided, hand, is_function}
use Rattle.machine_meaning.specs.Steps.{step}
use Rattle.machine_code.specs.declared.code.Code.{Code}
use Rattle.machine_world.specs.Functions.{protects}
use Rattle.machine_world.specs.Parts.{part, over, Becomes}
use Rattle.machine_world.specs.Sound.{Runs, LibraryWaitsFor, IsMachine}
use Rattle.machine_world.proofs.Going.{bool_is}
use Rattle.machine_calls.specs.Waiting.{LibraryAsks, IsProtected, first}
use Rattle.machine_calls.specs.Moving.{Leads}
use Rattle.machine_calls.specs.declared.focus.Focus.TheVariants as focus
use Rattle.machine_calls.specs.declared.focus.Led.TheVariants as led
use Rattle.machine_calls.proofs.Asking.{decided_here}
use Rattle.machine_calls.proofs.Waited.{those, shared, none_runs, waiting_in, others, waits_none, waits_function, waits_library}

-- what is given, by what waits
given_by : (chunk : ChunkOf) (vs : List m.Value) (fs : List Frame) (v : World) (ks : List Wait) → waiting v.waits (store.here (store_of v)) ≡ ks → is_function (first_of ks) ≡ false → hand chunk (is_function (wait.innermost v.waits (store_of v))) vs fs v ≡ decided chunk (deciding.given ks vs v.waits (store_of v)) fs v
unfolding deciding.wait
given_by chunk vs fs v ks e other =
    ap (λ l. hand chunk (is_function (first_of l)) vs fs v) e
    ∙ ap (λ b. hand chunk b vs fs v) other
    ∙ ap (λ l. decided chunk (deciding.given l vs v.waits (store_of v)) fs v) e

module _ (chunk : ChunkOf) (w : LibWorld) (code : Code) (s : StackView) (is : IsMachine w s) where
  -- a Luau function is given them
  pub gives : (vs : List Value) → Runs s → Leads chunk w code s (machine.Hand (map (meant w.names) vs)) (led.Goes focus.GiveAll) w s vs
  unfolding part
  gives vs runs replies =
      ap (λ l. hand chunk (is_function (first_of l)) (map (meant w.names) vs) (those w s) (shared w code s replies)) (waits_function w s runs is.main)

  -- nothing waits
  pub finishes : (vs : List Value) → innermost s ≡ None → Leads chunk w code s (machine.Hand (map (meant w.names) vs)) led.Finishes w s vs
  unfolding part
  finishes vs none replies =
      let v : World = shared w code s replies in
      let us = map (meant w.names) vs in
      given_by chunk us (those w s) v [] (waits_none w s is.main none) refl
      ∙ ap (λ r. decided chunk (deciding.finish r us v.waits (store_of v)) (those w s) v) (none_runs w is.main)
      ∙ decided_here chunk false (wait.Finishes us) v.waits (those w s) v

  pub asks_on : (vs : List Value) → LibraryAsks s → Leads chunk w code s (machine.Hand (map (meant w.names) vs)) led.Asks w s vs
  asks_on vs asks = (record { world = refl; stack = refl; focus = refl }, asks)

  -- a library function no longer waits, and gives values
  over_gives : (replies : List Reply) (k : Wait) (vs us : List m.Value) → waiting_in w s ≡ k ∷ others w s → is_function (Some k) ≡ false →
      deciding.given (k ∷ others w s) vs (shared w code s replies).waits (store_in w) ≡ deciding.over (Gives us) (shared w code s replies).waits (store_in w) →
      step chunk (part w code s (machine.Hand vs) replies) ≡ Goes [] (over (part w code s (machine.Hand us) replies))
  unfolding part
  over_gives replies k vs us e other same =
      let v : World = shared w code s replies in
      given_by chunk vs (those w s) v (k ∷ others w s) e other
      ∙ ap (λ a. decided chunk a (those w s) v) same
      ∙ decided_here chunk false (Gives us) (leave v.waits (store_of v)) (those w s) v

  pub goes_over : (w' : LibWorld) (s' : StackView) (x : machine.Focus) (vs' : List Value) (us : List m.Value) → Becomes over w code s w' s' → w'.names ≡ w.names → map (meant w.names) vs' ≡ us →
      ((replies : List Reply) → step chunk (part w code s x replies) ≡ Goes [] (over (part w code s (machine.Hand us) replies))) → Leads chunk w code s x (led.Goes focus.Hand) w' s' vs'
  goes_over w' s' x vs' us becomes names e does replies =
      does replies
      ∙ sym (ap (λ t. Goes [] t) (becomes (machine.Hand us) replies))
      ∙ sym (ap (λ us. Goes [] (part w' code s' (machine.Hand us) replies)) (ap (λ n. map (meant n) vs') names ∙ e))

  pub truth : (b : Bool) (vs : List Value) → map (meant w.names) (value.Bool b ∷ vs) ≡ m.Boolean b ∷ map (meant w.names) vs
  truth b vs = ap (λ v. v ∷ map (meant w.names) vs) (bool_is w.names b)

  -- a protected call ends
  pub succeeds : (w' : LibWorld) (s' : StackView) (vs vs' : List Value) → IsProtected s → Becomes over w code s w' s' → w'.names ≡ w.names → vs' ≡ value.Bool true ∷ vs → Leads chunk w code s (machine.Hand (map (meant w.names) vs)) (led.Goes focus.Hand) w' s' vs'
  succeeds w' s' vs vs' p becomes names e =
      let us = map (meant w.names) vs in
      goes_over w' s' (machine.Hand us) vs' (m.Boolean true ∷ us) becomes names (ap (map (meant w.names)) e ∙ truth true vs)
      (λ replies. by p.handler (waits_library w s (kind.Protected p.handler) p.waits is.main) replies)
    where
      by : (h : Option Value) → waiting_in w s ≡ protects w.names h ∷ others w s → (replies : List Reply) → step chunk (part w code s (machine.Hand (map (meant w.names) vs)) replies) ≡ Goes [] (over (part w code s (machine.Hand (m.Boolean true ∷ map (meant w.names) vs)) replies))
      by None e replies = over_gives replies wait.Protects (map (meant w.names) vs) (m.Boolean true ∷ map (meant w.names) vs) e refl refl
      by (Some h) e replies = over_gives replies (wait.Guards (meant w.names h)) (map (meant w.names) vs) (m.Boolean true ∷ map (meant w.names) vs) e refl refl

  first_meant : (vs : List Value) → meant w.names (first vs) ≡ deciding.first_value (map (meant w.names) vs)
  first_meant [] = nil_is w.names
  first_meant (v ∷ vs) = refl

  -- the handler of one has ended
  pub handles : (w' : LibWorld) (s' : StackView) (vs vs' : List Value) → LibraryWaitsFor s kind.Handler → Becomes over w code s w' s' → w'.names ≡ w.names → vs' ≡ value.Bool false ∷ first vs ∷ [] → Leads chunk w code s (machine.Hand (map (meant w.names) vs)) (led.Goes focus.Hand) w' s' vs'
  handles w' s' vs vs' h becomes names e =
      let us = map (meant w.names) vs in
      let u = deciding.first_value us in
      goes_over w' s' (machine.Hand us) vs' (m.Boolean false ∷ u ∷ []) becomes names (ap (map (meant w.names)) e ∙ truth false (first vs ∷ []) ∙ ap (λ v. m.Boolean false ∷ v ∷ []) (first_meant vs))
      (λ replies. over_gives replies wait.Handles us (m.Boolean false ∷ u ∷ []) (waits_library w s kind.Handler h is.main) refl refl)

pub first_usable : (w : LibWorld) (vs : List Value) (v : Value) → v ≡ first vs → AllByRecursion (MayUseIn w) vs → MayUseIn w v
first_usable w [] v e h = subst (MayUseIn w) (sym e) (tt, tt)
first_usable w (u ∷ vs) v e h = subst (MayUseIn w) (sym e) h.0
