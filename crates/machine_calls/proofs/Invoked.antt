-- Values are called.
use Rattle.std.proofs.Common.{◌≡◌, refl, sym, ap, ◌∙◌, subst, ℕ, Bool, true, false, cond, List, [], ◌∷◌, ◌++◌, map, take, Option, slice_get, codes}
use Rattle.whole_num.specs.declared.arithmetic.Stop.{Stop as Reason}
use Rattle.value_model.specs.Choices as choice
use Rattle.value_model.specs.Metamethods.{is_function, metamethod, callable, callee_of, choose, chosen}
use Rattle.value_model.specs.Parts.{meant, meant_error}
use Rattle.value_model.specs.Errors.{CallOf}
use Rattle.value_model.specs.Store.{Store}
use Rattle.value_model.specs.Values as m
use Rattle.value_model.specs.Waits as wait
use Rattle.value_model.specs.Waits.{ByScript, ByLibrary, Called, Waits, Waited}
use Rattle.value_model.specs.Waiting as deciding
use Rattle.value_model.specs.declared.builtin.Builtin.{Builtin}
use Rattle.value_model.specs.declared.error.RunErr.{RunErr}
use Rattle.value_model.specs.declared.event.Reply.{Reply}
use Rattle.value_model.specs.declared.ids.ClosureId.{ClosureId}
use Rattle.value_model.specs.declared.ids.HostId.{HostId}
use Rattle.value_model.specs.declared.value.Value.{Value}
use Rattle.value_model.specs.declared.value.Value.TheVariants as value
use Rattle.bounded_runs.specs.Runs.{Goes}
use Rattle.luau_tables.specs.Worlds.{store_in}
use Rattle.luau_tables.specs.declared.globals.LibWorld.{LibWorld}
use Rattle.meta_ops.specs.Outcomes.{meant_outcome}
use Rattle.meta_ops.specs.declared.outcome.Outcome.{Outcome}
use Rattle.meta_ops.specs.declared.outcome.Outcome.TheVariants.{Done, CallThis, RunError, Stop}
use Rattle.call_frames.specs.Stacks.{StackView}
use Rattle.op_words.specs.Chunks.{ChunkOf}
use Rattle.machine_meaning.specs.States as machine
use Rattle.machine_meaning.specs.States.{Frame, World}
use Rattle.machine_meaning.specs.Moves.{store_of}
use Rattle.machine_meaning.specs.Calls.{decided, without_closed}
use Rattle.machine_meaning.specs.Steps.{step}
use Rattle.machine_code.specs.declared.code.Code.{Code}
use Rattle.machine_world.specs.Parts.{part}
use Rattle.machine_calls.specs.Callees.{called_as}
use Rattle.machine_calls.specs.Moving.{ChargesTo, Leads, IsUnbuilt, meant_caller}
use Rattle.machine_calls.specs.declared.calling.Called.TheVariants as called
use Rattle.machine_calls.specs.declared.focus.Caller.{Caller}
use Rattle.machine_calls.specs.declared.focus.Caller.TheVariants as caller
use Rattle.machine_calls.specs.declared.focus.Focus.TheVariants as focus
use Rattle.machine_calls.specs.declared.focus.Led.{Led}
use Rattle.machine_calls.specs.declared.focus.Led.TheVariants as led
use Rattle.machine_calls.proofs.Asking.{decided_here, starts_native, starts_host}
use Rattle.machine_calls.proofs.Waited.{those, shared}

-- ---- which function it is

pub is_luau : (v : Value) (f : ClosureId) → called_as v ≡ called.Luau f → v ≡ value.Closure f
is_luau (value.Closure c) f e = let same : c ≡ f = cc in ap value.Closure same
is_luau value.Nil f e = absurd (cc)
is_luau (value.Bool b) f e = absurd (cc)
is_luau (value.Num z) f e = absurd (cc)
is_luau (value.Str x) f e = absurd (cc)
is_luau (value.Table t) f e = absurd (cc)
is_luau (value.Native g) f e = absurd (cc)
is_luau (value.Host i) f e = absurd (cc)
is_luau (value.Wrap t) f e = absurd (cc)
is_luau (value.Thread t) f e = absurd (cc)

pub is_native : (v : Value) (f : Builtin) → called_as v ≡ called.Native f → v ≡ value.Native f
is_native (value.Native g) f e = let same : g ≡ f = cc in ap value.Native same
is_native value.Nil f e = absurd (cc)
is_native (value.Bool b) f e = absurd (cc)
is_native (value.Num z) f e = absurd (cc)
is_native (value.Str x) f e = absurd (cc)
is_native (value.Table t) f e = absurd (cc)
is_native (value.Closure c) f e = absurd (cc)
is_native (value.Host i) f e = absurd (cc)
is_native (value.Wrap t) f e = absurd (cc)
is_native (value.Thread t) f e = absurd (cc)

pub is_host : (v : Value) → called_as v ≡ called.Host → (i : HostId) × (v ≡ value.Host i)
is_host (value.Host i) e = (i, refl)
is_host value.Nil e = absurd (cc)
is_host (value.Bool b) e = absurd (cc)
is_host (value.Num z) e = absurd (cc)
is_host (value.Str x) e = absurd (cc)
is_host (value.Table t) e = absurd (cc)
is_host (value.Closure c) e = absurd (cc)
is_host (value.Native g) e = absurd (cc)
is_host (value.Wrap t) e = absurd (cc)
is_host (value.Thread t) e = absurd (cc)

pub unbuilt_host : (v : Value) → called_as v ≡ called.Host → IsUnbuilt caller.Script v
unbuilt_host v e = let h = is_host v e in subst (λ v. IsUnbuilt caller.Script v) (sym h.1) tt

pub unbuilt_wrap : (by : Caller) (v : Value) → called_as v ≡ called.Wrap → IsUnbuilt by v
unbuilt_wrap caller.Script (value.Wrap t) e = tt
unbuilt_wrap caller.Library (value.Wrap t) e = tt
unbuilt_wrap by value.Nil e = absurd (cc)
unbuilt_wrap by (value.Bool b) e = absurd (cc)
unbuilt_wrap by (value.Num z) e = absurd (cc)
unbuilt_wrap by (value.Str x) e = absurd (cc)
unbuilt_wrap by (value.Table t) e = absurd (cc)
unbuilt_wrap by (value.Closure c) e = absurd (cc)
unbuilt_wrap by (value.Native g) e = absurd (cc)
unbuilt_wrap by (value.Host i) e = absurd (cc)
unbuilt_wrap by (value.Thread t) e = absurd (cc)

-- ---- functions

pub enters_as : (chunk : ChunkOf) (w : LibWorld) (code : Code) (s s' : StackView) (by : Caller) (callee : Value) (f : ClosureId) (vs : List Value) → callee ≡ value.Closure f → ChargesTo chunk w code s (machine.Invoke (meant_caller by) (m.Closure f.place) (map (meant w.names) vs)) w s' machine.Run → Leads chunk w code s (machine.Invoke (meant_caller by) (meant w.names callee) (map (meant w.names) vs)) (led.Charges focus.Run) w s' vs
unfolding meant
enters_as chunk w code s s' by callee f vs e charges =
    subst (λ v. ChargesTo chunk w code s (machine.Invoke (meant_caller by) (meant w.names v) (map (meant w.names) vs)) w s' machine.Run) (sym e) charges

module _ (chunk : ChunkOf) (w : LibWorld) (code : Code) (s : StackView) where
  pub starts : (callee : Value) (vs : List Value) (f : Builtin) → callee ≡ value.Native f → Leads chunk w code s (machine.Invoke ByLibrary (meant w.names callee) (map (meant w.names) vs)) (led.Charges (focus.Invoke caller.Script callee)) w s vs
  unfolding part meant
  starts callee vs f e =
      subst (λ c. ChargesTo chunk w code s (machine.Invoke ByLibrary (meant w.names c) (map (meant w.names) vs)) w s (machine.Invoke ByScript (meant w.names c) (map (meant w.names) vs))) (sym e)
      (λ replies. starts_native chunk f (map (meant w.names) vs) (those w s) (shared w code s replies) refl)

  pub hosts : (callee : Value) (vs : List Value) → called_as callee ≡ called.Host → Leads chunk w code s (machine.Invoke ByLibrary (meant w.names callee) (map (meant w.names) vs)) (led.Charges (focus.Invoke caller.Script callee)) w s vs
  unfolding part meant
  hosts callee vs e =
      let h = is_host callee e in
      subst (λ c. ChargesTo chunk w code s (machine.Invoke ByLibrary (meant w.names c) (map (meant w.names) vs)) w s (machine.Invoke ByScript (meant w.names c) (map (meant w.names) vs))) (sym h.1)
      (λ replies. starts_host chunk h.0.0 (map (meant w.names) vs) (those w s) (shared w code s replies))

  pub native_leads : (callee : Value) (us : List m.Value) (f : Builtin) (s' : StackView) (vs' : List Value) (l : Led) → callee ≡ value.Native f → Leads chunk w code s (machine.Invoke ByScript (m.Native f) us) l w s' vs' → Leads chunk w code s (machine.Invoke ByScript (meant w.names callee) us) l w s' vs'
  unfolding meant
  native_leads callee us f s' vs' l e leads =
      subst (λ c. Leads chunk w code s (machine.Invoke ByScript (meant w.names c) us) l w s' vs') (sym e) leads

-- ---- what is no function

other_called : (texts : List m.Bytes) (by : wait.Caller) (v : Value) (args : List m.Value) (reply : Option Reply) (ws : Waits) (s : Store) → called_as v ≡ called.Other → deciding.called by (meant texts v) args reply ws s ≡ deciding.by_callee (callee_of s (meant texts v)) args ws s
unfolding meant
other_called texts by (value.Closure c) args reply ws s e = absurd (cc)
other_called texts by (value.Native g) args reply ws s e = absurd (cc)
other_called texts by (value.Host i) args reply ws s e = absurd (cc)
other_called texts by (value.Wrap t) args reply ws s e = absurd (cc)
other_called texts ByScript v args reply ws s e = refl
other_called texts ByLibrary v args reply ws s e = refl

other_open : (texts : List m.Bytes) (by : wait.Caller) (v : Value) (args : List m.Value) (s : Store) (u : World) → called_as v ≡ called.Other → without_closed (Called by (meant texts v) args) s u ≡ u
unfolding meant
other_open texts by (value.Closure c) args s u e = absurd (cc)
other_open texts by (value.Native g) args s u e = absurd (cc)
other_open texts by (value.Host i) args s u e = absurd (cc)
other_open texts by (value.Wrap t) args s u e = absurd (cc)
other_open texts by v args s u e = refl

pub outcome_is : (s : Store) (u : m.Value) (o : choice.Outcome) → chosen s 0 o ≡ choose (choice.Callee u) s → callee_of s u ≡ o
unfolding choose
outcome_is s u o e = sym (ap (λ (c : choice.Choice). c.outcome) e)

-- its `__call` gets it before the others
before_is : (s : Store) (u h : m.Value) (before : List m.Value) → callee_of s u ≡ choice.CallThis h before → before ≡ u ∷ []
unfolding callee_of
before_is s u h before e = by (is_function u) e
  where
    by_handler : (b : Bool) (g : m.Value) (r : choice.Outcome) → (r ≡ choice.CallThis h before → ⊥) → cond b (choice.CallThis g (u ∷ [])) r ≡ choice.CallThis h before → before ≡ u ∷ []
    by_handler true g r not_call e = let same : u ∷ [] ≡ before = cc in sym same
    by_handler false g r not_call e = absurd (not_call e)

    by : (b : Bool) → cond b (choice.Done u) (callable u (metamethod s u (codes "__call"))) ≡ choice.CallThis h before → before ≡ u ∷ []
    by true e = absurd (cc)
    by false e = by_handler (is_function (metamethod s u (codes "__call"))) (metamethod s u (codes "__call")) (choice.Errs (CallOf (m.kind_of u))) (λ e. absurd (cc)) e

module _ (chunk : ChunkOf) (w : LibWorld) (code : Code) (s : StackView) (by : Caller) (callee : Value) (vs : List Value) (other : called_as callee ≡ called.Other) where
  pub asked_other : (o : choice.Outcome) (replies : List Reply) → callee_of (store_in w) (meant w.names callee) ≡ o → step chunk (part w code s (machine.Invoke (meant_caller by) (meant w.names callee) (map (meant w.names) vs)) replies) ≡ decided chunk (deciding.by_callee o (map (meant w.names) vs) (shared w code s replies).waits (store_in w)) (those w s) (shared w code s replies)
  unfolding part deciding.wait
  asked_other o replies e =
      let v : World = shared w code s replies in
      let us = map (meant w.names) vs in
      let u = meant w.names callee in
      let c = meant_caller by in
      let reply = slice_get v.replies 0 in
      let asked = deciding.called c u us reply v.waits (store_of v) in
      ap (λ x. decided chunk asked (those w s) x) (other_open w.names c callee us asked.store v other)
      ∙ ap (λ a. decided chunk a (those w s) v) (other_called w.names c callee us reply v.waits (store_of v) other)
      ∙ ap (λ o. decided chunk (deciding.by_callee o us v.waits (store_of v)) (those w s) v) e

  pub leads_done : (o : Outcome) (f : Value) → o ≡ Done f → callee_of (store_in w) (meant w.names callee) ≡ meant_outcome w.names o → Leads chunk w code s (machine.Invoke (meant_caller by) (meant w.names callee) (map (meant w.names) vs)) (led.Goes (focus.Invoke caller.Library f)) w s vs
  unfolding part meant_outcome
  leads_done o f is e replies =
      let v : World = shared w code s replies in
      let us = map (meant w.names) vs in
      asked_other (choice.Done (meant w.names f)) replies (e ∙ ap (meant_outcome w.names) is)
      ∙ decided_here chunk false (wait.Calls ByLibrary (meant w.names f) us) v.waits (those w s) v

  pub leads_handler : (o : Outcome) (h : Value) (args : List Value) (count : ℕ) (vs' : List Value) → o ≡ CallThis h args count → callee_of (store_in w) (meant w.names callee) ≡ meant_outcome w.names o → vs' ≡ callee ∷ vs → Leads chunk w code s (machine.Invoke (meant_caller by) (meant w.names callee) (map (meant w.names) vs)) (led.Goes (focus.Invoke caller.Library h)) w s vs'
  unfolding part meant_outcome
  leads_handler o h args count vs' is e all replies =
      let v : World = shared w code s replies in
      let us = map (meant w.names) vs in
      let g = meant w.names h in
      let before = map (meant w.names) (take count args) in
      let now = e ∙ ap (meant_outcome w.names) is in
      asked_other (choice.CallThis g before) replies now
      ∙ decided_here chunk false (wait.Calls ByLibrary g (before ++ us)) v.waits (those w s) v
      ∙ ap (λ b. Goes [] (part w code s (machine.Invoke ByLibrary g (b ++ us)) replies)) (before_is (store_in w) (meant w.names callee) g before now)
      ∙ sym (ap (λ l. Goes [] (part w code s (machine.Invoke ByLibrary g (map (meant w.names) l)) replies)) all)

  pub leads_error : (o : Outcome) (r : RunErr) → o ≡ RunError r → callee_of (store_in w) (meant w.names callee) ≡ meant_outcome w.names o → (vs' : List Value) → Leads chunk w code s (machine.Invoke (meant_caller by) (meant w.names callee) (map (meant w.names) vs)) (led.Goes (focus.Fault r)) w s vs'
  unfolding part meant_outcome
  leads_error o r is e vs' replies =
      let v : World = shared w code s replies in
      asked_other (choice.Errs (meant_error w.names r)) replies (e ∙ ap (meant_outcome w.names) is)
      ∙ decided_here chunk false (wait.Throws (wait.Fails (meant_error w.names r))) v.waits (those w s) v

  pub leads_stop : (o : Outcome) (stop : Reason) → o ≡ Stop stop → callee_of (store_in w) (meant w.names callee) ≡ meant_outcome w.names o → (vs' : List Value) → Leads chunk w code s (machine.Invoke (meant_caller by) (meant w.names callee) (map (meant w.names) vs)) (led.Stops stop) w s vs'
  unfolding part meant_outcome
  leads_stop o stop is e vs' replies =
      let v : World = shared w code s replies in
      asked_other (choice.Halts stop) replies (e ∙ ap (meant_outcome w.names) is)
      ∙ decided_here chunk false (wait.Stops stop) v.waits (those w s) v
