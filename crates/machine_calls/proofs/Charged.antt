-- Which calls charge a turn.
use Rattle.std.proofs.Common.{◌≡◌, refl, sym, ap, ◌∙◌, false, List, [], ◌++◌, map, take, get_or, length, subst, ◌<◌}
use Rattle.value_model.specs.Choices as choice
use Rattle.value_model.specs.Metamethods.{callee_of}
use Rattle.value_model.specs.Parts.{meant}
use Rattle.value_model.specs.Values as m
use Rattle.value_model.specs.Waits as wait
use Rattle.value_model.specs.Waits.{ByLibrary, End}
use Rattle.value_model.specs.Waiting as deciding
use Rattle.value_model.specs.declared.builtin.Builtin.{Builtin}
use Rattle.value_model.specs.declared.event.Reply.{Reply}
use Rattle.value_model.specs.declared.ids.ClosureId.{ClosureId}
use Rattle.value_model.specs.declared.ids.HostId.{HostId}
use Rattle.value_model.specs.declared.value.Value.{Value}
use Rattle.value_model.specs.declared.value.Value.TheVariants as value
use Rattle.value_arena.specs.declared.closure.Closure.{Closure}
use Rattle.value_arena.specs.Objects.{no_closure}
use Rattle.value_arena.specs.Arenas.{HasClosure, closure_at, objects_of}
use Rattle.bounded_runs.specs.Runs.{Goes, Charges, Ends}
use Rattle.luau_tables.specs.Worlds.{MayUseIn, store_in}
use Rattle.luau_tables.specs.declared.globals.LibWorld.{LibWorld}
use Rattle.call_frames.specs.Stacks.{StackView}
use Rattle.op_words.specs.Chunks.{ChunkOf}
use Rattle.machine_meaning.specs.Chunks.{proto_at}
use Rattle.machine_meaning.specs.States.{Body, State, World}
use Rattle.machine_meaning.specs.Moves.{Step, store_of}
use Rattle.machine_meaning.specs.Calls.{decided, varargs_of}
use Rattle.machine_meaning.specs.Steps.{step}
use Rattle.machine_code.specs.Code.{IsCodeOf}
use Rattle.machine_code.specs.declared.code.Code.{Code}
use Rattle.machine_world.specs.Functions.{body_of}
use Rattle.machine_world.specs.Parts.{part}
use Rattle.machine_world.specs.Sound.{IsMachine}
use Rattle.machine_world.proofs.Results.{own_closure}
use Rattle.machine_calls.specs.Callees.{called_as}
use Rattle.machine_calls.specs.Laws.{calling, ChargedCallsCharge, FreeMovesChargeNone, OtherCallsGoOn}
use Rattle.machine_calls.specs.Moving.{MayEnter, meant_caller}
use Rattle.machine_calls.specs.declared.calling.Called.TheVariants as called
use Rattle.machine_calls.specs.declared.focus.Caller.{Caller}
use Rattle.machine_calls.specs.declared.focus.Caller.TheVariants as caller
use Rattle.machine_calls.specs.declared.focus.Led.TheVariants as led
use Rattle.machine_calls.proofs.Asking.{calls_closure, decided_here, starts_native, starts_host}
use Rattle.machine_calls.proofs.Entered.{entry, known, body_get, body_proto, entered_as}
use Rattle.machine_calls.proofs.Invoked.{asked_other}
use Rattle.machine_calls.proofs.Waited.{those, shared}

found : {x : Step} {t : State} → x ≡ Charges t → (next : State) × (x ≡ Charges next)
found {x} {t} e = (t, e)

goes_no_charge : {x : Step} {t u : State} → x ≡ Goes [] t → x ≡ Charges u → ⊥
goes_no_charge e c = cc

ends_no_charge : {x : Step} {end : End} {u : State} → x ≡ Ends [] end → x ≡ Charges u → ⊥
ends_no_charge e c = cc

module _ (chunk : ChunkOf) (w : LibWorld) (code : Code) (s : StackView) (vs : List Value) (replies : List Reply) where
  abbrev Charged : Caller → Value → Type 0
  Charged by callee = (next : State) × (step chunk (calling w code s by callee vs replies) ≡ Charges next)

  closure_charges : (by : Caller) (c : ClosureId) → IsCodeOf chunk w.names code → IsMachine w s → MayUseIn w (value.Closure c) →
      MayEnter w.arena code c → Charged by (value.Closure c)
  unfolding part meant closure_at HasClosure
  closure_charges by c of is may enters =
      let own = own_closure w c is.world.own.shared.closures may.0 in
      let cs : List Closure = (objects_of w.arena w.owner).closures in
      let room : c.place < length cs = subst (λ u. c.place < length (objects_of w.arena u).closures) own.0 own.1 in
      let b : Body = get_or (map body_of cs) c.place (record { proto = 0; cells = [] }) in
      let v : World = shared w code s replies in
      let us : List m.Value = map (meant w.names) vs in
      let e = entry w.arena code c enters in
      let k = known chunk w.names code (closure_at w.arena c).proto e.function of e.low e.there in
      let p = k.proto in
      let proto : b.proto ≡ (closure_at w.arena c).proto =
      body_proto cs c.place room ∙ sym (ap (λ u. (get_or (objects_of w.arena u).closures c.place no_closure).proto) own.0) in
      found (
      calls_closure chunk (meant_caller by) c.place us (those w s) v
      ∙ entered_as chunk b (map body_of cs) p c.place p.registers us (take p.params us) (varargs_of p.vararg p.params us) (those w s)
      (record v { waits = wait.await (wait.Runs c.place) v.waits (store_of v) }) (body_get cs c.place room) (ap (proto_at chunk) proto ∙ k.at) refl refl refl
      )

  native_charges : (f : Builtin) → Charged caller.Library (value.Native f)
  unfolding part meant
  native_charges f = found (starts_native chunk f (map (meant w.names) vs) (those w s) (shared w code s replies) refl)

  host_charges : (i : HostId) → Charged caller.Library (value.Host i)
  unfolding part meant
  host_charges i = found (starts_host chunk i.0 (map (meant w.names) vs) (those w s) (shared w code s replies))

  -- what is no function
  other_goes : (by : Caller) (callee : Value) → called_as callee ≡ called.Other → (o : choice.Outcome) →
      callee_of (store_in w) (meant w.names callee) ≡ o → (next : State) → step chunk (calling w code s by callee vs replies) ≡ Charges next → ⊥
  unfolding part
  other_goes by callee other o e next c =
      leads o (asked_other chunk w code s by callee vs other o replies e) c
    where
      leads : (o : choice.Outcome) → step chunk (calling w code s by callee vs replies)
          ≡ decided chunk (deciding.by_callee o (map (meant w.names) vs) (shared w code s replies).waits (store_in w)) (those w s) (shared w code s replies)
          → step chunk (calling w code s by callee vs replies) ≡ Charges next → ⊥
      leads (choice.Done f) e c =
          let v : World = shared w code s replies in
          goes_no_charge (e ∙ decided_here chunk false (wait.Calls ByLibrary f (map (meant w.names) vs)) v.waits (those w s) v) c
      leads (choice.CallThis h before) e c =
          let v : World = shared w code s replies in
          goes_no_charge (e ∙ decided_here chunk false (wait.Calls ByLibrary h (before ++ map (meant w.names) vs)) v.waits (those w s) v) c
      leads (choice.Errs r) e c =
          let v : World = shared w code s replies in
          goes_no_charge (e ∙ decided_here chunk false (wait.Throws (wait.Fails r)) v.waits (those w s) v) c
      leads (choice.Halts stop) e c =
          let v : World = shared w code s replies in
          ends_no_charge (e ∙ decided_here chunk false (wait.Stops stop) v.waits (those w s) v) c

pub charged_calls : ChargedCallsCharge
charged_calls chunk w code s by (value.Closure c) vs replies of is may enters e = closure_charges chunk w code s vs replies by c of is may enters
charged_calls chunk w code s caller.Library (value.Native f) vs replies of is may enters e = native_charges chunk w code s vs replies f
charged_calls chunk w code s caller.Script (value.Native f) vs replies of is may enters e = absurd cc
charged_calls chunk w code s caller.Library (value.Host i) vs replies of is may enters e = host_charges chunk w code s vs replies i
charged_calls chunk w code s caller.Script (value.Host i) vs replies of is may enters e = absurd cc
charged_calls chunk w code s by value.Nil vs replies of is may enters e = absurd cc
charged_calls chunk w code s by (value.Bool b) vs replies of is may enters e = absurd cc
charged_calls chunk w code s by (value.Num z) vs replies of is may enters e = absurd cc
charged_calls chunk w code s by (value.Str t) vs replies of is may enters e = absurd cc
charged_calls chunk w code s by (value.Table t) vs replies of is may enters e = absurd cc
charged_calls chunk w code s by (value.Wrap t) vs replies of is may enters e = absurd cc
charged_calls chunk w code s by (value.Thread t) vs replies of is may enters e = absurd cc

pub other_calls : OtherCallsGoOn
other_calls chunk w code s by callee vs replies other next =
    other_goes chunk w code s vs replies by callee other (callee_of (store_in w) (meant w.names callee)) refl next

pub free_moves : FreeMovesChargeNone
free_moves chunk w code s x (led.Goes y) w' s' vs replies leads move free next c = goes_no_charge (leads replies) c
free_moves chunk w code s x (led.Charges y) w' s' vs replies leads move free next c = cc
free_moves chunk w code s x led.Finishes w' s' vs replies leads move free next c = ends_no_charge (leads replies) c
free_moves chunk w code s x (led.Dies v) w' s' vs replies leads move free next c = ends_no_charge (leads replies) c
free_moves chunk w code s x (led.Stops stop) w' s' vs replies leads move free next c = ends_no_charge (leads replies) c
free_moves chunk w code s x led.Asks w' s' vs replies leads move free next c = cc
free_moves chunk w code s x (led.Library f) w' s' vs replies leads move free next c = cc
free_moves chunk w code s x (led.Unbuilt by callee) w' s' vs replies leads move free next c = cc
