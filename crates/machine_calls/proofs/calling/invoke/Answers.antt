use Rattle.std.proofs.Common.{List, map, sym, ◌∙◌, subst}
use Rattle.value_model.specs.Parts.{meant}
use Rattle.value_model.specs.Values as m
use Rattle.value_model.specs.Waits.{ByScript, ByLibrary}
use Rattle.value_model.specs.declared.value.Value.{Value}
use Rattle.op_words.specs.Chunks.{ChunkOf}
use Rattle.machine_meaning.specs.States as states
use Rattle.machine_code.specs.Code.{IsCodeOf}
use Rattle.machine_world.proofs.Results.{if_ok}
use Rattle.machine_calls.specs.Moving.{ChargesTo, Leads, meant_caller}
use Rattle.machine_calls.specs.declared.focus.Caller.{Caller}
use Rattle.machine_calls.specs.declared.focus.Led.{Led}
use Rattle.machine_calls.proofs.Invoked.{is_luau, is_native, enters_as, starts, hosts, native_leads}
use Rattle.machine_calls.proofs.calling.invoke.Goals as goal

pub returns-in_ok-enter_function-in-Luau-clause-moves : goal.returns-in_ok-enter_function-in-Luau-clause-moves
returns-in_ok-enter_function-in-Luau-clause-moves c = λ chunk of.
    let w = c.args.world.now in
    let k = c.args.machine.now in
    let f = c.in-Luau.closure in
    let by = c.args.by in
    let s' = c.enter_function.new.machine.stack in
    enters_as chunk w k.code k.stack s' by c.args.callee f c.args.values.now.items (is_luau c.args.callee f (sym c.called_as-sort.ensures ∙ c.in-Luau.is))
    (subst (λ (l : List Value). ChargesTo chunk w k.code k.stack (states.Invoke (meant_caller by) (m.Closure f.place) (map (meant w.names) l)) w s' states.Run) c.as_slice.ensures.value (c.in_ok-enter_function-in-Luau.ensures.moves chunk (meant_caller by) of))

pub returns-in-Library-clause-moves : goal.returns-in-Library-clause-moves
returns-in-Library-clause-moves c = λ chunk of.
    let w = c.args.world.now in
    let k = c.args.machine.now in
    let f = c.args.callee in
    let vs = c.args.values.now.items in
    subst (λ (by : Caller). Leads chunk w k.code k.stack (states.Invoke (meant_caller by) (meant w.names f) (map (meant w.names) vs)) c.started.result w k.stack vs) (sym c.in-Library.is)
    (subst (λ (l : Led). Leads chunk w k.code k.stack (states.Invoke ByLibrary (meant w.names f) (map (meant w.names) vs)) l w k.stack vs) (sym c.started.ensures)
    (starts chunk w k.code k.stack f vs c.in-Native.f (is_native f c.in-Native.f (sym c.called_as-sort.ensures ∙ c.in-Native.is))))

pub returns-in-Library-by-clause-moves : goal.returns-in-Library-by-clause-moves
returns-in-Library-by-clause-moves c = λ chunk of.
    let w = c.args.world.now in
    let k = c.args.machine.now in
    let f = c.args.callee in
    let vs = c.args.values.now.items in
    subst (λ (by : Caller). Leads chunk w k.code k.stack (states.Invoke (meant_caller by) (meant w.names f) (map (meant w.names) vs)) c.started-in-Library-by.result w k.stack vs) (sym c.in-Library-by.is)
    (subst (λ (l : Led). Leads chunk w k.code k.stack (states.Invoke ByLibrary (meant w.names f) (map (meant w.names) vs)) l w k.stack vs) (sym c.started-in-Library-by.ensures)
    (hosts chunk w k.code k.stack f vs (sym c.called_as-sort.ensures ∙ c.in-Host.is)))

pub returns-in-Script-clause-moves : goal.returns-in-Script-clause-moves
returns-in-Script-clause-moves c =
    let w = c.args.world.now in
    let k = c.args.machine.now in
    let f = c.args.callee in
    let us = map (meant w.names) c.args.values.now.items in
    let s' = c.call_native.new.machine.stack in
    let vs' = c.call_native.new.values.items in
    if_ok (λ l. (chunk : ChunkOf) → Leads chunk w k.code k.stack (states.Invoke ByScript (m.Native c.in-Native.f) us) l w s' vs') (λ l. (chunk : ChunkOf) → IsCodeOf chunk w.names k.code → Leads chunk w k.code k.stack (states.Invoke (meant_caller c.args.by) (meant w.names f) us) l w s' vs') c.call_native.result
    (λ l leads chunk of. subst (λ (by : Caller). Leads chunk w k.code k.stack (states.Invoke (meant_caller by) (meant w.names f) us) l w s' vs') (sym c.in-Script.is)
    (native_leads chunk w k.code k.stack f us c.in-Native.f s' vs' l (is_native f c.in-Native.f (sym c.called_as-sort.ensures ∙ c.in-Native.is)) (leads chunk)))
    c.call_native.ensures.moves
