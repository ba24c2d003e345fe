use Rattle.std.proofs.Common.{◌≡◌, List, map, subst, Some}
use Rattle.value_model.specs.Answers.{LibAnswer}
use Rattle.value_model.specs.Arguments as row
use Rattle.value_model.specs.Library.{lib}
use Rattle.value_model.specs.Parts.{meant}
use Rattle.value_model.specs.Values as m
use Rattle.value_model.specs.declared.builtin.Builtin.TheVariants as builtin
use Rattle.value_model.specs.declared.value.Value.{Value}
use Rattle.luau_tables.specs.Worlds.{store_in}
use Rattle.lib_arguments.specs.Checks.{Fails}
use Rattle.call_frames.specs.declared.frame.ReturnKind.TheVariants.{Protected}
use Rattle.machine_calls.proofs.Guarded.{calls_back, refused, refused_led, xpcall_is, xpcall_fails, xpcall_guard_fails}
use Rattle.machine_calls.proofs.protecting.xpcall.Goals as goal

pub returns-in_ok-await_library-in-Ok-function_at-clause-moves : goal.returns-in_ok-await_library-in-Ok-function_at-clause-moves
returns-in_ok-await_library-in-Ok-function_at-clause-moves c = λ chunk.
    let w = c.args.world.now in
    let k = c.args.machine.now in
    let vs = c.args.values.now.items in
    let f = c.in-Ok.callee in
    let h = c.in-Ok-function_at.handler in
    let last = c.without_first-in-Ok-function_at.new.values.items in
    let checks = subst (λ (l : List Value). (go : m.Value → LibAnswer) → row.any_at builtin.Xpcall 0 (map (meant w.names) l) go ≡ go (meant w.names f)) c.as_slice.ensures.value (c.in-Ok.ensures.checks w.names) in
    let handles = subst (λ (l : List Value). (go : m.Value → LibAnswer) → row.function_at builtin.Xpcall 1 (map (meant w.names) l) go ≡ go (meant w.names h)) c.as_slice-2.ensures.value (c.in-Ok-function_at.ensures.checks w.names) in
    calls_back chunk w k.code k.stack builtin.Xpcall (map (meant w.names) vs) c.await_library.new.self.stack f (Protected (Some h)) last
    (xpcall_is w vs c.without_first.new.values.items last f h checks handles c.without_first.ensures c.without_first-in-Ok-function_at.ensures) c.in_ok-await_library-in-Ok-function_at.ensures.awaited

pub returns-in-Err-clause-moves : goal.returns-in-Err-clause-moves
returns-in-Err-clause-moves c =
    let w = c.args.world.now in
    let k = c.args.machine.now in
    let vs = c.args.values.now.items in
    let e = c.in-Err.ending in
    let fails = subst (λ (l : List Value). (go : m.Value → LibAnswer) → Fails w.names (row.any_at builtin.Xpcall 0 (map (meant w.names) l) go) e) c.as_slice.ensures.value (c.in-Err.ensures.checks w.names) in
    refused w k.code k.stack builtin.Xpcall (map (meant w.names) vs) e vs c.ended.result c.ended.ensures (xpcall_fails w vs e fails)

pub returns-in-Err-clause-led : goal.returns-in-Err-clause-led
returns-in-Err-clause-led c =
    let w = c.args.world.now in
    let k = c.args.machine.now in
    let vs = c.args.values.now.items in
    let e = c.in-Err.ending in
    let fails = subst (λ (l : List Value). (go : m.Value → LibAnswer) → Fails w.names (row.any_at builtin.Xpcall 0 (map (meant w.names) l) go) e) c.as_slice.ensures.value (c.in-Err.ensures.checks w.names) in
    refused_led w k.stack (lib builtin.Xpcall (map (meant w.names) vs) (store_in w)) e vs c.ended.result c.ended.ensures (xpcall_fails w vs e fails)

pub returns-in-Err-function_at-clause-moves : goal.returns-in-Err-function_at-clause-moves
returns-in-Err-function_at-clause-moves c =
    let w = c.args.world.now in
    let k = c.args.machine.now in
    let vs = c.args.values.now.items in
    let f = c.in-Ok.callee in
    let e = c.in-Err-function_at.ending in
    let checks = subst (λ (l : List Value). (go : m.Value → LibAnswer) → row.any_at builtin.Xpcall 0 (map (meant w.names) l) go ≡ go (meant w.names f)) c.as_slice.ensures.value (c.in-Ok.ensures.checks w.names) in
    let fails = subst (λ (l : List Value). (go : m.Value → LibAnswer) → Fails w.names (row.function_at builtin.Xpcall 1 (map (meant w.names) l) go) e) c.as_slice-2.ensures.value (c.in-Err-function_at.ensures.checks w.names) in
    refused w k.code k.stack builtin.Xpcall (map (meant w.names) vs) e vs c.ended-in-Err-function_at.result c.ended-in-Err-function_at.ensures (xpcall_guard_fails w vs f e checks fails)

pub returns-in-Err-function_at-clause-led : goal.returns-in-Err-function_at-clause-led
returns-in-Err-function_at-clause-led c =
    let w = c.args.world.now in
    let k = c.args.machine.now in
    let vs = c.args.values.now.items in
    let f = c.in-Ok.callee in
    let e = c.in-Err-function_at.ending in
    let checks = subst (λ (l : List Value). (go : m.Value → LibAnswer) → row.any_at builtin.Xpcall 0 (map (meant w.names) l) go ≡ go (meant w.names f)) c.as_slice.ensures.value (c.in-Ok.ensures.checks w.names) in
    let fails = subst (λ (l : List Value). (go : m.Value → LibAnswer) → Fails w.names (row.function_at builtin.Xpcall 1 (map (meant w.names) l) go) e) c.as_slice-2.ensures.value (c.in-Err-function_at.ensures.checks w.names) in
    refused_led w k.stack (lib builtin.Xpcall (map (meant w.names) vs) (store_in w)) e vs c.ended-in-Err-function_at.result c.ended-in-Err-function_at.ensures (xpcall_guard_fails w vs f e checks fails)
