use Rattle.std.proofs.Common.{◌≡◌, List, map, subst, None}
use Rattle.value_model.specs.Answers.{LibAnswer}
use Rattle.value_model.specs.Arguments as row
use Rattle.value_model.specs.Library.{lib}
use Rattle.value_model.specs.Parts.{meant}
use Rattle.value_model.specs.Values as m
use Rattle.value_model.specs.declared.builtin.Builtin.TheVariants as builtin
use Rattle.value_model.specs.declared.value.Value.{Value}
use Rattle.luau_tables.specs.Worlds.{store_in}
use Rattle.lib_arguments.specs.Checks.{Fails}
use Rattle.call_frames.specs.declared.frame.ReturnKind.TheVariants.{Protected}
use Rattle.machine_calls.proofs.Guarded.{calls_back, refused, refused_led, pcall_is, pcall_fails}
use Rattle.machine_calls.proofs.protecting.pcall.Goals as goal

pub returns-in_ok-await_library-in-Ok-clause-moves : goal.returns-in_ok-await_library-in-Ok-clause-moves
returns-in_ok-await_library-in-Ok-clause-moves c = λ chunk.
    let w = c.args.world.now in
    let k = c.args.machine.now in
    let vs = c.args.values.now.items in
    let f = c.in-Ok.callee in
    let checks = subst (λ (l : List Value). (go : m.Value → LibAnswer) → row.any_at builtin.Pcall 0 (map (meant w.names) l) go ≡ go (meant w.names f)) c.as_slice.ensures.value (c.in-Ok.ensures.checks w.names) in
    calls_back chunk w k.code k.stack builtin.Pcall (map (meant w.names) vs) c.await_library.new.self.stack f (Protected None) c.without_first.new.values.items
    (pcall_is w vs c.without_first.new.values.items f checks c.without_first.ensures) c.in_ok-await_library-in-Ok.ensures.awaited

pub returns-in-Err-clause-moves : goal.returns-in-Err-clause-moves
returns-in-Err-clause-moves c =
    let w = c.args.world.now in
    let k = c.args.machine.now in
    let vs = c.args.values.now.items in
    let e = c.in-Err.ending in
    let fails = subst (λ (l : List Value). (go : m.Value → LibAnswer) → Fails w.names (row.any_at builtin.Pcall 0 (map (meant w.names) l) go) e) c.as_slice.ensures.value (c.in-Err.ensures.checks w.names) in
    refused w k.code k.stack builtin.Pcall (map (meant w.names) vs) e vs c.ended.result c.ended.ensures (pcall_fails w vs e fails)

pub returns-in-Err-clause-led : goal.returns-in-Err-clause-led
returns-in-Err-clause-led c =
    let w = c.args.world.now in
    let k = c.args.machine.now in
    let vs = c.args.values.now.items in
    let e = c.in-Err.ending in
    let fails = subst (λ (l : List Value). (go : m.Value → LibAnswer) → Fails w.names (row.any_at builtin.Pcall 0 (map (meant w.names) l) go) e) c.as_slice.ensures.value (c.in-Err.ensures.checks w.names) in
    refused_led w k.stack (lib builtin.Pcall (map (meant w.names) vs) (store_in w)) e vs c.ended.result c.ended.ensures (pcall_fails w vs e fails)
