use Rattle.std.proofs.Common.{false, [], ◌∷◌, ap, sym, ◌∙◌, subst}
use Rattle.value_model.specs.declared.value.Value.TheVariants as value
use Rattle.machine_calls.specs.Waiting.{first}
use Rattle.std.specs.List.{AllByRecursion}
use Rattle.luau_tables.specs.Worlds.{MayUseIn}
use Rattle.luau_tables.specs.declared.globals.LibWorld.{LibWorld}
use Rattle.call_frames.specs.declared.frame.ReturnKind.TheVariants as kind
use Rattle.std.specs.Prelude.{Some, None}
use Rattle.machine_calls.proofs.Waited.{protected, library_waits}
use Rattle.machine_calls.proofs.Handed.{gives, finishes, asks_on, handles, first_usable}
use Rattle.machine_calls.proofs.handing.hand.Goals as goal

pub returns-in-Nothing-clause-moves : goal.returns-in-Nothing-clause-moves
returns-in-Nothing-clause-moves c = λ chunk.
    let k = c.args.machine.now in
    finishes chunk c.args.world.now k.code k.stack c.requires.sound c.args.values.now.items c.in-Nothing.ensures

pub returns-in-Function-clause-moves : goal.returns-in-Function-clause-moves
returns-in-Function-clause-moves c = λ chunk.
    let k = c.args.machine.now in
    gives chunk c.args.world.now k.code k.stack c.requires.sound c.args.values.now.items c.in-Function.ensures

pub returns-in-Asker-clause-moves : goal.returns-in-Asker-clause-moves
returns-in-Asker-clause-moves c = λ chunk.
    let k = c.args.machine.now in
    asks_on chunk c.args.world.now k.code k.stack c.requires.sound c.args.values.now.items c.in-Asker.ensures

pub succeed-requires-clause-waits : goal.succeed-requires-clause-waits
succeed-requires-clause-waits c = protected c.args.machine.now.stack None c.in-Protected.ensures

pub succeed-requires-in-Guarded-clause-waits : goal.succeed-requires-in-Guarded-clause-waits
succeed-requires-in-Guarded-clause-waits c = protected c.args.machine.now.stack (Some _) c.in-Guarded.ensures

pub leave_library-requires-clause-waits : goal.leave_library-requires-clause-waits
leave_library-requires-clause-waits c = library_waits c.args.machine.now.stack kind.Handler c.in-Handler.ensures

pub returns-in_ok-failed-in-Handler-clause-moves : goal.returns-in_ok-failed-in-Handler-clause-moves
returns-in_ok-failed-in-Handler-clause-moves c = λ chunk.
    let w = c.args.world.now in
    let k = c.args.machine.now in
    handles chunk w k.code k.stack c.requires.sound c.leave_library.new.world c.leave_library.new.self.stack c.args.values.now.items c.failed.new.values.items c.in-Handler.ensures c.leave_library.ensures.over (ap (λ (v : LibWorld). v.names) c.leave_library.ensures.world) (c.in_ok-failed-in-Handler.ensures ∙ ap (λ v. value.Bool false ∷ v ∷ []) (c.first-v.ensures ∙ ap first c.as_slice.ensures.value))

pub returns-in_ok-failed-in-Handler-clause-led : goal.returns-in_ok-failed-in-Handler-clause-led
returns-in_ok-failed-in-Handler-clause-led c =
    let w = c.args.world.now in
    let w' = c.leave_library.new.world in
    (c.leave_library.ensures.top, subst (AllByRecursion (MayUseIn w')) (sym c.in_ok-failed-in-Handler.ensures) ((tt, tt), (c.leave_library.ensures.uses c.first-v.result (first_usable w c.args.values.now.items c.first-v.result (c.first-v.ensures ∙ ap first c.as_slice.ensures.value) c.requires.hands.1), tt)))
