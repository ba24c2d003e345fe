use Rattle.std.proofs.Common.{ap}
use Rattle.std.specs.Prelude.{None}
use Rattle.luau_tables.specs.declared.globals.LibWorld.{LibWorld}
use Rattle.call_frames.specs.declared.frame.ReturnKind.TheVariants as kind
use Rattle.machine_calls.proofs.Waited.{catches, library_waits}
use Rattle.machine_calls.proofs.Raised.{leaves, dies, passes_asker}
use Rattle.machine_calls.proofs.raising.raise.Goals as goal

pub returns-in-Nothing-clause-moves : goal.returns-in-Nothing-clause-moves
returns-in-Nothing-clause-moves c = λ chunk.
    let k = c.args.machine.now in
    dies chunk c.args.world.now k.code k.stack c.requires.sound c.args.v c.args.values.now.items c.in-Nothing.ensures

pub returns-in-Function-clause-moves : goal.returns-in-Function-clause-moves
returns-in-Function-clause-moves c = λ chunk.
    let k = c.args.machine.now in
    leaves chunk c.args.world.now k.code k.stack c.requires.sound c.leave.new.world c.leave.new.self.stack c.args.v c.args.values.now.items c.in-Function.ensures c.leave.ensures.left (ap (λ (v : LibWorld). v.names) c.leave.ensures.world)

pub returns-in-Function-clause-led : goal.returns-in-Function-clause-led
returns-in-Function-clause-led c = c.leave.ensures.uses c.args.v c.requires.usable

pub fail-requires-clause-catches : goal.fail-requires-clause-catches
fail-requires-clause-catches c = catches c.args.machine.now.stack (kind.Protected None) c.in-Protected.ensures tt

pub fail-requires-in-Handler-clause-catches : goal.fail-requires-in-Handler-clause-catches
fail-requires-in-Handler-clause-catches c = catches c.args.machine.now.stack kind.Handler c.in-Handler.ensures tt

pub leave_library-requires-clause-waits : goal.leave_library-requires-clause-waits
leave_library-requires-clause-waits c =
    let asks = c.in-Asker.ensures in library_waits c.args.machine.now.stack (kind.Library asks.rest) asks.waits

pub returns-in-Asker-clause-moves : goal.returns-in-Asker-clause-moves
returns-in-Asker-clause-moves c = λ chunk.
    let k = c.args.machine.now in
    passes_asker chunk c.args.world.now k.code k.stack c.requires.sound c.leave_library.new.world c.leave_library.new.self.stack c.args.v c.args.values.now.items c.in-Asker.ensures c.leave_library.ensures.over (ap (λ (v : LibWorld). v.names) c.leave_library.ensures.world)

pub returns-in-Asker-clause-led : goal.returns-in-Asker-clause-led
returns-in-Asker-clause-led c = c.leave_library.ensures.uses c.args.v c.requires.usable
