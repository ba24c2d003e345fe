use Rattle.std.proofs.Common.{ap, sym, subst}
use Rattle.std.specs.List.{AllByRecursion}
use Rattle.luau_tables.specs.Worlds.{MayUseIn}
use Rattle.luau_tables.specs.declared.globals.LibWorld.{LibWorld}
use Rattle.machine_world.proofs.FrameKinds.{all_on}
use Rattle.call_frames.specs.declared.frame.ReturnKind.TheVariants as kind
use Rattle.machine_calls.proofs.Waited.{library_waits}
use Rattle.machine_calls.proofs.Handed.{succeeds}
use Rattle.machine_calls.proofs.handing.succeed.Goals as goal

pub leave_library-requires-clause-waits : goal.leave_library-requires-clause-waits
leave_library-requires-clause-waits c =
    let p = c.requires.waits in library_waits c.args.machine.now.stack (kind.Protected p.handler) p.waits

pub returns-clause-moves : goal.returns-clause-moves
returns-clause-moves c = λ chunk.
    let w = c.args.world.now in
    let k = c.args.machine.now in
    succeeds chunk w k.code k.stack c.requires.sound c.leave_library.new.world c.leave_library.new.self.stack c.args.values.now.items c.put_first.new.values.items c.requires.waits c.leave_library.ensures.over (ap (λ (v : LibWorld). v.names) c.leave_library.ensures.world) c.in_ok-put_first.ensures

pub returns-clause-led : goal.returns-clause-led
returns-clause-led c =
    let w = c.args.world.now in
    let w' = c.leave_library.new.world in
    (c.leave_library.ensures.top, subst (AllByRecursion (MayUseIn w')) (sym c.in_ok-put_first.ensures) ((tt, tt), all_on (MayUseIn w) (MayUseIn w') c.leave_library.ensures.uses c.args.values.now.items c.requires.hands.1))
