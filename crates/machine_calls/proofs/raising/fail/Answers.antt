use Rattle.std.proofs.Common.{ap, sym, subst}
use Rattle.std.specs.List.{AllByRecursion}
use Rattle.luau_tables.specs.Worlds.{MayUseIn}
use Rattle.luau_tables.specs.declared.globals.LibWorld.{LibWorld}
use Rattle.machine_calls.proofs.Waited.{library_waits}
use Rattle.machine_calls.proofs.Raised.{fails}
use Rattle.machine_calls.proofs.raising.fail.Goals as goal

pub leave_library-requires-clause-waits : goal.leave_library-requires-clause-waits
leave_library-requires-clause-waits c =
    let h = c.requires.catches in library_waits c.args.machine.now.stack h.kind h.waits

pub returns-clause-moves : goal.returns-clause-moves
returns-clause-moves c = λ chunk.
    let w = c.args.world.now in
    let k = c.args.machine.now in
    fails chunk w k.code k.stack c.requires.sound c.leave_library.new.world c.leave_library.new.self.stack c.args.v c.failed.new.values.items c.requires.catches c.leave_library.ensures.over (ap (λ (v : LibWorld). v.names) c.leave_library.ensures.world) c.in_ok-failed.ensures

pub returns-clause-led : goal.returns-clause-led
returns-clause-led c =
    let w' = c.leave_library.new.world in
    (c.leave_library.ensures.top, subst (AllByRecursion (MayUseIn w')) (sym c.in_ok-failed.ensures) ((tt, tt), (c.leave_library.ensures.uses c.args.v c.requires.usable, tt)))
