use Rattle.std.proofs.Common.{ap, sym, subst}
use Rattle.std.specs.List.{AllByRecursion}
use Rattle.std.specs.Prelude.{Some}
use Rattle.luau_tables.specs.Worlds.{MayUseIn}
use Rattle.luau_tables.specs.declared.globals.LibWorld.{LibWorld}
use Rattle.call_frames.specs.declared.frame.ReturnKind.TheVariants as kind
use Rattle.value_model.specs.Waits.{Handles}
use Rattle.machine_code.specs.declared.code.Code.{Code}
use Rattle.machine_world.specs.Parts.{Becomes, awaited}
use Rattle.machine_calls.proofs.Waited.{library_waits, may_wait}
use Rattle.machine_calls.proofs.Raised.{guards}
use Rattle.machine_calls.proofs.raising.guard.Goals as goal

pub leave_library-requires-clause-waits : goal.leave_library-requires-clause-waits
leave_library-requires-clause-waits c = library_waits c.args.machine.now.stack (kind.Protected (Some c.args.handler)) c.requires.guards

pub returns-clause-moves : goal.returns-clause-moves
returns-clause-moves c = λ chunk.
    let w = c.args.world.now in
    let k = c.args.machine.now in
    guards chunk w k.code k.stack c.requires.sound c.leave_library.new.world c.leave_library.new.self.stack c.await_library.new.self.stack c.args.v c.args.handler c.only.new.values.items c.requires.guards c.leave_library.ensures.over (subst (λ (code : Code). Becomes (awaited Handles) c.leave_library.new.world code c.leave_library.new.self.stack c.leave_library.new.world c.await_library.new.self.stack) c.leave_library.ensures.code c.in_ok-await_library.ensures.awaited) (ap (λ (v : LibWorld). v.names) c.leave_library.ensures.world) c.in_ok-only.ensures

pub returns-clause-led : goal.returns-clause-led
returns-clause-led c =
    let w = c.args.world.now in
    let w' = c.leave_library.new.world in
    let uses = c.leave_library.ensures.uses in (
      c.in_ok-await_library.ensures.top,
      uses c.args.handler (may_wait w c.args.machine.now.stack (kind.Protected (Some c.args.handler)) c.requires.guards c.requires.sound),
      subst (AllByRecursion (MayUseIn w')) (sym c.in_ok-only.ensures) (uses c.args.v c.requires.usable, tt),
    )
