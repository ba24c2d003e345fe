use Rattle.std.proofs.Common.{◌≡◌, sym, subst}
use Rattle.call_frames.specs.Cells.{library_called}
use Rattle.machine_world.specs.Functions.{wait_by}
use Rattle.machine_world.specs.Parts as parts
use Rattle.machine_world.specs.Sound.{IsMachine}
use Rattle.machine_world.proofs.Results.{on_ok}
use Rattle.machine_world.proofs.Awaiting.{awaits, awaited_top, keeps_awaited}
use Rattle.machine_world.proofs.machine.Machine.await_library.Goals as goal

pub returns-clause-awaited : goal.returns-clause-awaited
returns-clause-awaited c =
    let w = c.args.world.now in
    let m = c.args.self.now in
    let kind = c.args.kind in
    on_ok (c.push_library.new.self ≡ library_called kind m.stack) (parts.Becomes (parts.awaited (wait_by w.names kind)) w m.code m.stack w c.push_library.new.self) c.push_library.result
    (λ e. awaits w m.code m.stack c.push_library.new.self kind e c.requires.waits c.requires.sound) c.push_library.ensures.ok

pub returns-clause-sound : goal.returns-clause-sound
returns-clause-sound c =
    let w = c.args.world.now in
    let m = c.args.self.now in
    let kind = c.args.kind in
    on_ok (c.push_library.new.self ≡ library_called kind m.stack) (IsMachine w c.push_library.new.self) c.push_library.result
    (λ e. subst (IsMachine w) (sym e) (keeps_awaited w m.stack kind c.requires.kind c.requires.sound)) c.push_library.ensures.ok

pub returns-clause-top : goal.returns-clause-top
returns-clause-top c =
    let m = c.args.self.now in
    let kind = c.args.kind in
    on_ok (c.push_library.new.self ≡ library_called kind m.stack) (c.push_library.new.self.top ≡ 0) c.push_library.result
    (λ e. awaited_top m.stack c.push_library.new.self kind e c.requires.waits) c.push_library.ensures.ok
