use Rattle.std.proofs.Common.{◌≤◌, sym, subst}
use Rattle.call_frames.specs.declared.frame.Frame.{Frame}
use Rattle.machine_world.proofs.Frames.{inner}
use Rattle.machine_world.proofs.Going.{runs_on}
use Rattle.machine_steps.proofs.Beyond.{closes_beyond, frame_one}
use Rattle.machine_steps.proofs.cells.close.Goals as goal

pub returns-else-from-registers-clause-makes : goal.returns-else-from-registers-clause-makes
returns-else-from-registers-clause-makes c = λ chunk words.
    let w = c.args.world.now in
    let k = c.args.machine.now in
    let i = inner k.stack (runs_on k.stack c.requires.goes) in
    let same = frame_one k.stack c.in-Some.frame.now i.frame (sym c.in-Some.ensures) i.is in
    closes_beyond w k.stack i.frame i.closure i.is i.of c.lies.ensures c.requires.sound chunk words k.code c.go.new.self.stack c.args.from c.args.next
    (subst (λ (f : Frame). f.registers ≤ c.args.from) same c.if-from-registers.false) c.requires.goes c.go.ensures.placed
