use Rattle.std.proofs.Common.{◌≡◌, Some, sym}
use Rattle.call_frames.specs.Cells.{innermost}
use Rattle.machine_world.proofs.Frames.{has_low}
use Rattle.machine_world.proofs.machine.Machine.behind.Goals as goal

pub next-requires : goal.next-requires
next-requires c =
    let s = c.args.self.now.stack in
    let e : innermost s ≡ Some c.in-Some.frame.now = sym c.in-Some.ensures in
    has_low s c.args.register c.in-Some.frame.now e c.requires
