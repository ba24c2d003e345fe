use Rattle.std.proofs.Common.{sym, subst}
use Rattle.machine_calls.specs.Waiting.{IsInnermost}
use Rattle.machine_calls.proofs.Waited.{sorted}
use Rattle.machine_calls.proofs.innermost.what_waits.Goals as goal

pub returns : goal.returns
returns c =
    let s = c.args.machine.now.stack in
    subst (IsInnermost s) (sym c.read.ensures) (sorted c.args.world.now s c.requires)
