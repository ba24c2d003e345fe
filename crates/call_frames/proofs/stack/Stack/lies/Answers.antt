use Rattle.std.proofs.Common.{subst}
use Rattle.call_frames.specs.Stacks as spec
use Rattle.call_frames.proofs.stack.Stack.lies.Goals as goal

pub returns : goal.returns
returns c = subst spec.Layout c.self.view_is (record { below = c.self.invariant.2; apart = c.self.invariant.3; rises = c.self.invariant.0; top = c.self.invariant.1; live = c.self.invariant.4; once = c.self.invariant.5 })
