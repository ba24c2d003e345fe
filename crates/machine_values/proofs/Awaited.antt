-- What is ready waits for a call.
use Rattle.call_frames.specs.declared.frame.ReturnKind.{ReturnKind}
use Rattle.call_frames.specs.declared.frame.ReturnKind.TheVariants as kind
use Rattle.call_frames.specs.Stacks.{StackView}
use Rattle.machine_values.specs.Given.{IsAwaited, IsReadyFor}

pub ready_awaited : (s : StackView) (k : ReturnKind) → IsReadyFor s k → IsAwaited k
ready_awaited s (kind.Call to results next) h = tt
ready_awaited s (kind.Answer to next) h = tt
ready_awaited s (kind.Store next) h = tt
ready_awaited s (kind.Jump by wanted next) h = tt
ready_awaited s (kind.Join to left next) h = tt
ready_awaited s (kind.Import to names next) h = tt
ready_awaited s (kind.Iterate base by) h = tt
ready_awaited s (kind.Turn base variables by next) h = tt
ready_awaited s kind.Idle h = absurd h
ready_awaited s (kind.Protected handler) h = absurd h
ready_awaited s kind.Handler h = absurd h
ready_awaited s (kind.Library rest) h = absurd h
ready_awaited s (kind.Coroutine wrapped) h = absurd h
