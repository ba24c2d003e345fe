use Rattle.std.proofs.Common.{length, ◌-◌, ◌≡◌, ◌≤◌, take}
use Rattle.outside_io.specs.Sinks.{appended}
use Rattle.outside_io.proofs.writing.put_all.Given as goal

abbrev pub invariant-loop-done : goal.invariant-loop-done
invariant-loop-done g l =
    (l.done ≤ length l.bytes)
    × (g.S.Sink.bytes l.sink ≡ appended (g.S.Sink.bytes l.initial.sink) (take l.done l.bytes))
    × (g.S.Sink.faults l.sink ≡ g.S.Sink.faults l.initial.sink)
    × (l.done ≡ 0 → l.sink ≡ l.initial.sink)

abbrev pub decreases-loop-done : goal.decreases-loop-done
decreases-loop-done g l = length l.bytes - l.done
