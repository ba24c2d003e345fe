use Rattle.std.proofs.Common.{◌≡◌, ◌+◌, ◌-◌, IfSome, vec_len}
use Rattle.outside_io.specs.Files.{IsFrontOf}
use Rattle.outside_io.proofs.reading.read_all.Given as goal

abbrev pub invariant-loop-buffer : goal.invariant-loop-buffer
invariant-loop-buffer g l =
    (g.F.Files.contents l.files ≡ g.F.Files.contents l.initial.files)
    × (g.F.Files.faults l.files ≡ g.F.Files.faults l.initial.files)
    × IfSome (g.F.Files.contents l.initial.files) (λ told. IsFrontOf l.bytes.items (told l.name))

abbrev pub decreases-loop-buffer : goal.decreases-loop-buffer
decreases-loop-buffer g l = l.limit + 1 - vec_len l.bytes
