use Rattle.std.proofs.Common.{take}
use Rattle.machine_load.specs.Loaded.{AreShort}
use Rattle.machine_load.proofs.loading.are_short.Given as goal

abbrev pub invariant-loop-string : goal.invariant-loop-string
invariant-loop-string l = AreShort (take l.string-index l.strings)
