use Rattle.std.proofs.Common.{◌≡◌, ◌+◌, drop}
use Rattle.machine_meaning.specs.WellFormed as rules
use Rattle.chunk_check.specs.Lines.{lines_of}
use Rattle.chunk_check.proofs.neighbours.leading.Given as goal

abbrev pub invariant-loop-count : goal.invariant-loop-count
invariant-loop-count l = l.count + rules.leading (lines_of (drop l.count l.rest)) ≡ rules.leading (lines_of l.rest)
