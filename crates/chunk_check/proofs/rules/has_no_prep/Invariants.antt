use Rattle.std.proofs.Common.{◌≡◌, drop}
use Rattle.machine_meaning.specs.WellFormed as rules
use Rattle.chunk_check.specs.Lines.{lines_of}
use Rattle.chunk_check.proofs.rules.has_no_prep.Given as goal

abbrev pub invariant-loop-line : goal.invariant-loop-line
invariant-loop-line l = rules.has_no_prep (lines_of (drop l.line-index l.lines)) ≡ rules.has_no_prep (lines_of l.lines)
