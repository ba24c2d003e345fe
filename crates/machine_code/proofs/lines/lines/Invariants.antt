use Rattle.machine_code.proofs.Reading.{AreLinesTo}
use Rattle.machine_code.proofs.lines.lines.Given as goal

abbrev pub invariant-loop-place : goal.invariant-loop-place
invariant-loop-place l = AreLinesTo l.code l.place l.found
