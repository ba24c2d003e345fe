use Rattle.std.proofs.Common.{◌≡◌, drop}
use Rattle.luau_tables.specs.Rules as rule
use Rattle.luau_tables.proofs.reading.first_from.Given as goal

abbrev pub invariant-loop-at : goal.invariant-loop-at
invariant-loop-at l = rule.first (drop l.fn.place l.fn.table.entries) ≡ rule.first (drop l.at l.fn.table.entries)
