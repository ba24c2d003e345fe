use Rattle.std.proofs.Common.{◌≡◌, ◌-◌, length, pos, ◌+ℤ◌}
use Rattle.table_lists.specs.Lists.{found}
use Rattle.table_lists.proofs.search.find.Given as goal

abbrev pub invariant-loop-step : goal.invariant-loop-step
invariant-loop-step l =
    found (length l.fn.table.entries) l.fn.table l.sought l.fn.first ≡ found (length l.fn.table.entries - l.step) l.fn.table l.sought (l.fn.first +ℤ pos l.step)
