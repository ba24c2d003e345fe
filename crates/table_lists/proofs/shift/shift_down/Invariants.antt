use Rattle.std.proofs.Common.{◌≡◌, pos, ◌+ℤ◌}
use Rattle.table_lists.specs.Lists.{items, put_all}
use Rattle.table_lists.proofs.shift.shift_down.Given as goal

abbrev pub invariant-loop-step : goal.invariant-loop-step
invariant-loop-step l = l.table ≡ put_all l.initial.table l.fn.first (items l.initial.table (l.fn.first +ℤ pos 1) l.step)
