use Rattle.std.proofs.Common.{◌≡◌, pos, ◌+ℤ◌}
use Rattle.table_lists.specs.Lists.{item, items, put_all}
use Rattle.table_lists.proofs.shift.shift_up.Given as goal

abbrev pub invariant-loop-step : goal.invariant-loop-step
invariant-loop-step l =
    record {
      moved : l.table ≡ put_all l.initial.table (l.fn.first +ℤ pos 1) (items l.initial.table l.fn.first l.step);
      carried : l.carried ≡ item l.initial.table (l.fn.first +ℤ pos l.step);
    }
