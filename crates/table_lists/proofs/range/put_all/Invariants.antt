use Rattle.std.proofs.Common.{◌≡◌, take}
use Rattle.table_lists.specs.Lists.{put_all}
use Rattle.table_lists.proofs.range.put_all.Given as goal

abbrev pub invariant-loop-step : goal.invariant-loop-step
invariant-loop-step l = l.table ≡ put_all l.initial.table l.fn.first (take l.step l.values)
