use Rattle.std.proofs.Common.{◌≡◌, pos}
use Rattle.std.proofs.Math.ListN.{replicate}
use Rattle.table_lists.specs.Lists.{put_all}
use Rattle.table_lists.proofs.range.fill.Given as goal

abbrev pub invariant-loop-step : goal.invariant-loop-step
invariant-loop-step l = l.table ≡ put_all l.initial.table (pos 1) (replicate l.step l.filling)
