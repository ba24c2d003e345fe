use Rattle.std.proofs.Common.{◌≡◌}
use Rattle.table_lists.specs.Lists.{items}
use Rattle.table_lists.proofs.range.items.Given as goal

abbrev pub invariant-loop-step : goal.invariant-loop-step
invariant-loop-step l = l.values.items ≡ items l.fn.table l.fn.first l.step
