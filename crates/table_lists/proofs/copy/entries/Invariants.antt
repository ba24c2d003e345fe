use Rattle.std.proofs.Common.{◌≡◌, take}
use Rattle.table_lists.specs.Lists.{filled}
use Rattle.table_lists.proofs.copy.entries.Given as goal

abbrev pub invariant-loop-place : goal.invariant-loop-place
invariant-loop-place l = l.kept.items ≡ filled (take l.place l.fn.table.entries)
