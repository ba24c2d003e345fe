use Rattle.std.proofs.Common.{◌≡◌}
use Rattle.value_arena.specs.Tables.{TableView}
use Rattle.table_lists.proofs.Wholes.{cleared_front}
use Rattle.table_lists.proofs.copy.clear.Given as goal

abbrev pub invariant-loop-place : goal.invariant-loop-place
invariant-loop-place l = let t : TableView = l.initial.table in l.table ≡ record t { entries = cleared_front l.place t.entries }
