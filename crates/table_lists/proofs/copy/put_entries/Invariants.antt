use Rattle.std.proofs.Common.{◌≡◌, take}
use Rattle.value_arena.specs.Tables.{TableView}
use Rattle.table_lists.proofs.copy.put_entries.Given as goal

abbrev pub invariant-loop-entry : goal.invariant-loop-entry
invariant-loop-entry l = let t : TableView = l.initial.table in l.table ≡ record t { entries = take l.entry-index l.fn.entries }
