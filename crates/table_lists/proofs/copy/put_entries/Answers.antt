use Rattle.std.proofs.Common.{◌∙◌, ap, sym}
use Rattle.value_arena.specs.Tables.{TableView}
use Rattle.table_lists.proofs.Copies.{new_at, full_at, entries_more}
use Rattle.table_lists.proofs.Rows.{on_err}
use Rattle.table_lists.proofs.copy.put_entries.Goals as goal

pub loop-entry-init : goal.loop-entry-init
loop-entry-init c = let t : TableView = c.args.table.now in sym (ap (λ es. record t { entries = es }) (sym c.requires.empty))

pub push-requires-clause-key : goal.push-requires-clause-key
push-requires-clause-key c = (full_at c.args.entries.now c.loop-entry.entry-index c.entry-item.result c.requires.keys c.loop-entry-test.true c.entry-item.is).0

pub push-requires-clause-new : goal.push-requires-clause-new
push-requires-clause-new c =
    new_at c.args.entries.now _ c.loop-entry.entry-index c.entry-item.result c.requires.keys c.loop-entry-test.true c.entry-item.is (ap (λ (t : TableView). t.entries) c.loop-entry.invariant)

pub push-requires-clause-value : goal.push-requires-clause-value
push-requires-clause-value c = (full_at c.args.entries.now c.loop-entry.entry-index c.entry-item.result c.requires.keys c.loop-entry-test.true c.entry-item.is).1

pub loop-entry-preserved : goal.loop-entry-preserved
loop-entry-preserved c =
    entries_more c.loop-entry.table c.args.table.now c.push.new.self c.args.entries.now c.loop-entry.entry-index c.entry-item.result c.loop-entry-test.true c.entry-item.is c.loop-entry.invariant c.in_ok-push.ensures.ok

pub returns-in_err-push-clause-err : goal.returns-in_err-push-clause-err
returns-in_err-push-clause-err c =
    on_err c.from_residual.result (record { count = c.loop-entry.entry-index; is = c.in_err-push.ensures.err ∙ c.loop-entry.invariant })
