use Rattle.table_lists.proofs.Rows.{began_all}
use Rattle.table_lists.proofs.range.put_all_and.Goals as goal

pub returns-clause-err : goal.returns-clause-err
returns-clause-err c = began_all c.put.result c.put.new.table c.put_all.new.table c.args.table.now _ _ c.put.ensures.err c.in_ok-put_all.ensures.ok
