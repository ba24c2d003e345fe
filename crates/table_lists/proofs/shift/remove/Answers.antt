use Rattle.std.proofs.Common.{arith}
use Rattle.std.proofs.lemmas.Int.{ints}
use Rattle.table_lists.proofs.Rows.{began_remove}
use Rattle.table_lists.proofs.shift.remove.Goals as goal

pub returns-clause-err : goal.returns-clause-err
returns-clause-err c =
    began_remove c.put_number.result c.put_number.new.table c.shift_down.new.table c.args.table.now _ c.args.k c.args.count c.put_number.ensures.err c.in_ok-shift_down.ensures.ok (omega (arith, ints))
