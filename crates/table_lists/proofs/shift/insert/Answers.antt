use Rattle.std.proofs.Common.{to_z, of_z, w64, arith}
use Rattle.std.proofs.lemmas.Int.{ints}
use Rattle.table_lists.proofs.Rows.{began_insert}
use Rattle.table_lists.proofs.shift.insert.Goals as goal

pub returns-clause-err : goal.returns-clause-err
returns-clause-err c =
    began_insert c.put_number.result c.put_number.new.table c.shift_up.new.table c.args.table.now (to_z w64 (of_z w64 c.get.result)) c.args.k c.args.count c.put_number.ensures.err c.in_ok-shift_up.ensures.ok (omega (arith, ints))
