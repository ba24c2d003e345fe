use Rattle.std.proofs.lemmas.Result.{err_from_is_err_and}
use Rattle.chunk_file.specs.Reading.{read_number}
use Rattle.chunk_file.proofs.ReadTimes.{item_fails, items_more, items_end}
use Rattle.chunk_file.proofs.reader.Reader.numbers.Goals as goal

pub returns-in_err-number : goal.returns-in_err-number
returns-in_err-number c =
    let p = err_from_is_err_and c.from_residual-in_err-number.result c.from_residual-in_err-number.ensures.1 in
    rw (p.1, p.2) (item_fails read_number _ _ _ _ _ _ _ c.in_ok-count.ensures c.loop.invariant c.loop-test.true c.in_err-number.ensures)

pub loop-preserved : goal.loop-preserved
loop-preserved c =
    items_more read_number _ _ _ _ _ _ _ c.loop.invariant c.in_ok-number.ensures c.in_ok-push.ensures.items

pub returns : goal.returns
returns c =
    items_end read_number _ _ _ _ _ _ c.in_ok-count.ensures c.loop.invariant c.loop.auto.counter-end c.loop-test.false
