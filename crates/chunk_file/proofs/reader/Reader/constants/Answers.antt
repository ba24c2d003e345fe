use Rattle.std.proofs.lemmas.Result.{err_from_is_err_and}
use Rattle.chunk_file.specs.Reading.{read_constant}
use Rattle.chunk_file.proofs.ReadTimes.{item_fails, items_more, items_end}
use Rattle.chunk_file.proofs.reader.Reader.constants.Goals as goal

pub returns-in_err-constant : goal.returns-in_err-constant
returns-in_err-constant c =
    let p = err_from_is_err_and c.from_residual-in_err-constant.result c.from_residual-in_err-constant.ensures.1 in
    rw (p.1, p.2) (item_fails read_constant _ _ _ _ _ _ _ c.in_ok-count.ensures c.loop.invariant c.loop-test.true c.in_err-constant.ensures)

pub loop-preserved : goal.loop-preserved
loop-preserved c =
    items_more read_constant _ _ _ _ _ _ _ c.loop.invariant c.in_ok-constant.ensures c.in_ok-push.ensures.items

pub returns : goal.returns
returns c =
    items_end read_constant _ _ _ _ _ _ c.in_ok-count.ensures c.loop.invariant c.loop.auto.counter-end c.loop-test.false
