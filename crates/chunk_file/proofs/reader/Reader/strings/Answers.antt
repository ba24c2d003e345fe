use Rattle.std.proofs.lemmas.Result.{err_from_is_err_and}
use Rattle.chunk_file.specs.Reading.{read_text}
use Rattle.chunk_file.proofs.ReadTimes.{item_fails, items_more, items_end}
use Rattle.chunk_file.proofs.reader.Reader.strings.Goals as goal

pub returns-in_err-text : goal.returns-in_err-text
returns-in_err-text c =
    let p = err_from_is_err_and c.from_residual-in_err-text.result c.from_residual-in_err-text.ensures.1 in
    rw (p.1, p.2) (item_fails read_text _ _ _ _ _ _ _ c.in_ok-count.ensures c.loop.invariant c.loop-test.true c.in_err-text.ensures)

pub loop-preserved : goal.loop-preserved
loop-preserved c =
    items_more read_text _ _ _ _ _ _ _ c.loop.invariant c.in_ok-text.ensures c.in_ok-push.ensures.items

pub returns : goal.returns
returns c =
    items_end read_text _ _ _ _ _ _ c.in_ok-count.ensures c.loop.invariant c.loop.auto.counter-end c.loop-test.false
