use Rattle.std.proofs.Common.{map, ap, ◌∙◌}
use Rattle.std.proofs.lemmas.List.{map-append}
use Rattle.std.proofs.lemmas.Result.{err_from_is_err_and}
use Rattle.op_words.specs.Chunks.{proto_of}
use Rattle.chunk_file.specs.Reading.{read_proto}
use Rattle.chunk_file.proofs.ReadTimes.{item_fails, items_more, items_end}
use Rattle.chunk_file.proofs.reader.Reader.protos.Goals as goal

pub returns-in_err-proto : goal.returns-in_err-proto
returns-in_err-proto c =
    let p = err_from_is_err_and c.from_residual-in_err-proto.result c.from_residual-in_err-proto.ensures.1 in
    rw (p.1, p.2) (item_fails read_proto _ _ _ _ _ _ _ c.in_ok-count.ensures c.loop.invariant c.loop-test.true c.in_err-proto.ensures)

pub loop-preserved : goal.loop-preserved
loop-preserved c =
    items_more read_proto _ _ _ _ _ _ _ c.loop.invariant c.in_ok-proto.ensures
    (ap (map proto_of) c.in_ok-push.ensures.items ∙ map-append proto_of c.loop.protos.items _)

pub returns : goal.returns
returns c =
    items_end read_proto _ _ _ _ _ _ c.in_ok-count.ensures c.loop.invariant c.loop.auto.counter-end c.loop-test.false
