use Rattle.std.proofs.Common.{arith}
use Rattle.chunk_file.proofs.Written.{number_starts, number_more}
use Rattle.chunk_file.proofs.writing.number.Goals as goal

pub loop-left-init : goal.loop-left-init
loop-left-init c = number_starts _ _ (omega arith)

pub loop-left-preserved : goal.loop-left-preserved
loop-left-preserved c =
    number_more _ _ _ _ c.loop-left.left c.loop-left-test.true c.in_ok-push.ensures.items c.loop-left.invariant
