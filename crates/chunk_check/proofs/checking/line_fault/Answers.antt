use Rattle.std.proofs.Common.{option_map}
use Rattle.op_words.specs.Chunks.{chunk_of, proto_of}
use Rattle.chunk_check.specs.Faults.{before_of, fault_of}
use Rattle.chunk_check.proofs.Folds.{line_more}
use Rattle.chunk_check.proofs.checking.line_fault.Goals as goal

pub loop-index-preserved : goal.loop-index-preserved
loop-index-preserved c =
    line_more (chunk_of c.args.chunk.now) c.args.number (proto_of c.args.proto.now) c.args.layout.now
    (before_of c.loop-index.before) (before_of c.passing-before.result)
    (option_map fault_of c.loop-index.found) (option_map fault_of c.located.result) (option_map fault_of c.sooner-found.result) c.line_rule-rule.result
    c.loop-index.index c.lines-lines.result.now _ c.loop-index-test.true c.loop-index.invariant
    c.passing-before.ensures c.line_rule-rule.ensures c.located.ensures c.sooner-found.ensures
