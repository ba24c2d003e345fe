use Rattle.std.proofs.Common.{ap, ◌∙◌, option_map}
use Rattle.op_words.specs.Chunks.{chunk_of, proto_of}
use Rattle.machine_meaning.specs.Needs.{lines}
use Rattle.chunk_check.specs.Faults.{fault_of, sooner}
use Rattle.chunk_check.specs.Lines.{lines_of}
use Rattle.chunk_check.proofs.Folds.{whole_function}
use Rattle.chunk_check.proofs.checking.proto_fault.Goals as goal

pub returns : goal.returns
returns c =
    c.sooner-2.ensures
    ∙ ap (λ o. sooner o (option_map fault_of c.start_fault-start.result)) c.sooner.ensures
    ∙ whole_function (chunk_of c.args.chunk.now) c.args.number c.len.result (proto_of c.args.proto.now)
    c.in_ok-layout.layout (lines_of c.lines.result.now) (lines_of c.lines-2.result.now) _ _ _
    (c.in_ok-layout.ensures ∙ ap lines c.deref.ensures.value) c.lines.ensures c.lines-2.ensures (c.len.ensures ∙ c.args.proto.now.code.ok.0)
    c.line_fault-line.ensures c.end_fault-end.ensures c.start_fault-start.ensures
