use Rattle.op_words.specs.Chunks.{chunk_of}
use Rattle.luau_cli.specs.Answer.{WritesChunk}
use Rattle.luau_cli.specs.Refusals.{not_compiled}
use Rattle.luau_cli.proofs.Outcomes.{answers_unbuilt, answers_chunk, compile_found}
use Rattle.luau_cli.proofs.chunks.compile_script.Goals as goal

pub returns-in-Some-clause-answers : goal.returns-in-Some-clause-answers
returns-in-Some-clause-answers c =
    let s = c.args.script.now in
    answers_unbuilt not_compiled WritesChunk s.tree s.names c.in-Some.at c.refused.result
    (compile_found s _ _ c.requires c.first_unbuilt.ensures c.in-Some.is) c.refused.ensures

pub returns-in_ok-chunk-in-None-clause-answers : goal.returns-in_ok-chunk-in-None-clause-answers
returns-in_ok-chunk-in-None-clause-answers c =
    let s = c.args.script.now in
    answers_chunk s (chunk_of c.in_ok-chunk-in-None.chunk) c.reply_with_chunk.result c.requires
    (compile_found s _ _ c.requires c.first_unbuilt.ensures c.in-None.is) c.in_ok-chunk-in-None.ensures c.reply_with_chunk.ensures
