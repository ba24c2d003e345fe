use Rattle.std.proofs.Common.{subst}
use Rattle.op_words.specs.Chunks.{chunk_of}
use Rattle.luau_cli.specs.Making.{answer_of}
use Rattle.luau_cli.specs.Readings.{IsChunkReading}
use Rattle.luau_cli.proofs.Outcomes.{answers_wrong, answers_listing}
use Rattle.luau_cli.proofs.chunks.reply_to_list.Goals as goal

pub returns-in-Refused-clause-answers : goal.returns-in-Refused-clause-answers
returns-in-Refused-clause-answers c =
    let is = subst (λ r. IsChunkReading c.args.bytes.now r) c.in-Refused.is c.in_ok-why.ensures in
    answers_wrong c.args.bytes.now c.in-Refused.why c.refused_chunk.result is c.refused_chunk.ensures

pub returns-in_ok-listing-in-Sound-clause-answers : goal.returns-in_ok-listing-in-Sound-clause-answers
returns-in_ok-listing-in-Sound-clause-answers c =
    let is = subst (λ r. IsChunkReading c.args.bytes.now r) c.in-Sound.is c.in_ok-why.ensures in
    answers_listing c.args.bytes.now c.in-Sound.chunk (chunk_of c.chunk-in-Sound.result.now) c.in_ok-listing-in-Sound.listing.items
    (answer_of c.written.result) is c.chunk-in-Sound.ensures.chunk c.in_ok-listing-in-Sound.ensures c.written.ensures
