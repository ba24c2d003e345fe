use Rattle.std.proofs.Common.{ap, ◌∙◌, map}
use Rattle.op_words.specs.Chunks.{chunk_of, proto_of}
use Rattle.chunk_listing.proofs.Listed.{listing_written}
use Rattle.chunk_listing.proofs.listing.list.Goals as goal

pub returns : goal.returns
returns c =
    ap (λ v. v.items) c.into_bytes.ensures.value
    ∙ listing_written (chunk_of c.args.chunk.now) _ _ _ c.as_slice.result.now _ c.new-out.ensures.bytes c.as_slice.ensures.value
    (ap (map proto_of) c.as_slice-2.ensures.value) c.in_ok-protos.ensures c.in_ok-writeln.ensures.bytes
