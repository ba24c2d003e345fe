use Rattle.std.proofs.Common.{◌++◌, ap, sym, ◌∙◌, map}
use Rattle.std.specs.String.{string_bytes}
use Rattle.op_words.specs.Chunks.{proto_of}
use Rattle.chunk_listing.specs.Listing.{text_of, proto_lines}
use Rattle.chunk_listing.proofs.Listed.{each_so_far, each_end, each-map, text_of-each}
use Rattle.chunk_listing.proofs.listing.protos.Goals as goal

pub loop-number-preserved : goal.loop-number-preserved
loop-number-preserved c =
    each_so_far (λ n p. text_of (proto_lines c.args.strings.now n (proto_of p))) _ _ _ _ _ _ c.loop-number.invariant c.in_ok-one_proto.ensures
    c.index-protos-number.is c.loop-number-test.true

pub returns : goal.returns
returns c =
    let lines = proto_lines c.args.strings.now in
    let protos = map proto_of c.args.protos.now in
    each_end (λ n p. text_of (proto_lines c.args.strings.now n (proto_of p))) _ _ _ _ c.loop-number-test.false c.loop-number.invariant
    ∙ ap (λ t. string_bytes c.args.out.now ++ t) (sym (each-map (λ n p. text_of (lines n p)) proto_of 0 c.args.protos.now))
    ∙ ap (λ t. string_bytes c.args.out.now ++ t) (sym (text_of-each lines 0 protos))
