use Rattle.std.proofs.Common.{◌≡◌, ◌∙◌, sym, ap, subst, ◌+◌, ◌<◌, length, get_or, refl, Some, arith}
use Rattle.std.specs.Prelude.{slice_get}
use Rattle.std.proofs.lemmas.Option.{slice_get_read}
use Rattle.op_words.specs.Chunks.{chunk_of}
use Rattle.machine_load.proofs.Decoding.{AreDecodedTo, one_decoded, all_decoded}
use Rattle.machine_load.proofs.loading.decode.Goals as goal

pub loop-proto-preserved : goal.loop-proto-preserved
loop-proto-preserved c =
    let w = c.args.world.now in
    let chunk = c.args.chunk.now in
    let n = c.loop-proto.proto-index in
    let proto = c.proto-item.result in
    let value = c.deref-proto-items.ensures.value in
    let within : n < length chunk.protos.items = subst (λ ps. n < length ps) value c.loop-proto-test.true in
    let item : proto ≡ get_or chunk.protos.items n proto = c.proto-item.is ∙ ap (λ ps. get_or ps n proto) value in
    let at : slice_get chunk.protos.items n ≡ Some proto = slice_get_read chunk.protos.items (length chunk.protos.items) n proto refl within item in
    subst (λ fs. AreDecodedTo w chunk (n + 1) fs) (sym c.in_ok-push.ensures.ok)
    (one_decoded w chunk n c.loop-proto.functions proto c.in_ok-decoded.field-0 c.loop-proto.invariant at
    (c.in_ok-decoded.ensures (chunk_of chunk) c.requires.numbers))

pub returns : goal.returns
returns c =
    let chunk = c.args.chunk.now in
    let end : c.loop-proto.proto-index ≡ length chunk.protos.items =
    omega (arith, ap length c.deref-proto-items.ensures.value, c.loop-proto-test.false, c.loop-proto.auto.proto-index-end) in
    all_decoded c.args.world.now chunk c.loop-proto.proto-index (record { functions = c.loop-proto.functions; main = chunk.main }) c.loop-proto.invariant end refl
