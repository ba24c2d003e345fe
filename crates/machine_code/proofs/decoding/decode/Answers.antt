use Rattle.std.proofs.Common.{rules, ◌≡◌, refl, sym, ap, ◌∙◌, subst, ◌+◌, ◌<◌, length, get_or, Some, arith}
use Rattle.std.specs.Prelude.{slice_get}
use Rattle.std.proofs.lemmas.Option.{slice_get_read}
use Rattle.op_words.specs.Chunks.{chunk_of, proto_of}
use Rattle.machine_code.specs.Code.{IsCodeOf, IsFunctionOf}
use Rattle.machine_code.specs.Kept.{AreNumbersOf}
use Rattle.machine_code.proofs.Functions.{AreFunctionsTo, one_function, all_functions}
use Rattle.machine_code.proofs.decoding.decode.Goals as goal

pub loop-proto-preserved : goal.loop-proto-preserved
loop-proto-preserved c =
    let chunk = c.chunk-chunk.result.now in
    let n = c.loop-proto.proto-index in
    let texts = c.numbers.new.names in
    let proto = c.proto-item.result in
    let value = c.deref-proto-items.ensures.value in
    let within : n < length chunk.protos.items = subst (λ ps. n < length ps) value c.loop-proto-test.true in
    let item : proto ≡ get_or chunk.protos.items n proto = c.proto-item.is ∙ ap (λ ps. get_or ps n proto) value in
    let at : slice_get chunk.protos.items n ≡ Some proto =
    slice_get_read chunk.protos.items (length chunk.protos.items) n proto refl within item in
    let numbers : AreNumbersOf texts (chunk_of chunk).strings c.as_slice.result.now =
    subst (AreNumbersOf texts (chunk_of chunk).strings) (sym c.as_slice.ensures)
    (subst (λ ss. AreNumbersOf texts ss c.in_ok-numbers.numbers) c.deref.ensures.value c.in_ok-numbers.ensures.numbers) in
    let is : IsFunctionOf (chunk_of chunk) texts (proto_of proto) c.in_ok-function.field-0 =
    c.in_ok-function.ensures.code (chunk_of chunk) texts numbers in
    subst (λ fs. AreFunctionsTo (chunk_of chunk) texts (n + 1) fs) (sym c.in_ok-push.ensures.ok)
    (one_function chunk texts n c.loop-proto.functions proto c.in_ok-function.field-0 c.loop-proto.invariant at is
    c.in_ok-function.ensures.imports)

pub returns-clause-code : goal.returns-clause-code
returns-clause-code c =
    let chunk = c.chunk-chunk.result.now in
    let end : c.loop-proto.proto-index ≡ length chunk.protos.items = omega (arith, ap length c.deref-proto-items.ensures.value) in
    subst (λ k. IsCodeOf k c.numbers.new.names (record { functions = c.loop-proto.functions; main = chunk.main })) c.chunk-chunk.ensures.chunk
    (all_functions chunk c.numbers.new.names c.loop-proto.proto-index (record { functions = c.loop-proto.functions; main = chunk.main })
    c.loop-proto.invariant end refl)
