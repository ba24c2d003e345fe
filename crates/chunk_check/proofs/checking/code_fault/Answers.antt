use Rattle.std.proofs.Common.{◌≡◌, ◌<◌, ap, ◌∙◌, option_map, length, get_or, subst}
use Rattle.op_words.specs.Chunks.{chunk_of, proto_of}
use Rattle.machine_meaning.specs.WellFormed.{first_of, proto_faults}
use Rattle.chunk_check.specs.Faults.{fault_of}
use Rattle.chunk_check.proofs.Folds.{main_and_all, one_function}
use Rattle.chunk_check.proofs.checking.code_fault.Goals as goal

pub loop-number-init : goal.loop-number-init
loop-number-init c = main_and_all (chunk_of c.args.chunk.now) _ c.main_fault-found.ensures

pub loop-number-preserved : goal.loop-number-preserved
loop-number-preserved c =
    let items = c.args.chunk.now.protos.items in
    let n = c.loop-number.number in
    let value = c.deref-proto-items.ensures.value in
    let within : n < length items = subst (λ ps. n < length ps) value c.loop-number-test.true in
    let item : c.proto-item.result ≡ get_or items n c.proto-item.result = c.proto-item.is ∙ ap (λ ps. get_or ps n c.proto-item.result) value in
    one_function (chunk_of c.args.chunk.now) n items c.proto-item.result
    (option_map fault_of c.loop-number.found) (option_map fault_of c.in_ok-proto_fault.field-0) (option_map fault_of c.sooner-found.result)
    within (c.in_ok-proto_fault.ensures ∙ ap (λ p. first_of (proto_faults (chunk_of c.args.chunk.now) n (proto_of p))) item) c.sooner-found.ensures
    ∙ c.loop-number.invariant
