use Rattle.std.proofs.Common.{◌≡◌, refl, ◌∙◌}
use Rattle.value_model.proofs.Pieces.{both, reads}
use Rattle.value_model.proofs.text.argument.Goals as goal

pub returns : goal.returns
returns c =
    let function : c.args.function.now ≡ c.args.function.now = refl in
    let front = both (both c.as_bytes.ensures.value (c.as_bytes-2.ensures.value ∙ c.in_ok-number.ensures.ok)) c.as_bytes-3.ensures.value in
    reads c.joined.result c.joined.ensures (both (both front function) c.as_bytes-4.ensures.value)
