use Rattle.std.proofs.Common.{◌++◌, ap, ◌∙◌}
use Rattle.value_model.specs.Errors.{error_text}
use Rattle.std.specs.Fmt.{signed_decimal}
use Rattle.value_model.proofs.Pieces.{both, reads}
use Rattle.value_model.proofs.error.invalid_element.Goals as goal

pub returns : goal.returns
unfolding error_text
returns c = reads c.joined.result c.joined.ensures (both (both (both (both c.as_bytes.ensures.value (c.as_bytes-2.ensures.value ∙ c.name.ensures)) (c.as_bytes-3.ensures.value)) (c.as_slice.ensures.value ∙ c.in_ok-print_into.ensures.ok ∙ ap (λ t. t ++ signed_decimal c.args.place) c.new-number.ensures.items)) (c.as_bytes-4.ensures.value))
