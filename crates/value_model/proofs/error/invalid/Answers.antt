use Rattle.std.proofs.Common.{ap, ◌∙◌}
use Rattle.value_model.specs.Errors.{argument_of, error_text}
use Rattle.value_model.proofs.Pieces.{both, reads}
use Rattle.value_model.proofs.error.invalid.Goals as goal

pub returns : goal.returns
unfolding error_text
returns c = reads c.joined.result c.joined.ensures (both (both (both (both (both (both c.as_bytes.ensures.value (c.as_slice.ensures.value ∙ c.in_ok-argument.ensures ∙ ap (argument_of c.args.number) c.last_name.ensures)) (c.as_bytes-2.ensures.value)) (c.as_bytes-3.ensures.value ∙ c.name.ensures)) (c.as_bytes-4.ensures.value)) (c.as_bytes-5.ensures.value ∙ c.name-2.ensures)) (c.as_bytes-6.ensures.value))
