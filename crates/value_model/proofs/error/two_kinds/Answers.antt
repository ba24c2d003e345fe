use Rattle.std.proofs.Common.{◌∙◌}
use Rattle.value_model.proofs.Pieces.{both, reads}
use Rattle.value_model.proofs.error.two_kinds.Goals as goal

pub returns : goal.returns
returns c = reads c.joined.result c.joined.ensures (both (both (both c.as_bytes.ensures.value (c.as_bytes-2.ensures.value ∙ c.name.ensures)) (c.as_bytes-3.ensures.value)) (c.as_bytes-4.ensures.value ∙ c.name-2.ensures))
