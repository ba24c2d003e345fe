use Rattle.std.proofs.Common.{◌∙◌}
use Rattle.value_model.proofs.Pieces.{both, reads}
use Rattle.value_model.proofs.error.one_kind.Goals as goal

pub returns : goal.returns
returns c = reads c.joined.result c.joined.ensures (both (both c.as_bytes.ensures.value (c.as_bytes-2.ensures.value ∙ c.name.ensures)) (c.as_bytes-3.ensures.value))
