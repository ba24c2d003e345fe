use Rattle.std.proofs.Common.{◌++◌, ◌∷◌, [], ap, ◌∙◌}
use Rattle.value_model.specs.Errors.{error_text}
use Rattle.value_model.proofs.Pieces.{both}
use Rattle.value_model.proofs.error.quoted.Goals as goal

pub returns : goal.returns
unfolding error_text
returns c =
    let front = c.in_ok-text.ensures ∙ both (both c.as_bytes.ensures.value (c.as_bytes-2.ensures.value ∙ c.name.ensures)) c.as_bytes-3.ensures.value in
    c.in_ok-push.ensures.items ∙ ap (λ t. t ++ 39 ∷ []) (c.in_ok-extend_from_slice.ensures.items ∙ ap (λ t. t ++ c.args.key.now) front)
