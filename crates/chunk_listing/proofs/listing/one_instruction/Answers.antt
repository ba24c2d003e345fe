use Rattle.std.proofs.Common.{◌++◌, ap, ◌∙◌, arith}
use Rattle.std.specs.String.{string_bytes}
use Rattle.chunk_listing.proofs.Listed.{instruction_written}
use Rattle.chunk_listing.proofs.listing.one_instruction.Goals as goal

pub returns : goal.returns
returns c =
    instruction_written _ _ _ _ _ _ _ _ _ c.written.ensures.name c.written.ensures.fields c.loop-field-test.false
    c.in_ok-write.ensures.bytes c.loop-field.invariant
    (c.in_ok-push.ensures.bytes ∙ ap (λ t. string_bytes c.loop-field.out ++ t) (c.in_ok-push.ensures.ascii (omega arith)))
