use Rattle.std.proofs.Common.{ap, ◌∙◌, ◌-◌, ◌^◌, [], arith, false}
use Rattle.std.specs.Fmt.{format_spec, padded_integral, styled_digits_output}
use Rattle.std.specs.Option.{option_map}
use Rattle.chunk_listing.proofs.Listed.{byte_escaped}
use Rattle.chunk_listing.proofs.listing.quoted_byte.Goals as goal

pub returns-in_ok-write : goal.returns-in_ok-write
returns-in_ok-write c =
    let spec = format_spec 32 0 4 2 (2 ^ 64 - 1) in
    byte_escaped _ _ c.args.byte (styled_digits_output c.in_radix.result c.laid_out.result) (omega arith) c.if-is_plain.ensures
    (ap (styled_digits_output c.in_radix.result) c.laid_out.ensures ∙ ap (option_map (padded_integral spec false [])) c.in_radix.ensures)
    c.in_ok-write.ensures.bytes
