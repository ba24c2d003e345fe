use Rattle.std.proofs.Common.{◌++◌, ap, sym, ◌∙◌}
use Rattle.std.specs.String.{string_bytes}
use Rattle.chunk_listing.specs.Listing.{line_text, constant_line}
use Rattle.chunk_listing.proofs.Listed.{each_so_far, each_end, text_of-numbered}
use Rattle.chunk_listing.proofs.listing.constants.Goals as goal

pub loop-number-preserved : goal.loop-number-preserved
loop-number-preserved c =
    each_so_far (λ n x. line_text (constant_line c.args.strings.now n x)) _ _ _ _ _ _ c.loop-number.invariant c.in_ok-one_constant.ensures
    c.index-constants-number.is c.loop-number-test.true

pub returns : goal.returns
returns c =
    each_end (λ n x. line_text (constant_line c.args.strings.now n x)) _ _ _ _ c.loop-number-test.false c.loop-number.invariant
    ∙ ap (λ t. string_bytes c.args.out.now ++ t) (sym (text_of-numbered (constant_line c.args.strings.now) 0 c.args.constants.now))
