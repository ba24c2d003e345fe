use Rattle.std.proofs.Common.{◌++◌, ap, sym, ◌∙◌}
use Rattle.std.specs.String.{string_bytes}
use Rattle.std.proofs.lemmas.List.{get_or_default}
use Rattle.chunk_listing.specs.Listing.{line_text, child_line}
use Rattle.chunk_listing.proofs.Listed.{each_so_far, each_end, text_of-numbered}
use Rattle.chunk_listing.proofs.listing.children.Goals as goal

pub loop-number-preserved : goal.loop-number-preserved
loop-number-preserved c =
    each_so_far (λ n x. line_text (child_line n x)) _ _ _ _ _ _ c.loop-number.invariant c.in_ok-one_child.ensures
    (get_or_default c.args.children.now c.loop-number.number 0 _ c.loop-number-test.true) c.loop-number-test.true

pub returns : goal.returns
returns c =
    each_end (λ n x. line_text (child_line n x)) _ _ _ _ c.loop-number-test.false c.loop-number.invariant
    ∙ ap (λ t. string_bytes c.args.out.now ++ t) (sym (text_of-numbered child_line 0 c.args.children.now))
