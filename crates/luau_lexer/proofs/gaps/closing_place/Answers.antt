use Rattle.std.proofs.Common.{ap, sym, ◌∙◌}
use Rattle.syntax_tree.specs.Gaps.{bracket_level, is_level}
use Rattle.luau_lexer.proofs.ClosingPlaces.{closes_later}
use Rattle.luau_lexer.proofs.gaps.closing_place.Goals as goal

pub loop-i-preserved : goal.loop-i-preserved
loop-i-preserved c =
    closes_later c.args.level c.loop-i.i c.args.bytes.now c.loop-i-test.true (ap (λ l. is_level c.args.level (bracket_level 93 l)) (sym c.split_at.ensures.back) ∙ sym c.closes.ensures.value ∙ c.if-closes.false) c.loop-i.invariant
