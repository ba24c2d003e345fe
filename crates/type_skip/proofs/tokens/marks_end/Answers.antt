use Rattle.std.proofs.Common.{refl}
use Rattle.syntax_tree.specs.Types.{no_mark, mark}
use Rattle.type_skip.proofs.tokens.marks_end.Goals as goal

pub loop-at-preserved : goal.loop-at-preserved
loop-at-preserved c = λ j marks. c.loop-at.invariant j (mark c.loop-at.at j (c.loop-at-test.ensures.there refl) marks)

pub returns : goal.returns
returns c = c.loop-at.invariant c.loop-at.at (no_mark c.loop-at.at (c.loop-at-test.ensures.absent refl))
