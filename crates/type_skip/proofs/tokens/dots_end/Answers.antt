use Rattle.std.proofs.Common.{refl}
use Rattle.syntax_tree.specs.Places.{taken, absent}
use Rattle.type_skip.proofs.tokens.dots_end.Goals as goal

pub returns-then-stands : goal.returns-then-stands
returns-then-stands c = taken c.args.at (c.if-stands.ensures.there refl)

pub returns-else-stands : goal.returns-else-stands
returns-else-stands c = absent c.args.at (c.if-stands.ensures.absent refl)
