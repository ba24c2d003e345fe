use Rattle.std.proofs.Common.{refl, arith}
use Rattle.syntax_tree.specs.Places.{taken, absent}
use Rattle.luau_parser.proofs.blocks.behind_semicolon.Goals as goal

pub returns-then-stands : goal.returns-then-stands
returns-then-stands c = (taken c.args.at (c.if-stands.ensures.there refl), omega arith)

pub returns-else-stands : goal.returns-else-stands
returns-else-stands c = (absent c.args.at (c.if-stands.ensures.absent refl), omega arith)
