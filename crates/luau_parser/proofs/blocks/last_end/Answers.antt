use Rattle.std.proofs.Common.{sym}
use Rattle.luau_parser.proofs.LastTurns.{last_ends, last_goes_on}
use Rattle.luau_parser.proofs.blocks.last_end.Goals as goal

pub returns-then-ends : goal.returns-then-ends
returns-then-ends c =
    let behind = c.behind_semicolon-end.ensures in
    ((behind.0, sym c.if-ends.ensures, behind.1), λ v k. last_ends c.args.tokens.now v k behind.0 (sym c.if-ends.ensures))

pub returns-else-ends : goal.returns-else-ends
returns-else-ends c = λ v k. last_goes_on c.args.tokens.now v k c.behind_semicolon-end.ensures.0 (sym c.if-ends.ensures)
