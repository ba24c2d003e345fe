use Rattle.std.proofs.Common.{sym}
use Rattle.expression_parser.proofs.NameTurns.{typed_found, untyped_found}
use Rattle.expression_parser.proofs.functions.typing.Goals as goal

pub returns-then-stands : goal.returns-then-stands
returns-then-stands c = typed_found c.args.tokens.now c.args.at c.type_at.result (sym c.if-stands.ensures.value) c.type_at.ensures

pub returns-else-stands : goal.returns-else-stands
returns-else-stands c = untyped_found c.args.tokens.now c.args.at (sym c.if-stands.ensures.value)
