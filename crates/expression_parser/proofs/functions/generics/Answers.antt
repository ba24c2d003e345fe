use Rattle.std.proofs.Common.{sym}
use Rattle.expression_parser.proofs.GenericTurns.{no_generics_found}
use Rattle.expression_parser.proofs.functions.generics.Goals as goal

pub returns-else-stands : goal.returns-else-stands
returns-else-stands c = no_generics_found c.args.tokens.now c.args.at (sym c.if-stands.ensures.value)
