use Rattle.std.proofs.Common.{◌-◌, refl}
use Rattle.expression_parser.proofs.ChoiceRuns.{read_other, no_other}
use Rattle.expression_parser.proofs.grammar.Grammar.otherwise.Goals as goal

pub returns-then-stands : goal.returns-then-stands
returns-then-stands g c = read_other c.args.self.now.tokens.now (c.args.self.now.room - 1) c.args.at c.inner_expr.result c.requires.last (c.if-stands.ensures.there refl) c.inner_expr.ensures

pub returns-else-stands : goal.returns-else-stands
returns-else-stands g c = λ v k deep. no_other c.args.self.now.tokens.now c.args.at v k c.requires.last (c.if-stands.ensures.absent refl)
