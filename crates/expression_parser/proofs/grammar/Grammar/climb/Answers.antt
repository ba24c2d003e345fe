use Rattle.expression_parser.proofs.ExpressionRuns.{no_climb}
use Rattle.expression_parser.proofs.grammar.Grammar.climb.Goals as goal

pub returns-in-Unaries : goal.returns-in-Unaries
returns-in-Unaries g c = rw c.in-Unaries.is (no_climb c.args.self.now.tokens.now c.args.self.now.room c.args.begin c.args.first c.requires.nest c.requires.operand)
