use Rattle.parse_steps.specs.declared.levels.Rank.TheVariants as rank
use Rattle.expression_parser.proofs.ExpressionRuns.{no_climb, rank_behind}
use Rattle.expression_parser.proofs.grammar.Grammar.products.Goals as goal

pub returns : goal.returns
returns g c =
    let operand = no_climb c.args.self.now.tokens.now c.args.self.now.room c.args.begin c.args.first c.requires.nest c.requires.operand in
    rank_behind c.args.self.now.tokens.now c.args.self.now.room c.args.begin rank.Products c.args.first c.args.first operand c.operations.result c.operations.ensures
