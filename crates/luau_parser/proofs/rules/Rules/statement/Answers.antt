use Rattle.luau_parser.proofs.StatementOpenings.{no_statement}
use Rattle.luau_parser.proofs.rules.Rules.statement.Goals as goal

pub returns-in-Ends : goal.returns-in-Ends
returns-in-Ends g c = no_statement c.args.self.now.grammar.tokens.now c.args.self.now.grammar.room c.args.at c.opening_at.result c.opening_at.ensures
    c.requires.opens c.in-Ends.is
