use Rattle.std.proofs.Common.{ap}
use Rattle.expression_parser.specs.Reading.{ending_of}
use Rattle.luau_parser.proofs.PrefixStats.{call_found, no_paren_found}
use Rattle.luau_parser.proofs.rules.Rules.prefix_stat.Goals as goal

pub returns-in_ok-stat-in-Call : goal.returns-in_ok-stat-in-Call
returns-in_ok-stat-in-Call g c = call_found c.args.self.now.grammar.tokens.now c.args.self.now.grammar.room c.args.begin c.args.part (ending_of c.args.ending) c.in_ok-stat-in-Call.stat (ap ending_of c.in-Call.is) c.in_ok-stat-in-Call.ensures c.requires.prefix

pub returns-in-Paren : goal.returns-in-Paren
returns-in-Paren g c = no_paren_found c.args.self.now.grammar.tokens.now c.args.self.now.grammar.room c.args.begin c.args.part (ending_of c.args.ending) (ap ending_of c.in-Paren.is) c.requires.prefix
