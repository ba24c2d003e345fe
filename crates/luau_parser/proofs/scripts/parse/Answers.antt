use Rattle.luau_parser.proofs.Answering.{proper_answer, finds_tree, finds_ambiguous}
use Rattle.luau_parser.proofs.scripts.parse.Goals as goal

pub returns-clause-proper : goal.returns-clause-proper
returns-clause-proper c = proper_answer c.args.tokens.now c.parse_tokens.result c.parse_tokens.ensures.tree

pub returns-clause-found : goal.returns-clause-found
returns-clause-found c = λ tree parsed. finds_tree c.args.tokens.now tree parsed c.parse_tokens.result c.parse_tokens.ensures.tree c.parse_tokens.ensures.refusal

pub returns-clause-ambiguous : goal.returns-clause-ambiguous
returns-clause-ambiguous c = λ tree shallow at call. finds_ambiguous c.args.tokens.now tree shallow at call c.parse_tokens.result c.parse_tokens.ensures.tree c.parse_tokens.ensures.refusal
