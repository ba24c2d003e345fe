use Rattle.luau_lexer.proofs.Exact.{only_reading}
use Rattle.luau_lexer.proofs.lex.Goals as goal

pub returns-clause-only : goal.returns-clause-only
returns-clause-only c =
    only_reading c.args.source.now c.args.names.now c.read_tokens.new.names c.read_tokens.result c.read_tokens.ensures.tokens c.read_tokens.ensures.fault
