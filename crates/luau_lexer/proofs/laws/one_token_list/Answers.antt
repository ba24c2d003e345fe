use Rattle.luau_lexer.proofs.OneTokenList.{token_lists_are_one}
use Rattle.luau_lexer.proofs.laws.one_token_list.Goals as goal

pub returns : goal.returns
returns c = token_lists_are_one
