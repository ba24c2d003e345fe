use Rattle.luau_lexer.proofs.LongestSymbol.{symbols_are_longest}
use Rattle.luau_lexer.proofs.laws.longest_symbol.Goals as goal

pub returns : goal.returns
returns c = symbols_are_longest
