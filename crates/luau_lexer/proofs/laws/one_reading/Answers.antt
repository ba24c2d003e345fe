use Rattle.luau_lexer.proofs.OneReading.{all_have_one_reading}
use Rattle.luau_lexer.proofs.laws.one_reading.Goals as goal

pub returns : goal.returns
returns c = all_have_one_reading
