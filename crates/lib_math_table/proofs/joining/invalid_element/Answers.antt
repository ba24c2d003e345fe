use Rattle.std.proofs.Common.{arith}
use Rattle.std.proofs.lemmas.Int.{ints}
use Rattle.lib_math_table.proofs.ElementTexts.{element_fails}
use Rattle.lib_math_table.proofs.joining.invalid_element.Goals as goal

pub returns : goal.returns
returns c = λ texts. element_fails texts _ c.kind.result c.args.k c.in-Some.place (c.kind.ensures texts) (omega (arith, ints, c.in-Some.ensures))
