use Rattle.std.proofs.Common.{refl}
use Rattle.expression_parser.proofs.WordTurns.{the_word, not_the_word}
use Rattle.expression_parser.proofs.words.expect.Goals as goal

pub returns-then-stands : goal.returns-then-stands
returns-then-stands c = ((c.if-stands.ensures.there refl, refl), λ v k. the_word c.args.tokens.now c.args.word c.args.at v k (c.if-stands.ensures.there refl))

pub returns-else-stands : goal.returns-else-stands
returns-else-stands c = λ v k. not_the_word c.args.tokens.now c.args.word c.args.at v k (c.if-stands.ensures.absent refl)
