use Rattle.std.proofs.Common.{sym}
use Rattle.syntax_tree.specs.Places.{kind_at}
use Rattle.expression_parser.proofs.WordTurns.{has_name, the_name, not_a_name}
use Rattle.expression_parser.proofs.words.expect_name.Goals as goal

pub returns-in-Some : goal.returns-in-Some
returns-in-Some c =
    let there = sym c.in-Some.ensures.value in
    (has_name (kind_at c.args.tokens.now c.args.at) c.in-Some.name there, λ v k. the_name c.args.tokens.now c.in-Some.name c.args.at v k there)

pub returns-in-None : goal.returns-in-None
returns-in-None c = λ v k. not_a_name c.args.tokens.now c.args.at v k (sym c.in-None.ensures.value)
