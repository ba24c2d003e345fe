use Rattle.std.proofs.Common.{◌∙◌, sym, arith}
use Rattle.syntax_tree.specs.Grammar.{literal}
use Rattle.expression_parser.proofs.SimpleTurns.{leaf_run}
use Rattle.expression_parser.proofs.grammar.Grammar.leaf.Goals as goal

pub returns-in_ok-expr-in-Some : goal.returns-in_ok-expr-in-Some
returns-in_ok-expr-in-Some g c =
    let ts = c.args.self.now.tokens.now in
    rw c.in_ok-expr-in-Some.ensures (
      (literal c.args.at c.in-Some.kind (sym c.in_ok-kind.ensures ∙ c.in-Some.is), (c.requires.nest, omega arith)),
      λ v k deep. leaf_run ts c.args.at c.args.nest c.args.self.now.room k c.requires.begins c.requires.nest deep,
    )
