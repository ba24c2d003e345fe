use Rattle.std.proofs.Common.{◌+◌, sym, subst, arith}
use Rattle.std.proofs.lemmas.Result.{err_from_is_err_and}
use Rattle.syntax_tree.specs.Grammar.{IsStat, IsExpr, expression, compound}
use Rattle.syntax_tree.specs.Nodes.{stat_at}
use Rattle.syntax_tree.specs.declared.tree.Stat.{Stat}
use Rattle.syntax_tree.specs.declared.tree.StatKind as stat
use Rattle.parse_steps.specs.Steps.{most}
use Rattle.expression_parser.proofs.Leading.{then_leads, then_fails, nest_to}
use Rattle.luau_parser.proofs.AssignmentTurns.{to_compound}
use Rattle.luau_parser.proofs.rules.Rules.compound.Goals as goal

pub returns-in_err-part : goal.returns-in_err-part
returns-in_err-part g c =
    let ts = c.args.self.now.grammar.tokens.now in
    let first = c.args.first in
    let p = err_from_is_err_and c.from_residual.result c.from_residual.ensures.1 in
    rw (p.1, p.2) (λ v k deep. then_fails (to_compound ts c.args.op first.end first.nest k c.requires.target.whole c.requires.operator) c.in_err-part.field-0.0 (c.in_err-part.ensures first.nest k deep))

pub returns : goal.returns
returns g c =
    let ts = c.args.self.now.grammar.tokens.now in
    let first = c.args.first in
    let part = c.in_ok-part.part in
    let read = c.in_ok-part.ensures in
    let value : IsExpr ts most (first.end + 1) part.expr part.end = expression (first.end + 1) part.end part.expr read.0.0 in
    let whole : IsStat ts most c.args.begin (stat_at ts c.args.begin (stat.Compound c.args.op first.expr part.expr)) part.end = compound c.args.begin first.end part.end c.args.op first.expr part.expr c.requires.target.prefix c.requires.operator value in (
      (subst (λ (s : Stat). IsStat ts most c.args.begin s part.end) (sym c.in_ok-stat.ensures) whole, (omega (arith, c.max-nest.ensures, c.requires.target.nest, read.0.1.0), omega (arith, c.requires.target.onward, read.0.1.1))),
      λ v k deep. nest_to (omega (arith, c.max-nest.ensures)) (then_leads (to_compound ts c.args.op first.end first.nest k c.requires.target.whole c.requires.operator) (read.1 first.nest k deep)),
    )
