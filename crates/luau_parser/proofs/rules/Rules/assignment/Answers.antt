use Rattle.std.proofs.Common.{refl, sym, subst, arith}
use Rattle.std.proofs.lemmas.Result.{err_from_is_err_and}
use Rattle.syntax_tree.specs.Grammar.{IsStat, assign}
use Rattle.syntax_tree.specs.declared.tree.Stat.{Stat}
use Rattle.parse_steps.specs.Steps.{most}
use Rattle.expression_parser.proofs.Leading.{then_leads, then_fails, nest_to}
use Rattle.luau_parser.proofs.rules.Rules.assignment.Goals as goal

pub returns-in_err-targets : goal.returns-in_err-targets
returns-in_err-targets g c =
    let p = err_from_is_err_and c.from_residual.result c.from_residual.ensures.1 in
    rw (p.1, p.2) (λ v k deep. c.in_err-targets.ensures k deep)

pub returns-then-not-stands : goal.returns-then-not-stands
returns-then-not-stands g c = λ v k deep. c.in_ok-targets.ensures.2 k deep (c.if-not-stands.ensures.absent refl)

pub returns-in_err-values : goal.returns-in_err-values
returns-in_err-values g c =
    let p = err_from_is_err_and c.from_residual-in_err-values.result c.from_residual-in_err-values.ensures.1 in
    rw (p.1, p.2) (λ v k deep.
    let lead = c.in_ok-targets.ensures.1 k deep (c.if-not-stands.ensures.there refl) in
    then_fails lead.runs c.in_err-values.field-0.0 (c.in_err-values.ensures lead.nest lead.todo (omega (arith, lead.as_deep, deep))))

pub returns : goal.returns
returns g c =
    let ts = c.args.self.now.grammar.tokens.now in
    let targets = c.in_ok-targets.targets in
    let values = c.in_ok-values.values in
    let read = c.in_ok-targets.ensures in
    let found = c.in_ok-values.ensures in
    let equal = c.if-not-stands.ensures.there refl in
    let whole = assign c.args.begin targets.end values.end targets.list values.list read.0.0 equal found.0.0 in (
      (subst (λ (s : Stat). IsStat ts most c.args.begin s values.end) (sym c.in_ok-stat.ensures) whole, (omega (arith, c.max.ensures, read.0.1.0, found.0.1.0), omega (arith, read.0.1.1, found.0.1.1))),
      λ v k deep.
          let lead = read.1 k deep equal in
          nest_to (sym c.max.ensures) (then_leads lead.runs (then_leads (found.1 lead.nest lead.todo (omega (arith, lead.as_deep, deep))) (lead.behind values.end values.nest))),
    )
