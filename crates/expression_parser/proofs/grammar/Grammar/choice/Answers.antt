use Rattle.std.proofs.Common.{ap, refl}
use Rattle.std.proofs.lemmas.Result.{err_from_is_err_and}
use Rattle.parse_steps.specs.Classes.{beginning}
use Rattle.parse_steps.specs.declared.classes.Beginning.TheVariants as begins
use Rattle.expression_parser.proofs.SimpleTurns.{begins_so, choice_items, too_deep, fault_within, choice_found}
use Rattle.expression_parser.proofs.grammar.Grammar.choice.Goals as goal

pub returns-in_err-within : goal.returns-in_err-within
returns-in_err-within g c =
    let ts = c.args.self.now.tokens.now in
    let p = err_from_is_err_and c.from_residual.result c.from_residual.ensures.1 in
    let e = c.in_err-within.ensures in
    rw (p.1, p.2, e.1) (too_deep ts c.args.at c.args.self.now.room choice_items (λ k. begins_so ts c.args.at begins.Choice k (ap beginning c.requires.begins)) e.0)

pub returns-in_err-choices : goal.returns-in_err-choices
returns-in_err-choices g c =
    let ts = c.args.self.now.tokens.now in
    let p = err_from_is_err_and c.from_residual-in_err-choices.result c.from_residual-in_err-choices.ensures.1 in
    rw (p.1, p.2) (fault_within ts c.args.at c.args.self.now.room c.in_err-choices.field-0.0 choice_items (λ k. begins_so ts c.args.at begins.Choice k (ap beginning c.requires.begins)) c.in_ok-within.ensures.0 c.in_err-choices.ensures)

pub returns : goal.returns
returns g c =
    choice_found c.args.self.now.tokens.now c.args.self.now.room c.args.at c.in_ok-choices.choices c.in_ok-choices.choices.other c.in_ok-expr.expr
    c.requires.begins c.in_ok-within.ensures.0 c.in_ok-choices.ensures refl c.in_ok-expr.ensures
