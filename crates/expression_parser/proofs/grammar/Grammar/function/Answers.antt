use Rattle.std.proofs.lemmas.Result.{err_from_is_err_and}
use Rattle.parse_steps.specs.declared.classes.Beginning.TheVariants as begins
use Rattle.expression_parser.proofs.SimpleTurns.{begins_so, function_items, too_deep, fault_within, function_found}
use Rattle.expression_parser.proofs.grammar.Grammar.function.Goals as goal

pub returns-in_err-within : goal.returns-in_err-within
returns-in_err-within g c =
    let ts = c.args.self.now.tokens.now in
    let p = err_from_is_err_and c.from_residual.result c.from_residual.ensures.1 in
    let e = c.in_err-within.ensures in
    rw (p.1, p.2, e.1) (too_deep ts c.args.at c.args.self.now.room function_items (λ k. begins_so ts c.args.at begins.Function k c.requires.begins) e.0)

pub returns-in_err-function : goal.returns-in_err-function
returns-in_err-function g c =
    let ts = c.args.self.now.tokens.now in
    let p = err_from_is_err_and c.from_residual-in_err-function.result c.from_residual-in_err-function.ensures.1 in
    rw (p.1, p.2) (fault_within ts c.args.at c.args.self.now.room c.in_err-function.field-0.0 function_items (λ k. begins_so ts c.args.at begins.Function k c.requires.begins) c.in_ok-within.ensures.0 c.in_err-function.ensures)

pub returns : goal.returns
returns g c = function_found c.args.self.now.tokens.now c.args.self.now.room c.args.at c.new.result c.in_ok-function.function c.func_at-func.result c.in_ok-expr.expr c.requires.begins c.in_ok-within.ensures.0 c.new.ensures c.in_ok-function.ensures c.func_at-func.ensures c.in_ok-expr.ensures
