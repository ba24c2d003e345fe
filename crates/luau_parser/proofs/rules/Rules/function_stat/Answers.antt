use Rattle.std.proofs.Common.{arith}
use Rattle.std.proofs.lemmas.Result.{err_from_is_err_and}
use Rattle.syntax_tree.specs.declared.token.TokenKind.TheVariants as token
use Rattle.expression_parser.proofs.SameTurns.{has_within}
use Rattle.luau_parser.proofs.FunctionStatTurns.{no_room_for_function, function_without_name, function_without_body, function_found}
use Rattle.luau_parser.proofs.rules.Rules.function_stat.Goals as goal

pub returns-in_err-within : goal.returns-in_err-within
returns-in_err-within g c =
    let p = err_from_is_err_and c.from_residual.result c.from_residual.ensures.1 in
    let e = c.in_err-within.ensures in
    rw (p.1, p.2, e.1) (no_room_for_function c.args.self.now.grammar.tokens.now c.args.self.now.grammar.room c.args.at c.requires.opens e.0)

pub overflow_add-at : goal.overflow_add-at
overflow_add-at g c = omega (arith, c.well_formed, has_within c.args.self.now.grammar.tokens.now c.args.at token.Function c.requires.opens)

pub returns-in_err-name : goal.returns-in_err-name
returns-in_err-name g c =
    let p = err_from_is_err_and c.from_residual-in_err-name.result c.from_residual-in_err-name.ensures.1 in
    rw (p.1, p.2) (function_without_name c.args.self.now.grammar.tokens.now c.args.self.now.grammar.room c.args.at c.in_err-name.field-0.0 c.requires.opens
    c.in_ok-within.ensures.0 c.in_err-name.ensures)

pub returns-in_err-function : goal.returns-in_err-function
returns-in_err-function g c =
    let p = err_from_is_err_and c.from_residual-in_err-function.result c.from_residual-in_err-function.ensures.1 in
    rw (p.1, p.2) (function_without_body c.args.self.now.grammar.tokens.now c.args.self.now.grammar.room c.args.at c.in_ok-name.name
    c.in_err-function.field-0.0 c.requires.opens c.in_ok-within.ensures.0 c.in_ok-name.ensures c.in_err-function.ensures)

pub returns : goal.returns
returns g c =
    function_found c.args.self.now.grammar.tokens.now c.args.self.now.grammar.room c.args.at c.in_ok-name.name c.in_ok-function.function c.in_ok-stat.stat c.max-nest.result
    c.requires.opens c.in_ok-within.ensures.0 c.in_ok-name.ensures c.in_ok-function.ensures c.in_ok-stat.ensures c.max-nest.ensures
