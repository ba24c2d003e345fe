use Rattle.std.proofs.Common.{◌+◌, arith}
use Rattle.std.proofs.lemmas.Result.{err_from_is_err_and}
use Rattle.syntax_tree.specs.declared.token.TokenKind.TheVariants as token
use Rattle.expression_parser.proofs.SameTurns.{has_within}
use Rattle.luau_parser.proofs.FunctionStatTurns.{OpensLocalFunction, no_room_for_local, local_without_name, local_without_body, local_function_found}
use Rattle.luau_parser.proofs.rules.Rules.local_function.Goals as goal

pub overflow_add-at : goal.overflow_add-at
overflow_add-at g c = omega (arith, c.well_formed, has_within c.args.self.now.grammar.tokens.now (c.args.at + 1) token.Function c.requires.word)

pub returns-in_err-within : goal.returns-in_err-within
returns-in_err-within g c =
    let ts = c.args.self.now.grammar.tokens.now in
    let p = err_from_is_err_and c.from_residual.result c.from_residual.ensures.1 in
    let e = c.in_err-within.ensures in
    let opens : OpensLocalFunction ts c.args.at = record { stands = c.requires.opens; word = c.requires.word } in
    rw (p.1, p.2, e.1) (no_room_for_local ts c.args.self.now.grammar.room c.args.at opens e.0)

pub overflow_add-at-2 : goal.overflow_add-at-2
overflow_add-at-2 g c = omega (arith, c.well_formed, has_within c.args.self.now.grammar.tokens.now (c.args.at + 1) token.Function c.requires.word)

pub returns-in_err-name : goal.returns-in_err-name
returns-in_err-name g c =
    let ts = c.args.self.now.grammar.tokens.now in
    let p = err_from_is_err_and c.from_residual-in_err-name.result c.from_residual-in_err-name.ensures.1 in
    let opens : OpensLocalFunction ts c.args.at = record { stands = c.requires.opens; word = c.requires.word } in
    rw (p.1, p.2) (local_without_name ts c.args.self.now.grammar.room c.args.at c.in_err-name.field-0.0 opens c.in_ok-within.ensures.0
    c.in_err-name.ensures)

pub overflow_add-at-3 : goal.overflow_add-at-3
overflow_add-at-3 g c = omega (
  arith,
  c.well_formed,
  has_within c.args.self.now.grammar.tokens.now (c.args.at + 2) (token.Name c.in_ok-name.name)
      c.in_ok-name.ensures.0,
)

pub returns-in_err-function : goal.returns-in_err-function
returns-in_err-function g c =
    let ts = c.args.self.now.grammar.tokens.now in
    let p = err_from_is_err_and c.from_residual-in_err-function.result c.from_residual-in_err-function.ensures.1 in
    let opens : OpensLocalFunction ts c.args.at = record { stands = c.requires.opens; word = c.requires.word } in
    rw (p.1, p.2) (local_without_body ts c.args.self.now.grammar.room c.args.at c.in_ok-name.name c.new.result c.in_err-function.field-0.0 opens
    c.in_ok-within.ensures.0 c.in_ok-name.ensures c.in_err-function.ensures)

pub returns : goal.returns
returns g c =
    let ts = c.args.self.now.grammar.tokens.now in
    let opens : OpensLocalFunction ts c.args.at = record { stands = c.requires.opens; word = c.requires.word } in
    local_function_found ts c.args.self.now.grammar.room c.args.at c.in_ok-name.name c.new.result c.in_ok-function.function c.func_at-func.result
    c.in_ok-stat.stat opens c.in_ok-within.ensures.0 c.in_ok-name.ensures c.new.ensures c.in_ok-function.ensures c.func_at-func.ensures
    c.in_ok-stat.ensures
