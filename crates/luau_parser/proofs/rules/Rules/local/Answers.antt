use Rattle.std.proofs.Common.{arith, refl}
use Rattle.std.proofs.lemmas.Result.{err_from_is_err_and}
use Rattle.syntax_tree.specs.declared.token.TokenKind.TheVariants as token
use Rattle.expression_parser.proofs.SameTurns.{has_within}
use Rattle.luau_parser.proofs.LocalTurns.{OpensLocal, NamesLocals, faulty_local, faulty_locals, bare_found, faulty_values, local_found}
use Rattle.luau_parser.proofs.rules.Rules.local.Goals as goal

pub overflow_add-at : goal.overflow_add-at
overflow_add-at g c = omega (arith, c.well_formed, has_within c.args.self.now.grammar.tokens.now c.args.at token.Local c.requires.opens)

pub returns-in_err-first : goal.returns-in_err-first
returns-in_err-first g c =
    let ts = c.args.self.now.grammar.tokens.now in
    let p = err_from_is_err_and c.from_residual.result c.from_residual.ensures.1 in
    let opens : OpensLocal ts c.args.at = record { stands = c.requires.opens; no_function = c.requires.no_function } in
    rw (p.1, p.2) (faulty_local ts c.args.self.now.grammar.room c.args.at c.in_err-first.field-0.0 opens c.in_err-first.ensures)

pub returns-in_err-names : goal.returns-in_err-names
returns-in_err-names g c =
    let ts = c.args.self.now.grammar.tokens.now in
    let p = err_from_is_err_and c.from_residual-in_err-names.result c.from_residual-in_err-names.ensures.1 in
    let opens : OpensLocal ts c.args.at = record { stands = c.requires.opens; no_function = c.requires.no_function } in
    rw (p.1, p.2) (faulty_locals ts c.args.self.now.grammar.room c.args.at c.in_ok-first.first c.in_err-names.field-0.0 opens c.in_ok-first.ensures
    c.in_err-names.ensures)

pub returns-then-not-stands : goal.returns-then-not-stands
returns-then-not-stands g c =
    let ts = c.args.self.now.grammar.tokens.now in
    let opens : OpensLocal ts c.args.at = record { stands = c.requires.opens; no_function = c.requires.no_function } in
    let names : NamesLocals ts c.args.at c.in_ok-names.names = record
    { opens = opens; first = c.in_ok-first.first; one = c.in_ok-first.ensures; more = c.in_ok-names.ensures } in
    bare_found ts c.args.self.now.grammar.room c.args.at c.in_ok-names.names c.new.result c.in_ok-stat.stat names
    (c.if-not-stands.ensures.absent refl) c.new.ensures c.in_ok-stat.ensures

pub returns-in_err-values : goal.returns-in_err-values
returns-in_err-values g c =
    let ts = c.args.self.now.grammar.tokens.now in
    let p = err_from_is_err_and c.from_residual-in_err-values.result c.from_residual-in_err-values.ensures.1 in
    let opens : OpensLocal ts c.args.at = record { stands = c.requires.opens; no_function = c.requires.no_function } in
    let names : NamesLocals ts c.args.at c.in_ok-names.names = record
    { opens = opens; first = c.in_ok-first.first; one = c.in_ok-first.ensures; more = c.in_ok-names.ensures } in
    rw (p.1, p.2) (faulty_values ts c.args.self.now.grammar.room c.args.at c.in_ok-names.names c.in_err-values.field-0.0 names
    (c.if-not-stands.ensures.there refl) c.in_err-values.ensures)

pub returns : goal.returns
returns g c =
    let ts = c.args.self.now.grammar.tokens.now in
    let opens : OpensLocal ts c.args.at = record { stands = c.requires.opens; no_function = c.requires.no_function } in
    let names : NamesLocals ts c.args.at c.in_ok-names.names = record
    { opens = opens; first = c.in_ok-first.first; one = c.in_ok-first.ensures; more = c.in_ok-names.ensures } in
    local_found ts c.args.self.now.grammar.room c.args.at c.in_ok-names.names c.in_ok-values.values c.in_ok-stat-2.stat names
    (c.if-not-stands.ensures.there refl) c.in_ok-values.ensures c.in_ok-stat-2.ensures
