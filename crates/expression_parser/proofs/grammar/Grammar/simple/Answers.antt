use Rattle.std.proofs.Common.{sym}
use Rattle.std.proofs.lemmas.Result.{err_from_is_err_and}
use Rattle.syntax_tree.specs.Places.{kind_at}
use Rattle.syntax_tree.specs.declared.token.TokenKind.TheVariants as token
use Rattle.expression_parser.specs.declared.parts.Ending.TheVariants as endings
use Rattle.expression_parser.specs.declared.parts.Prefix.{Prefix}
use Rattle.expression_parser.proofs.ClassesToTokens.{begins_name}
use Rattle.expression_parser.proofs.PrefixBegins.{begins_named, begins_in_parenthesis, prefix_found, fault_in_suffixes, fault_in_parenthesis}
use Rattle.expression_parser.proofs.SameTurns.{has_within}
use Rattle.expression_parser.proofs.SimpleTurns.{no_room_for_whole, no_room_for_parenthesis, nothing_begins}
use Rattle.expression_parser.proofs.TableTurns.{as_simple}
use Rattle.expression_parser.proofs.grammar.Grammar.simple.Goals as goal

pub returns-in_err-within-in-Whole : goal.returns-in_err-within-in-Whole
returns-in_err-within-in-Whole g c =
    let p = err_from_is_err_and c.from_residual.result c.from_residual.ensures.1 in
    let e = c.in_err-within-in-Whole.ensures in
    rw (p.1, p.2, e.1) (no_room_for_whole c.args.self.now.tokens.now c.args.self.now.room c.args.at (sym c.in-Whole.ensures) e.0)

pub named-requires : goal.named-requires
named-requires g c = record { there = has_within c.args.self.now.tokens.now c.args.at (token.Name c.in-Name.name) (begins_name (kind_at c.args.self.now.tokens.now c.args.at) c.in-Name.name (sym c.in-Name.ensures)) }

pub returns-in_err-prefix-in-Name : goal.returns-in_err-prefix-in-Name
returns-in_err-prefix-in-Name g c =
    let ts = c.args.self.now.tokens.now in
    let room = c.args.self.now.room in
    let first = c.in_ok-first-in-Name.first in
    let p = err_from_is_err_and c.from_residual-in_err-prefix-in-Name.result c.from_residual-in_err-prefix-in-Name.ensures.1 in
    rw (p.1, p.2) (fault_in_suffixes ts room c.args.at first c.in_err-prefix-in-Name.field-0.0 (begins_named ts room c.args.at c.in-Name.name first (sym c.in-Name.ensures) c.in_ok-first-in-Name.ensures) c.in_err-prefix-in-Name.ensures)

pub returns-in_err-within-in-Paren : goal.returns-in_err-within-in-Paren
returns-in_err-within-in-Paren g c =
    let p = err_from_is_err_and c.from_residual-in_err-within-in-Paren.result c.from_residual-in_err-within-in-Paren.ensures.1 in
    let e = c.in_err-within-in-Paren.ensures in
    rw (p.1, p.2, e.1) (no_room_for_parenthesis c.args.self.now.tokens.now c.args.self.now.room c.args.at (sym c.in-Paren.ensures) e.0)

pub returns-in_err-part-in-Paren : goal.returns-in_err-part-in-Paren
returns-in_err-part-in-Paren g c =
    let p = err_from_is_err_and c.from_residual-in_err-part-in-Paren.result c.from_residual-in_err-part-in-Paren.ensures.1 in
    rw (p.1, p.2) (fault_in_parenthesis c.args.self.now.tokens.now c.args.self.now.room c.args.at c.in_err-part-in-Paren.field-0.0 (sym c.in-Paren.ensures) c.in_ok-within-in-Paren.ensures.0 c.in_err-part-in-Paren.ensures)

pub returns-in_err-prefix-in-Paren : goal.returns-in_err-prefix-in-Paren
returns-in_err-prefix-in-Paren g c =
    let ts = c.args.self.now.tokens.now in
    let room = c.args.self.now.room in
    let part = c.in_ok-part-in-Paren.part in
    let first : Prefix = record { part = part; ending = endings.Paren } in
    let p = err_from_is_err_and c.from_residual-in_err-prefix-in-Paren.result c.from_residual-in_err-prefix-in-Paren.ensures.1 in
    rw (p.1, p.2) (fault_in_suffixes ts room c.args.at first c.in_err-prefix-in-Paren.field-0.0 (begins_in_parenthesis ts room c.args.at part (sym c.in-Paren.ensures) c.in_ok-within-in-Paren.ensures.0 c.in_ok-part-in-Paren.ensures) c.in_err-prefix-in-Paren.ensures)

pub returns-in-Table : goal.returns-in-Table
returns-in-Table g c = as_simple c.args.self.now.tokens.now c.args.self.now.room c.args.at c.table.result (sym c.in-Table.ensures) c.table.ensures

pub returns-in_ok-prefix-in-Name : goal.returns-in_ok-prefix-in-Name
returns-in_ok-prefix-in-Name g c =
    let ts = c.args.self.now.tokens.now in
    let room = c.args.self.now.room in
    let first = c.in_ok-first-in-Name.first in
    prefix_found ts room c.args.at first c.in_ok-prefix-in-Name.prefix (begins_named ts room c.args.at c.in-Name.name first (sym c.in-Name.ensures) c.in_ok-first-in-Name.ensures) c.in_ok-prefix-in-Name.ensures

pub returns-in_ok-prefix-in-Paren : goal.returns-in_ok-prefix-in-Paren
returns-in_ok-prefix-in-Paren g c =
    let ts = c.args.self.now.tokens.now in
    let room = c.args.self.now.room in
    let part = c.in_ok-part-in-Paren.part in
    let first : Prefix = record { part = part; ending = endings.Paren } in
    prefix_found ts room c.args.at first c.in_ok-prefix-in-Paren.prefix (begins_in_parenthesis ts room c.args.at part (sym c.in-Paren.ensures) c.in_ok-within-in-Paren.ensures.0 c.in_ok-part-in-Paren.ensures) c.in_ok-prefix-in-Paren.ensures

pub returns-in-Nothing : goal.returns-in-Nothing
returns-in-Nothing g c = nothing_begins c.args.self.now.tokens.now c.args.self.now.room c.args.at (sym c.in-Nothing.ensures)
