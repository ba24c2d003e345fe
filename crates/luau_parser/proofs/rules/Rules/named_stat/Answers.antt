use Rattle.std.proofs.lemmas.Result.{err_from_is_err_and}
use Rattle.syntax_tree.specs.declared.token.TokenKind.TheVariants.{Name}
use Rattle.expression_parser.proofs.SameTurns.{has_within}
use Rattle.luau_parser.proofs.NamedTurns.{prefix_read, suffixes_fail, prefix_stat_fails, prefix_stat_found}
use Rattle.luau_parser.proofs.rules.Rules.named_stat.Goals as goal

pub named-requires : goal.named-requires
named-requires g c = record { there = has_within c.args.self.now.grammar.tokens.now c.args.at (Name c.args.name) c.requires.opens }

pub returns-in_err-part : goal.returns-in_err-part
returns-in_err-part g c =
    let p = err_from_is_err_and c.from_residual-in_err-part.result c.from_residual-in_err-part.ensures.1 in
    rw (p.1, p.2) (suffixes_fail c.args.self.now.grammar.tokens.now c.args.self.now.grammar.room c.args.at c.args.name c.in_ok-first.first
    c.in_err-part.field-0.0 c.requires.opens c.requires.plain c.in_ok-first.ensures c.in_err-part.ensures)

pub prefix_stat-requires-clause-prefix : goal.prefix_stat-requires-clause-prefix
prefix_stat-requires-clause-prefix g c =
    prefix_read c.args.self.now.grammar.tokens.now c.args.self.now.grammar.room c.args.at c.args.name c.in_ok-first.first c.in_ok-part.field-0 c.requires.opens
    c.in_ok-first.ensures c.in_ok-part.ensures

pub returns-in_err-statement : goal.returns-in_err-statement
returns-in_err-statement g c =
    let p = err_from_is_err_and c.from_residual-in_err-statement.result c.from_residual-in_err-statement.ensures.1 in
    rw (p.1, p.2) (prefix_stat_fails c.args.self.now.grammar.tokens.now c.args.self.now.grammar.room c.args.at c.args.name c.in_ok-first.first
    c.in_ok-part.field-0 c.in_err-statement.field-0.0 c.requires.opens c.requires.plain c.in_ok-first.ensures c.in_ok-part.ensures
    c.in_err-statement.ensures)

pub returns : goal.returns
returns g c = prefix_stat_found c.args.self.now.grammar.tokens.now c.args.self.now.grammar.room c.args.at c.behind_semicolon.result c.args.name
    c.in_ok-first.first c.in_ok-part.field-0 c.in_ok-statement.statement c.requires.opens c.requires.plain c.in_ok-first.ensures c.in_ok-part.ensures
    c.in_ok-statement.ensures c.behind_semicolon.ensures
