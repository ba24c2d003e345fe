use Rattle.std.proofs.Common.{arith, refl}
use Rattle.std.proofs.lemmas.Result.{err_from_is_err_and}
use Rattle.syntax_tree.specs.declared.token.TokenKind.TheVariants as token
use Rattle.expression_parser.proofs.SameTurns.{has_within}
use Rattle.luau_parser.proofs.NodeStatements.{no_room}
use Rattle.luau_parser.proofs.ForTurns.{for_parts, for_opens, for_bind, for_count, for_names, for_without_in, for_walk, count_loop, walk_loop}
use Rattle.luau_parser.proofs.rules.Rules.for_stat.Goals as goal

pub returns-in_err-within : goal.returns-in_err-within
returns-in_err-within g c =
    let p = err_from_is_err_and c.from_residual.result c.from_residual.ensures.1 in
    let e = c.in_err-within.ensures in
    rw (p.1, p.2, e.1) (no_room c.args.self.now.grammar.tokens.now c.args.self.now.grammar.room c.args.at for_parts (for_opens c.args.self.now.grammar.tokens.now c.args.at c.requires.opens) e.0)

pub overflow_add-at : goal.overflow_add-at
overflow_add-at g c = omega (arith, c.well_formed, has_within c.args.self.now.grammar.tokens.now c.args.at token.For c.requires.opens)

pub returns-in_err-first : goal.returns-in_err-first
returns-in_err-first g c =
    let p = err_from_is_err_and c.from_residual-in_err-first.result c.from_residual-in_err-first.ensures.1 in
    rw (p.1, p.2) (for_bind c.args.self.now.grammar.tokens.now c.args.self.now.grammar.room c.args.at c.in_err-first.field-0.0 c.requires.opens c.in_ok-within.ensures.0 c.in_err-first.ensures)

pub returns-in_err-count : goal.returns-in_err-count
returns-in_err-count g c =
    let p = err_from_is_err_and c.from_residual-in_err-count.result c.from_residual-in_err-count.ensures.1 in
    rw (p.1, p.2) (for_count c.args.self.now.grammar.tokens.now c.args.self.now.grammar.room c.args.at c.in_ok-first.first c.in_err-count.field-0.0 c.requires.opens c.in_ok-within.ensures.0 c.in_ok-first.ensures (c.if-stands.ensures.there refl) c.in_err-count.ensures)

pub returns-in_err-names : goal.returns-in_err-names
returns-in_err-names g c =
    let p = err_from_is_err_and c.from_residual-in_err-names.result c.from_residual-in_err-names.ensures.1 in
    rw (p.1, p.2) (for_names c.args.self.now.grammar.tokens.now c.args.self.now.grammar.room c.args.at c.in_ok-first.first c.in_err-names.field-0.0 c.requires.opens c.in_ok-within.ensures.0 c.in_ok-first.ensures (c.if-stands.ensures.absent refl) c.in_err-names.ensures)

pub returns-in_err-begin : goal.returns-in_err-begin
returns-in_err-begin g c =
    let p = err_from_is_err_and c.from_residual-in_err-begin.result c.from_residual-in_err-begin.ensures.1 in
    rw (p.1, p.2) (for_without_in c.args.self.now.grammar.tokens.now c.args.self.now.grammar.room c.args.at c.in_ok-first.first c.in_ok-names.names c.in_err-begin.field-0.0 c.requires.opens c.in_ok-within.ensures.0 c.in_ok-first.ensures (c.if-stands.ensures.absent refl) c.in_ok-names.ensures c.in_err-begin.ensures)

pub returns-in_err-walk : goal.returns-in_err-walk
returns-in_err-walk g c =
    let p = err_from_is_err_and c.from_residual-in_err-walk.result c.from_residual-in_err-walk.ensures.1 in
    rw (p.1, p.2) (for_walk c.args.self.now.grammar.tokens.now c.args.self.now.grammar.room c.args.at c.in_ok-begin.begin c.in_ok-first.first c.in_ok-names.names c.in_err-walk.field-0.0 c.requires.opens c.in_ok-within.ensures.0 c.in_ok-first.ensures (c.if-stands.ensures.absent refl) c.in_ok-names.ensures c.in_ok-begin.ensures c.in_err-walk.ensures)

pub returns-then-stands : goal.returns-then-stands
returns-then-stands g c =
    count_loop c.args.self.now.grammar.tokens.now c.args.self.now.grammar.room c.args.at c.in_ok-first.first c.in_ok-count.count c.in_ok-count.count.start c.in_ok-count.count.limit c.in_ok-stat.stat c.requires.opens c.in_ok-within.ensures.0
    c.in_ok-first.ensures (c.if-stands.ensures.there refl) c.in_ok-count.ensures refl refl c.in_ok-stat.ensures

pub returns : goal.returns
returns g c =
    walk_loop c.args.self.now.grammar.tokens.now c.args.self.now.grammar.room c.args.at c.in_ok-begin.begin c.in_ok-first.first c.in_ok-names.names c.in_ok-walk.walk c.in_ok-stat-2.stat c.requires.opens c.in_ok-within.ensures.0
    c.in_ok-first.ensures (c.if-stands.ensures.absent refl) c.in_ok-names.ensures c.in_ok-begin.ensures c.in_ok-walk.ensures c.in_ok-stat-2.ensures
