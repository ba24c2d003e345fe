use Rattle.std.proofs.Common.{◌-◌, ◌+◌, arith, refl}
use Rattle.std.proofs.lemmas.Result.{err_from_is_err_and}
use Rattle.syntax_tree.specs.declared.token.TokenKind.TheVariants as token
use Rattle.type_skip.specs.declared.words.Word.TheVariants as words
use Rattle.expression_parser.proofs.SameTurns.{has_within}
use Rattle.luau_parser.proofs.NodeStatements.{no_room}
use Rattle.luau_parser.proofs.StatementTurns.{faulty_block, block_without, repeat_parts, repeat_opens, repeat_block, repeat_condition, repeat_found}
use Rattle.luau_parser.proofs.rules.Rules.repeat_stat.Goals as goal

pub returns-in_err-within : goal.returns-in_err-within
returns-in_err-within g c =
    let p = err_from_is_err_and c.from_residual.result c.from_residual.ensures.1 in
    let e = c.in_err-within.ensures in
    rw (p.1, p.2, e.1) (no_room c.args.self.now.grammar.tokens.now c.args.self.now.grammar.room c.args.at repeat_parts (repeat_opens c.args.self.now.grammar.tokens.now c.args.at c.requires.opens) e.0)

pub overflow_add-at : goal.overflow_add-at
overflow_add-at g c = omega (arith, c.well_formed, has_within c.args.self.now.grammar.tokens.now c.args.at token.Repeat c.requires.opens)

pub returns-in_err-block : goal.returns-in_err-block
returns-in_err-block g c =
    let ts = c.args.self.now.grammar.tokens.now in
    let room = c.args.self.now.grammar.room in
    let p = err_from_is_err_and c.from_residual-in_err-block.result c.from_residual-in_err-block.ensures.1 in
    let f = c.in_err-block.field-0.0 in
    rw (p.1, p.2) (repeat_block ts room c.args.at f c.requires.opens c.in_ok-within.ensures.0 (faulty_block ts (room - 1) (c.args.at + 1) words.Until f c.in_err-block.ensures))

pub returns-in_err-begin : goal.returns-in_err-begin
returns-in_err-begin g c =
    let ts = c.args.self.now.grammar.tokens.now in
    let room = c.args.self.now.grammar.room in
    let p = err_from_is_err_and c.from_residual-in_err-begin.result c.from_residual-in_err-begin.ensures.1 in
    let f = c.in_err-begin.field-0.0 in
    rw (p.1, p.2) (repeat_block ts room c.args.at f c.requires.opens c.in_ok-within.ensures.0 (block_without ts (room - 1) (c.args.at + 1) words.Until c.in_ok-block.block f c.in_ok-block.ensures c.in_err-begin.ensures))

pub returns-in_err-part : goal.returns-in_err-part
returns-in_err-part g c =
    let p = err_from_is_err_and c.from_residual-in_err-part.result c.from_residual-in_err-part.ensures.1 in
    rw (p.1, p.2) (repeat_condition c.args.self.now.grammar.tokens.now c.args.self.now.grammar.room c.args.at c.in_ok-begin.begin c.in_ok-block.block c.in_err-part.field-0.0 c.requires.opens c.in_ok-within.ensures.0 c.in_ok-block.ensures c.in_ok-begin.ensures c.in_err-part.ensures)

pub returns : goal.returns
returns g c =
    repeat_found c.args.self.now.grammar.tokens.now c.args.self.now.grammar.room c.args.at c.in_ok-begin.begin c.max-nest.result c.in_ok-block.block c.in_ok-part.part c.in_ok-part.part.expr c.in_ok-stat.stat c.requires.opens
    c.in_ok-within.ensures.0 c.in_ok-block.ensures c.in_ok-begin.ensures c.in_ok-part.ensures c.max-nest.ensures refl c.in_ok-stat.ensures
