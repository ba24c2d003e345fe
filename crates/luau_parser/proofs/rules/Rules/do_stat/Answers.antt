use Rattle.std.proofs.Common.{◌-◌, ◌+◌, arith}
use Rattle.std.proofs.lemmas.Result.{err_from_is_err_and}
use Rattle.syntax_tree.specs.declared.token.TokenKind.TheVariants as token
use Rattle.type_skip.specs.declared.words.Word.TheVariants as words
use Rattle.expression_parser.proofs.SameTurns.{has_within}
use Rattle.luau_parser.proofs.NodeStatements.{no_room, faulty_part}
use Rattle.luau_parser.proofs.StatementTurns.{block_word, faulty_block, block_without, do_opens, do_found}
use Rattle.luau_parser.proofs.rules.Rules.do_stat.Goals as goal

pub returns-in_err-within : goal.returns-in_err-within
returns-in_err-within g c =
    let ts = c.args.self.now.grammar.tokens.now in
    let p = err_from_is_err_and c.from_residual.result c.from_residual.ensures.1 in
    let e = c.in_err-within.ensures in
    rw (p.1, p.2, e.1) (no_room ts c.args.self.now.grammar.room c.args.at (block_word words.End) (do_opens ts c.args.at c.requires.opens) e.0)

pub overflow_add-at : goal.overflow_add-at
overflow_add-at g c = omega (arith, c.well_formed, has_within c.args.self.now.grammar.tokens.now c.args.at token.Do c.requires.opens)

pub returns-in_err-block : goal.returns-in_err-block
returns-in_err-block g c =
    let ts = c.args.self.now.grammar.tokens.now in
    let room = c.args.self.now.grammar.room in
    let p = err_from_is_err_and c.from_residual-in_err-block.result c.from_residual-in_err-block.ensures.1 in
    let f = c.in_err-block.field-0.0 in
    rw (p.1, p.2) (faulty_part ts room c.args.at (block_word words.End) f (do_opens ts c.args.at c.requires.opens) c.in_ok-within.ensures.0 (faulty_block ts (room - 1) (c.args.at + 1) words.End f c.in_err-block.ensures))

pub returns-in_err-end : goal.returns-in_err-end
returns-in_err-end g c =
    let ts = c.args.self.now.grammar.tokens.now in
    let room = c.args.self.now.grammar.room in
    let p = err_from_is_err_and c.from_residual-in_err-end.result c.from_residual-in_err-end.ensures.1 in
    let f = c.in_err-end.field-0.0 in
    rw (p.1, p.2) (faulty_part ts room c.args.at (block_word words.End) f (do_opens ts c.args.at c.requires.opens) c.in_ok-within.ensures.0 (block_without ts (room - 1) (c.args.at + 1) words.End c.in_ok-block.block f c.in_ok-block.ensures c.in_err-end.ensures))

pub returns : goal.returns
returns g c =
    do_found c.args.self.now.grammar.tokens.now c.args.self.now.grammar.room c.args.at c.in_ok-end.end c.in_ok-block.block c.in_ok-stat.stat c.requires.opens c.in_ok-within.ensures.0 c.in_ok-block.ensures c.in_ok-end.ensures c.in_ok-stat.ensures
