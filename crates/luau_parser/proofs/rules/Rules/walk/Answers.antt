use Rattle.std.proofs.Common.{◌-◌}
use Rattle.std.proofs.lemmas.Result.{err_from_is_err_and}
use Rattle.type_skip.specs.declared.words.Word.TheVariants as words
use Rattle.luau_parser.proofs.StatementTurns.{faulty_block, block_without}
use Rattle.luau_parser.proofs.ForTurns.{no_do, do_refuses, walk_values, walk_rest, walk_found}
use Rattle.luau_parser.proofs.rules.Rules.walk.Goals as goal

pub returns-in_err-values : goal.returns-in_err-values
returns-in_err-values g c =
    let p = err_from_is_err_and c.from_residual.result c.from_residual.ensures.1 in
    rw (p.1, p.2) (walk_values c.args.self.now.grammar.tokens.now (c.args.self.now.grammar.room - 1) c.args.at c.in_err-values.field-0.0 c.in_err-values.ensures)

pub returns-in_err-inside : goal.returns-in_err-inside
returns-in_err-inside g c =
    let ts = c.args.self.now.grammar.tokens.now in
    let room = c.args.self.now.grammar.room - 1 in
    let p = err_from_is_err_and c.from_residual-in_err-inside.result c.from_residual-in_err-inside.ensures.1 in
    let f = c.in_err-inside.field-0.0 in
    let values = c.in_ok-values.values in
    rw (p.1, p.2) (walk_rest ts room c.args.at values f c.in_ok-values.ensures (no_do ts room values.end f c.in_err-inside.ensures))

pub returns-in_err-block : goal.returns-in_err-block
returns-in_err-block g c =
    let ts = c.args.self.now.grammar.tokens.now in
    let room = c.args.self.now.grammar.room - 1 in
    let p = err_from_is_err_and c.from_residual-in_err-block.result c.from_residual-in_err-block.ensures.1 in
    let f = c.in_err-block.field-0.0 in
    let values = c.in_ok-values.values in
    let inside = c.in_ok-inside.inside in
    rw (p.1, p.2) (walk_rest ts room c.args.at values f c.in_ok-values.ensures (do_refuses ts room values.end inside f c.in_ok-inside.ensures (faulty_block ts room inside words.End f c.in_err-block.ensures)))

pub returns-in_err-end : goal.returns-in_err-end
returns-in_err-end g c =
    let ts = c.args.self.now.grammar.tokens.now in
    let room = c.args.self.now.grammar.room - 1 in
    let p = err_from_is_err_and c.from_residual-in_err-end.result c.from_residual-in_err-end.ensures.1 in
    let f = c.in_err-end.field-0.0 in
    let values = c.in_ok-values.values in
    let inside = c.in_ok-inside.inside in
    rw (p.1, p.2) (walk_rest ts room c.args.at values f c.in_ok-values.ensures (do_refuses ts room values.end inside f c.in_ok-inside.ensures (block_without ts room inside words.End c.in_ok-block.block f c.in_ok-block.ensures c.in_err-end.ensures)))

pub returns : goal.returns
returns g c =
    walk_found c.args.self.now.grammar.tokens.now (c.args.self.now.grammar.room - 1) c.args.at c.in_ok-inside.inside c.in_ok-end.end c.max.result c.in_ok-values.values c.in_ok-block.block c.in_ok-values.ensures c.in_ok-inside.ensures c.in_ok-block.ensures c.in_ok-end.ensures c.max.ensures
