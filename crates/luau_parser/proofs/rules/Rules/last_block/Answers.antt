use Rattle.std.proofs.Common.{◌-◌, ◌+◌, refl}
use Rattle.std.proofs.lemmas.Result.{err_from_is_err_and}
use Rattle.type_skip.specs.declared.words.Word.TheVariants as words
use Rattle.luau_parser.proofs.StatementTurns.{faulty_block, block_without}
use Rattle.luau_parser.proofs.ArmTurns.{without_end, end_found, else_refuses, else_found}
use Rattle.luau_parser.proofs.rules.Rules.last_block.Goals as goal

pub returns-in_err-end : goal.returns-in_err-end
returns-in_err-end g c =
    let ts = c.args.self.now.grammar.tokens.now in
    let room = c.args.self.now.grammar.room - 1 in
    let p = err_from_is_err_and c.from_residual.result c.from_residual.ensures.1 in
    let f = c.in_err-end.field-0.0 in
    rw (p.1, p.2) (without_end ts room c.args.at f c.requires.no_arm (c.if-not-stands.ensures.absent refl) c.in_err-end.ensures)

pub returns-then-not-stands : goal.returns-then-not-stands
returns-then-not-stands g c = end_found c.args.self.now.grammar.tokens.now (c.args.self.now.grammar.room - 1) c.args.at c.in_ok-end.end c.requires.no_arm (c.if-not-stands.ensures.absent refl) c.in_ok-end.ensures

pub returns-in_err-last : goal.returns-in_err-last
returns-in_err-last g c =
    let ts = c.args.self.now.grammar.tokens.now in
    let room = c.args.self.now.grammar.room - 1 in
    let p = err_from_is_err_and c.from_residual-in_err-last.result c.from_residual-in_err-last.ensures.1 in
    let f = c.in_err-last.field-0.0 in
    rw (p.1, p.2) (else_refuses ts room c.args.at f c.requires.no_arm (c.if-not-stands.ensures.there refl) (faulty_block ts room (c.args.at + 1) words.End f c.in_err-last.ensures))

pub returns-in_err-end-2 : goal.returns-in_err-end-2
returns-in_err-end-2 g c =
    let ts = c.args.self.now.grammar.tokens.now in
    let room = c.args.self.now.grammar.room - 1 in
    let p = err_from_is_err_and c.from_residual-in_err-end-2.result c.from_residual-in_err-end-2.ensures.1 in
    let f = c.in_err-end-2.field-0.0 in
    rw (p.1, p.2) (else_refuses ts room c.args.at f c.requires.no_arm (c.if-not-stands.ensures.there refl) (block_without ts room (c.args.at + 1) words.End c.in_ok-last.last f c.in_ok-last.ensures c.in_err-end-2.ensures))

pub returns : goal.returns
returns g c = else_found c.args.self.now.grammar.tokens.now (c.args.self.now.grammar.room - 1) c.args.at c.in_ok-end-2.end c.in_ok-last.last c.requires.no_arm (c.if-not-stands.ensures.there refl) c.in_ok-last.ensures c.in_ok-end-2.ensures
