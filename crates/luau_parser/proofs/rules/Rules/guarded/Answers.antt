use Rattle.std.proofs.Common.{◌-◌}
use Rattle.std.proofs.lemmas.Result.{err_from_is_err_and}
use Rattle.type_skip.specs.declared.words.Word.TheVariants as words
use Rattle.luau_parser.proofs.StatementTurns.{faulty_expression, expression_without}
use Rattle.luau_parser.proofs.ArmTurns.{faulty_condition, faulty_body, guarded_found}
use Rattle.luau_parser.proofs.rules.Rules.guarded.Goals as goal

pub returns-in_err-part : goal.returns-in_err-part
returns-in_err-part g c =
    let ts = c.args.self.now.grammar.tokens.now in
    let room = c.args.self.now.grammar.room - 1 in
    let p = err_from_is_err_and c.from_residual.result c.from_residual.ensures.1 in
    let f = c.in_err-part.field-0.0 in
    rw (p.1, p.2) (faulty_condition ts room c.args.at f (faulty_expression ts room c.args.at words.Then f c.in_err-part.ensures))

pub returns-in_err-begin : goal.returns-in_err-begin
returns-in_err-begin g c =
    let ts = c.args.self.now.grammar.tokens.now in
    let room = c.args.self.now.grammar.room - 1 in
    let p = err_from_is_err_and c.from_residual-in_err-begin.result c.from_residual-in_err-begin.ensures.1 in
    let f = c.in_err-begin.field-0.0 in
    rw (p.1, p.2) (faulty_condition ts room c.args.at f (expression_without ts room c.args.at words.Then c.in_ok-part.part f c.in_ok-part.ensures c.in_err-begin.ensures))

pub returns-in_err-block : goal.returns-in_err-block
returns-in_err-block g c =
    let ts = c.args.self.now.grammar.tokens.now in
    let room = c.args.self.now.grammar.room - 1 in
    let p = err_from_is_err_and c.from_residual-in_err-block.result c.from_residual-in_err-block.ensures.1 in
    let f = c.in_err-block.field-0.0 in
    rw (p.1, p.2) (faulty_body ts room c.args.at c.in_ok-begin.begin c.in_ok-part.part f c.in_ok-part.ensures c.in_ok-begin.ensures c.in_err-block.ensures)

pub returns : goal.returns
returns g c = guarded_found c.args.self.now.grammar.tokens.now (c.args.self.now.grammar.room - 1) c.args.at c.in_ok-begin.begin c.max.result c.in_ok-part.part c.in_ok-block.block c.in_ok-part.ensures c.in_ok-begin.ensures c.in_ok-block.ensures c.max.ensures
