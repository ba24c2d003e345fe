use Rattle.std.proofs.Common.{◌-◌, refl}
use Rattle.std.proofs.lemmas.Result.{err_from_is_err_and}
use Rattle.type_skip.specs.declared.words.Word.TheVariants as words
use Rattle.luau_parser.proofs.StatementTurns.{faulty_expression, expression_without}
use Rattle.luau_parser.proofs.ForTurns.{head_start, head_limit, head_step, limits_found, limits_and_step}
use Rattle.luau_parser.proofs.rules.Rules.limits.Goals as goal

pub returns-in_err-start : goal.returns-in_err-start
returns-in_err-start g c =
    let ts = c.args.self.now.grammar.tokens.now in
    let room = c.args.self.now.grammar.room - 1 in
    let p = err_from_is_err_and c.from_residual.result c.from_residual.ensures.1 in
    let f = c.in_err-start.field-0.0 in
    rw (p.1, p.2) (head_start ts room c.args.at f (faulty_expression ts room c.args.at words.Comma f c.in_err-start.ensures))

pub returns-in_err-begin : goal.returns-in_err-begin
returns-in_err-begin g c =
    let ts = c.args.self.now.grammar.tokens.now in
    let room = c.args.self.now.grammar.room - 1 in
    let p = err_from_is_err_and c.from_residual-in_err-begin.result c.from_residual-in_err-begin.ensures.1 in
    let f = c.in_err-begin.field-0.0 in
    rw (p.1, p.2) (head_start ts room c.args.at f (expression_without ts room c.args.at words.Comma c.in_ok-start.start f c.in_ok-start.ensures c.in_err-begin.ensures))

pub returns-in_err-limit : goal.returns-in_err-limit
returns-in_err-limit g c =
    let ts = c.args.self.now.grammar.tokens.now in
    let room = c.args.self.now.grammar.room - 1 in
    let p = err_from_is_err_and c.from_residual-in_err-limit.result c.from_residual-in_err-limit.ensures.1 in
    let f = c.in_err-limit.field-0.0 in
    rw (p.1, p.2) (head_limit ts room c.args.at c.in_ok-begin.begin c.in_ok-start.start f c.in_ok-start.ensures c.in_ok-begin.ensures c.in_err-limit.ensures)

pub returns-then-not-stands : goal.returns-then-not-stands
returns-then-not-stands g c =
    limits_found c.args.self.now.grammar.tokens.now (c.args.self.now.grammar.room - 1) c.args.at c.in_ok-begin.begin c.max-nest.result c.in_ok-start.start c.in_ok-limit.limit c.in_ok-start.ensures c.in_ok-begin.ensures c.in_ok-limit.ensures (c.if-not-stands.ensures.absent refl) c.max-nest.ensures

pub returns-in_err-part : goal.returns-in_err-part
returns-in_err-part g c =
    let ts = c.args.self.now.grammar.tokens.now in
    let room = c.args.self.now.grammar.room - 1 in
    let p = err_from_is_err_and c.from_residual-in_err-part.result c.from_residual-in_err-part.ensures.1 in
    let f = c.in_err-part.field-0.0 in
    rw (p.1, p.2) (head_step ts room c.args.at c.in_ok-begin.begin c.in_ok-start.start c.in_ok-limit.limit f c.in_ok-start.ensures c.in_ok-begin.ensures c.in_ok-limit.ensures (c.if-not-stands.ensures.there refl) c.in_err-part.ensures)

pub returns : goal.returns
returns g c =
    limits_and_step c.args.self.now.grammar.tokens.now (c.args.self.now.grammar.room - 1) c.args.at c.in_ok-begin.begin c.max-nest.result c.max.result c.in_ok-start.start c.in_ok-limit.limit c.in_ok-part.part c.in_ok-part.part.expr
    c.in_ok-start.ensures c.in_ok-begin.ensures c.in_ok-limit.ensures (c.if-not-stands.ensures.there refl) c.in_ok-part.ensures c.max-nest.ensures c.max.ensures refl
