use Rattle.std.proofs.Common.{◌-◌}
use Rattle.std.proofs.lemmas.Result.{err_from_is_err_and}
use Rattle.expression_parser.proofs.BodyTurns.{behind_generics, behind_paren, behind_parameters, behind_result, generics_read, paren_read, parameters_read, result_read, generics_fault, fault_behind, block_fault, not_ended, body_found}
use Rattle.expression_parser.proofs.grammar.Grammar.body.Goals as goal

pub returns-in_err-open : goal.returns-in_err-open
returns-in_err-open g c =
    let p = err_from_is_err_and c.from_residual.result c.from_residual.ensures.1 in
    rw (p.1, p.2) (generics_fault c.args.self.now.tokens.now (c.args.self.now.room - 1) c.args.at c.args.added c.in_err-open.field-0.0
    c.in_err-open.ensures)

pub returns-in_err-inside : goal.returns-in_err-inside
returns-in_err-inside g c =
    let ts = c.args.self.now.tokens.now in
    let room = c.args.self.now.room - 1 in
    let p = err_from_is_err_and c.from_residual-in_err-inside.result c.from_residual-in_err-inside.ensures.1 in
    let goes = generics_read ts c.args.at c.in_ok-open.open c.in_ok-open.ensures in
    rw (p.1, p.2) (fault_behind ts room c.args.at c.args.added behind_generics c.in_ok-open.open c.in_err-inside.field-0.0 goes
    (λ v k. c.in_err-inside.ensures v (behind_paren k)))

pub returns-in_err-parameters : goal.returns-in_err-parameters
returns-in_err-parameters g c =
    let ts = c.args.self.now.tokens.now in
    let room = c.args.self.now.room - 1 in
    let p = err_from_is_err_and c.from_residual-in_err-parameters.result c.from_residual-in_err-parameters.ensures.1 in
    let goes = paren_read ts c.args.at c.in_ok-open.open c.in_ok-inside.inside
    (generics_read ts c.args.at c.in_ok-open.open c.in_ok-open.ensures) c.in_ok-inside.ensures in
    rw (p.1, p.2) (fault_behind ts room c.args.at c.args.added behind_paren c.in_ok-inside.inside c.in_err-parameters.field-0.0 goes
    (λ v k. c.in_err-parameters.ensures v (behind_parameters k)))

pub returns-in_err-begin : goal.returns-in_err-begin
returns-in_err-begin g c =
    let ts = c.args.self.now.tokens.now in
    let room = c.args.self.now.room - 1 in
    let p = err_from_is_err_and c.from_residual-in_err-begin.result c.from_residual-in_err-begin.ensures.1 in
    let to_paren = paren_read ts c.args.at c.in_ok-open.open c.in_ok-inside.inside
    (generics_read ts c.args.at c.in_ok-open.open c.in_ok-open.ensures) c.in_ok-inside.ensures in
    let goes = parameters_read ts c.args.at c.in_ok-inside.inside c.args.added c.in_ok-parameters.parameters to_paren
    c.in_ok-parameters.ensures in
    rw (p.1, p.2) (fault_behind ts room c.args.at c.args.added behind_parameters c.in_ok-parameters.parameters.end c.in_err-begin.field-0.0
    goes (λ v k. c.in_err-begin.ensures v (behind_result k)))

pub returns-in_err-block : goal.returns-in_err-block
returns-in_err-block g c =
    let ts = c.args.self.now.tokens.now in
    let room = c.args.self.now.room - 1 in
    let p = err_from_is_err_and c.from_residual-in_err-block.result c.from_residual-in_err-block.ensures.1 in
    let to_paren = paren_read ts c.args.at c.in_ok-open.open c.in_ok-inside.inside
    (generics_read ts c.args.at c.in_ok-open.open c.in_ok-open.ensures) c.in_ok-inside.ensures in
    let to_result = parameters_read ts c.args.at c.in_ok-inside.inside c.args.added c.in_ok-parameters.parameters to_paren
    c.in_ok-parameters.ensures in
    let goes = result_read ts c.args.at c.in_ok-parameters.parameters.end c.in_ok-begin.begin to_result c.in_ok-begin.ensures in
    rw (p.1, p.2) (block_fault ts room c.args.at c.args.added c.in_ok-begin.begin c.in_err-block.field-0.0 goes c.in_err-block.ensures)

pub returns-in_err-end : goal.returns-in_err-end
returns-in_err-end g c =
    let ts = c.args.self.now.tokens.now in
    let room = c.args.self.now.room - 1 in
    let p = err_from_is_err_and c.from_residual-in_err-end.result c.from_residual-in_err-end.ensures.1 in
    let to_paren = paren_read ts c.args.at c.in_ok-open.open c.in_ok-inside.inside
    (generics_read ts c.args.at c.in_ok-open.open c.in_ok-open.ensures) c.in_ok-inside.ensures in
    let to_result = parameters_read ts c.args.at c.in_ok-inside.inside c.args.added c.in_ok-parameters.parameters to_paren
    c.in_ok-parameters.ensures in
    let goes = result_read ts c.args.at c.in_ok-parameters.parameters.end c.in_ok-begin.begin to_result c.in_ok-begin.ensures in
    rw (p.1, p.2) (not_ended ts room c.args.at c.args.added c.in_ok-begin.begin c.in_ok-block.block c.in_err-end.field-0.0 goes
    c.in_ok-block.ensures c.in_err-end.ensures)

pub returns : goal.returns
returns g c =
    body_found c.args.self.now.tokens.now (c.args.self.now.room - 1) c.args.at c.args.added c.in_ok-open.open c.in_ok-inside.inside
    c.in_ok-parameters.parameters c.in_ok-begin.begin c.in_ok-block.block c.in_ok-end.end c.in_ok-open.ensures c.in_ok-inside.ensures
    c.in_ok-parameters.ensures c.in_ok-begin.ensures c.in_ok-block.ensures c.in_ok-end.ensures
